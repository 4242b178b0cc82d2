-- A record that is changed in its place.
use Rattle.std.proofs.Common.{◌≡◌, ℕ, map, length, set, sym, ap, ◌∙◌}
use Rattle.std.proofs.lemmas.List.{map-set, length-set}
use Rattle.slots.specs.declared.table.Table.{Table}
use Rattle.slots.specs.Cells.{Cell, Free, Live, Spent, cells, cell_at, viewed, CellChanged, ChangedBy}
use Rattle.slots.proofs.CellLaws.{cell_at_viewed}
use Rattle.tables.specs.View.{Changed}

-- what R says of the records, h says in the eyes of f
module _ {X Y : Type 0} (f : X → Y) (h : Y → Y) (R : X → X → Type 0) (seen : (x y : X) → R x y → f y ≡ h (f x)) where
  pub cell_changed : (c d : Cell X) → CellChanged R c d → viewed f d ≡ viewed h (viewed f c)
  cell_changed (Free g) d e = ap (viewed f) e
  cell_changed (Live g x) d e = ap (viewed f) e.1 ∙ ap (Live g) (seen x e.0 e.2)
  cell_changed Spent d e = ap (viewed f) e

  pub changed_by : (t u : Table X) (s : ℕ) → ChangedBy R s (cells t) (cells u) → Changed f h s t u
  changed_by t u s e = record {
    after =
        ap (map (viewed f)) e.1 ∙ map-set (viewed f) (cells t) s e.0
        ∙ ap (set (map (viewed f) (cells t)) s) (cell_changed (cell_at (cells t) s) e.0 e.2 ∙ ap (viewed h) (sym (cell_at_viewed f (cells t) s)));
    len = ap length e.1 ∙ length-set (cells t) s e.0;
  }
