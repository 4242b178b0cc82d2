-- What making an operation does to the tables.
use Rattle.std.proofs.Common.{◌≡◌, ℕ, List, map, set, sym, ap, ◌∙◌}
use Rattle.std.proofs.lemmas.List.{map-set}
use Rattle.slots.specs.Cells.{Cell}
use Rattle.slots.specs.Cells.{Free, Live}
use Rattle.slots.specs.Cells.{cell_at, viewed, next_of}
use Rattle.slots.proofs.CellLaws.{cell_at_viewed}

-- a cell is made live
module _ {X Y : Type 0} (f : X → Y) where
  pub view_occupied : (cs ds : List (Cell X)) (s r : ℕ) (x : X) → ds ≡ set cs s (Live r x) → cell_at cs s ≡ Free r
      → map (viewed f) ds ≡ set (map (viewed f) cs) s (Live (next_of (cell_at (map (viewed f) cs) s)) (f x))
  view_occupied cs ds s r x e w =
      ap (map (viewed f)) e ∙ map-set (viewed f) cs s (Live r x)
      ∙ ap (λ k. set (map (viewed f) cs) s (Live k (f x))) (sym (ap next_of (cell_at_viewed f cs s ∙ ap (viewed f) w)))
