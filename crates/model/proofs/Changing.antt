-- A store in which a type was set, or uses were replaced, is sound.
use Rattle.std.proofs.Common.{◌≡◌, ℕ, Bool, true, false, cond, List, [], ◌∷◌, map, length, set, sym, refl, ap, ◌∙◌, inl, inr}
use Rattle.std.proofs.lemmas.List.{get_or-set_same, get_or-set_other, set_past, length-set}
use Rattle.std.proofs.lemmas.Bool.{cases_eq, cases_lt, and_parts, and_from}
use Rattle.slots.specs.Cells.{Cell}
use Rattle.slots.specs.Cells.{Spent}
use Rattle.slots.specs.Cells.{cell_at, viewed}
use Rattle.slots.proofs.CellLaws.{cell_at_viewed}
use Rattle.model.specs.declared.ids.DefiningEntity.{DefiningEntity}
use Rattle.model.specs.declared.ids.DefiningEntity.TheVariants as definer
use Rattle.model.specs.declared.ids.Value.{Value}
use Rattle.model.specs.Model.{Model, types_of, results_of, is_value, are_values}
use Rattle.model.specs.Calls.{retyped, reargued, typed_at, same_value, replaced, reused, replace_all}
use Rattle.model.specs.Sound.{Sound}
use Rattle.model.proofs.InPlace.{Changed, found_same, values_same, ops_sound, blocks_sound}

pub changed_one : {X : Type 0} (f : X → X) (cs : List (Cell X)) (s : ℕ) → Changed f cs (set cs s (viewed f (cell_at cs s)))
changed_one f cs s k =
    elim (cases_eq k s) [
      | inl e ↦ elim (cases_lt s (length cs)) [
        | inl lt ↦ inr (ap (cell_at (set cs s (viewed f (cell_at cs s)))) e ∙ get_or-set_same cs s (viewed f (cell_at cs s)) Spent lt ∙ ap (λ z. viewed f (cell_at cs z)) (sym e))
        | inr le ↦ inl (ap (λ z. cell_at z k) (set_past cs s (viewed f (cell_at cs s)) le))
      ]
      | inr ne ↦ inl (get_or-set_other cs s k (viewed f (cell_at cs s)) Spent ne)
    ]

pub typed_sound : (m : Model) (e : DefiningEntity) (i t : ℕ) → Sound m → Sound (typed_at m e i t)
typed_sound m (definer.Op o) i t σ = ops_sound m _ (retyped i t) (changed_one (retyped i t) m.ops o.slot) (λ x. length-set x.results i t) (λ x. refl) (λ x h. h) σ
typed_sound m (definer.Block b) i t σ = blocks_sound m _ (reargued i t) (changed_one (reargued i t) m.blocks b.slot) (λ x. length-set x.args i t) σ

pub changed_uses : (m : Model) (v w : Value) → Changed (reused v w) m.ops (replace_all m v w).ops
changed_uses m v w s = inr (cell_at_viewed (reused v w) m.ops s)

-- the values are those that were
pub replaced_values : (m : Model) (v w : Value) (us : List Value) → are_values (replace_all m v w) us ≡ are_values m us
replaced_values m v w us = values_same m (replace_all m v w) sized us
  where
    sized : (e : DefiningEntity) → length (types_of (replace_all m v w) e) ≡ length (types_of m e)
    sized (definer.Op o) = found_same (reused v w) m.ops _ (changed_uses m v w) (λ q. length (results_of q)) (λ x. refl) o.slot o.generation
    sized (definer.Block b) = refl

pub replace_sound : (m : Model) (v w : Value) → is_value m w ≡ true → Sound m → Sound (replace_all m v w)
replace_sound m v w h σ = ops_sound m _ (reused v w) (changed_uses m v w) (λ x. refl) (λ x. refl) (λ x. all x.operands) σ
  where
    one : (u : Value) (b : Bool) → is_value m u ≡ true → is_value m (cond b w u) ≡ true
    one u true e = h
    one u false e = e

    all : (us : List Value) → are_values m us ≡ true → are_values m (map (replaced v w) us) ≡ true
    all [] e = refl
    all (u ∷ us) e =
        let p = and_parts (is_value m u) (are_values m us) e in
        and_from (is_value m (replaced v w u)) (are_values m (map (replaced v w) us)) (one u (same_value u v) p.0) (all us p.1)
