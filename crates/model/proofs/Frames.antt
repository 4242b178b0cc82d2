-- What stays where no live cell changes.
use Rattle.std.proofs.Common.{◌≡◌, ℕ, true, ltb, List, [], ◌∷◌, length, Some, None, Option, sym, refl, ap, ◌∙◌, arith}
use Rattle.std.proofs.lemmas.Bool.{and_parts, and_from, ltb-true}
use Rattle.slots.specs.Cells.{Cell}
use Rattle.slots.specs.Cells.{Live}
use Rattle.slots.specs.Cells.{cell_at, found, is_live}
use Rattle.slots.proofs.CellLaws.{found_live, live_found, live_is}
use Rattle.model.specs.declared.ids.DefiningEntity.{DefiningEntity}
use Rattle.model.specs.declared.ids.DefiningEntity.TheVariants as definer
use Rattle.model.specs.declared.ids.Value.{Value}
use Rattle.model.specs.Model.{Model, types_of, is_value, are_values, results_of, args_of, find_op, find_block}

abbrev pub Keeps : {X : Type 0} → List (Cell X) → List (Cell X) → Type 0
Keeps {X} cs ds = (s g : ℕ) (x : X) → cell_at cs s ≡ Live g x → cell_at ds s ≡ Live g x

pub found_kept : {X : Type 0} (cs ds : List (Cell X)) → Keeps cs ds → (s g : ℕ) (x : X) → found cs s g ≡ Some x → found ds s g ≡ Some x
found_kept cs ds k s g x e = live_found ds s g x (k s g x (found_live cs s g x e))

pub is_live_kept : {X : Type 0} (cs ds : List (Cell X)) → Keeps cs ds → (t : ℕ) → is_live (cell_at cs t) ≡ true → is_live (cell_at ds t) ≡ true
is_live_kept cs ds k t h = let l = live_is (cell_at cs t) h in ap is_live (k t l.0 l.1 l.2)

module _ (m n : Model) (ko : Keeps m.ops n.ops) (kb : Keeps m.blocks n.blocks) where
  pub value_kept : (e : DefiningEntity) (i : ℕ) → ltb i (length (types_of m e)) ≡ true → types_of n e ≡ types_of m e
  value_kept (definer.Op o) i h = at (find_op m o) refl
    where
      at : (q : Option _) → find_op m o ≡ q → results_of (find_op n o) ≡ results_of (find_op m o)
      at None e = absurd (omega (arith, ltb-true i 0 (ap (λ z. ltb i (length (results_of z))) (sym e) ∙ h)))
      at (Some x) e = ap results_of (found_kept m.ops n.ops ko o.slot o.generation x e ∙ sym e)
  value_kept (definer.Block b) i h = at (find_block m b) refl
    where
      at : (q : Option _) → find_block m b ≡ q → args_of (find_block n b) ≡ args_of (find_block m b)
      at None e = absurd (omega (arith, ltb-true i 0 (ap (λ z. ltb i (length (args_of z))) (sym e) ∙ h)))
      at (Some x) e = ap args_of (found_kept m.blocks n.blocks kb b.slot b.generation x e ∙ sym e)

  pub values_kept : (vs : List Value) → are_values m vs ≡ true → are_values n vs ≡ true
  values_kept [] h = refl
  values_kept (v ∷ vs) h =
      let p = and_parts (is_value m v) (are_values m vs) h in
      and_from (is_value n v) (are_values n vs) (ap (λ ts. ltb v.index (length ts)) (value_kept v.definer v.index p.0) ∙ p.0) (values_kept vs p.1)
