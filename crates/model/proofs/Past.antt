-- What was erased never lives again.
use Rattle.std.proofs.Common.{◌≡◌, ℕ, ◌+◌, ◌<◌, Bool, true, false, cond, eqb, ltb, List, is_some, Some, None, sym, refl, ap, ◌∙◌, inl, inr, arith}
use Rattle.std.proofs.lemmas.Bool.{cases_Bool, eq-eqb, ne_eqb, eqb-true, ltb-true, lt-ltb}
use Rattle.slots.specs.Cells.{Cell}
use Rattle.slots.specs.Cells.{Free, Live, Spent}
use Rattle.slots.specs.Cells.{cell_at, is_free, next_of, retired, under, viewed}
use Rattle.slots.proofs.CellLaws.{never}
use Rattle.model.specs.declared.ids.IRNode.{IRNode}
use Rattle.model.specs.declared.ids.IRNode.TheVariants as node
use Rattle.model.specs.Model.{Model}
use Rattle.model.specs.Sound.{Among}
use Rattle.model.specs.Erasing.{is_op, is_block, is_region, has_op, has_block, has_region, is_node, past, is_past, disowned, erased}
use Rattle.model.proofs.Sweeps.{cell_at_sweep}
use Rattle.model.proofs.Closing.{has_among, op_retired, block_retired, region_retired}

gone : (X : Type 0) (g k : ℕ) → g < k + 1 → past {X = X} g (cond (ltb k 4294967295) (Free (k + 1)) Spent) ≡ true
gone X g k l = elim (ltb k 4294967295) as (λ b. past {X = X} g (cond b (Free (k + 1)) Spent) ≡ true) [ true ↦ lt-ltb g (k + 1) l | false ↦ refl ]

module _ {X : Type 0} (g : ℕ) where
  pub past_dead : (c : Cell X) → past g c ≡ true → is_some (under c g) ≡ false
  past_dead (Free k) h = refl
  past_dead (Live k x) h = ap (λ b. is_some (cond b (Some x) None)) (ne_eqb k g (λ e. let l = ltb-true g k h in omega arith))
  past_dead Spent h = refl

  -- what lived and goes is past
  pub retired_past : (c : Cell X) → is_some (under c g) ≡ true → past g (retired c) ≡ true
  retired_past (Free k) h = absurd (never h)
  retired_past (Live k x) h = elim (cases_Bool (eqb k g)) [
    | inl t ↦ let e = eqb-true k g t in gone X g k (omega arith)
    | inr t ↦ absurd (never (sym (ap (λ b. is_some (cond b (Some x) None)) t) ∙ h))
  ]
  retired_past Spent h = absurd (never h)

  -- what is past stays so, whatever becomes of the cell
  pub past_retired : (c : Cell X) → past g c ≡ true → past g (retired c) ≡ true
  past_retired (Free k) h = h
  past_retired (Live k x) h = let l = ltb-true g k h in gone X g k (omega arith)
  past_retired Spent h = h

  pub past_viewed : (f : X → X) (c : Cell X) → past g (viewed f c) ≡ past g c
  past_viewed f (Free k) = refl
  past_viewed f (Live k x) = refl
  past_viewed f Spent = refl

  pub past_occupied : (c : Cell X) (x : X) → is_free c ≡ true → past g c ≡ true → past g (Live (next_of c) x) ≡ true
  past_occupied (Free k) x f h = h
  past_occupied (Live k y) x f h = absurd (never f)
  past_occupied Spent x f h = absurd (never f)

  past_swept : (b : Bool) (f : X → X) (c : Cell X) → past g c ≡ true → past g (cond b (retired c) (viewed f c)) ≡ true
  past_swept true f c h = past_retired c h
  past_swept false f c h = past_viewed f c ∙ h

pub past_not_node : (m : Model) (n : IRNode) → is_past m n ≡ true → is_node m n ≡ false
past_not_node m (node.Operation o) h = past_dead o.generation (cell_at m.ops o.slot) h
past_not_node m (node.BasicBlock b) h = past_dead b.generation (cell_at m.blocks b.slot) h
past_not_node m (node.Region r) h = past_dead r.generation (cell_at m.regions r.slot) h

-- a node that is erased is past, and one that was stays so
pub erased_past : (m : Model) (ns : List IRNode) (n : IRNode) → is_node m n ≡ true → Among n ns → is_past (erased m ns) n ≡ true
erased_past m ns (node.Operation o) a i =
    ap (past o.generation) (op_retired m ns o.slot (has_among is_op (node.Operation o) ns o.slot (eq-eqb o.slot o.slot refl) i)) ∙ retired_past o.generation (cell_at m.ops o.slot) a
erased_past m ns (node.BasicBlock b) a i =
    ap (past b.generation) (block_retired m ns b.slot (has_among is_block (node.BasicBlock b) ns b.slot (eq-eqb b.slot b.slot refl) i)) ∙ retired_past b.generation (cell_at m.blocks b.slot) a
erased_past m ns (node.Region r) a i =
    ap (past r.generation) (region_retired m ns r.slot (has_among is_region (node.Region r) ns r.slot (eq-eqb r.slot r.slot refl) i)) ∙ retired_past r.generation (cell_at m.regions r.slot) a

pub past_erased : (m : Model) (ns : List IRNode) (n : IRNode) → is_past m n ≡ true → is_past (erased m ns) n ≡ true
past_erased m ns (node.Operation o) h = ap (past o.generation) (cell_at_sweep (disowned (has_region ns)) (has_op ns) m.ops o.slot)
    ∙ past_swept o.generation (has_op ns o.slot) (disowned (has_region ns)) (cell_at m.ops o.slot) h
past_erased m ns (node.BasicBlock b) h = ap (past b.generation) (cell_at_sweep (λ x. x) (has_block ns) m.blocks b.slot)
    ∙ past_swept b.generation (has_block ns b.slot) (λ x. x) (cell_at m.blocks b.slot) h
past_erased m ns (node.Region r) h = ap (past r.generation) (cell_at_sweep (λ x. x) (has_region ns) m.regions r.slot)
    ∙ past_swept r.generation (has_region ns r.slot) (λ x. x) (cell_at m.regions r.slot) h
