-- A store without a closed part, no value of which is used outside, is sound.
use Rattle.std.proofs.Common.{◌≡◌, ℕ, zero, suc, ◌+◌, Bool, true, false, cond, eqb, ltb, ◌⊎◌, List, [], ◌∷◌, map, length, is_some, Some, None, Option, sym, refl, ap, ◌∙◌, subst, inl, inr, arith}
use Rattle.std.proofs.lemmas.Bool.{cases_Bool, or_parts, and_parts, and_from}
use Rattle.slots.specs.Cells.{Cell}
use Rattle.slots.specs.Cells.{Free, Live, Spent}
use Rattle.slots.specs.Cells.{cell_at, is_live, holds, under, viewed}
use Rattle.slots.proofs.CellLaws.{never, found_live, live_found, live_viewed}
use Rattle.lists.specs.Walk.{Apart}
use Rattle.model.specs.declared.ids.DefiningEntity.{DefiningEntity}
use Rattle.model.specs.declared.ids.DefiningEntity.TheVariants as definer
use Rattle.model.specs.declared.ids.IRNode.{IRNode}
use Rattle.model.specs.declared.ids.OpId.{OpId}
use Rattle.model.specs.declared.ids.Region.{Region}
use Rattle.model.specs.declared.ids.RegionId.{RegionId}
use Rattle.model.specs.declared.ids.Value.{Value}
use Rattle.model.specs.Model.{Model, Operation, types_of, is_value, are_values, results_of, args_of, regions_of, owner_of, owner_slot, find_op, bind, above, up}
use Rattle.model.specs.Sound.{Sound, Steps, Among}
use Rattle.model.specs.Erasing.{has_op, has_block, has_region, disowned, erased, Closed, defines, some_defined, operands_of, used_from, used_outside}
use Rattle.model.proofs.Sweeps.{less_was, less_has, less_apart, map_less, nowhere_was, nowhere_has, nowhere_none, agree_less, viewed_same, sweep_in, sweep_out, sweep_was}

-- an operation outside the list uses nothing of it
pub unused : (ns : List IRNode) (i : ℕ) (cs : List (Cell Operation)) → used_from ns i cs ≡ false
    → (s g : ℕ) (x : Operation) → has_op ns (i + s) ≡ false → cell_at cs s ≡ Live g x → some_defined ns x.operands ≡ false
unused ns i [] u s g x h e = let z : ◌≡◌ {A = ℕ} 0 1 = cc in absurd (omega arith)
unused ns i (c ∷ cs) u zero g x h e =
    let p = or_parts (cond (has_op ns i) false (some_defined ns (operands_of (holds c)))) (used_from ns (i + 1) cs) u in
    let k : has_op ns i ≡ false = subst (λ j. has_op ns j ≡ false) (omega arith) h in
    ap (λ d. some_defined ns (operands_of (holds d))) (sym e) ∙ ap (λ b. cond b false (some_defined ns (operands_of (holds c)))) (sym k) ∙ p.0
unused ns i (c ∷ cs) u (suc s) g x h e =
    let p = or_parts (cond (has_op ns i) false (some_defined ns (operands_of (holds c)))) (used_from ns (i + 1) cs) u in
    unused ns (i + 1) cs p.1 s g x (subst (λ j. has_op ns j ≡ false) (omega arith) h) e

disowned_results : (f : ℕ → Bool) (c : Cell Operation) (g : ℕ) → results_of (under (viewed (disowned f) c) g) ≡ results_of (under c g)
disowned_results f (Free k) g = refl
disowned_results f (Live k x) g = elim (eqb k g) as (λ b. results_of (cond b (Some (disowned f x)) None) ≡ results_of (cond b (Some x) None)) [ true ↦ refl | false ↦ refl ]
disowned_results f Spent g = refl

dead_holds : {X : Type 0} (c : Cell X) → is_live c ≡ false → holds c ≡ None
dead_holds (Free g) h = refl
dead_holds (Live g x) h = absurd (never (sym h))
dead_holds Spent h = refl

module _ (m : Model) (ns : List IRNode) where
  n : Model
  n = erased m ns

  op_out : (s : ℕ) → has_op ns s ≡ false → cell_at n.ops s ≡ viewed (disowned (has_region ns)) (cell_at m.ops s)
  unfolding n
  op_out s h = sweep_out (disowned (has_region ns)) (has_op ns) m.ops s h

  block_out : (b : ℕ) → has_block ns b ≡ false → cell_at n.blocks b ≡ cell_at m.blocks b
  unfolding n
  block_out b h = sweep_out (λ x. x) (has_block ns) m.blocks b h ∙ viewed_same (cell_at m.blocks b)

  region_out : (r : ℕ) → has_region ns r ≡ false → cell_at n.regions r ≡ cell_at m.regions r
  unfolding n
  region_out r h = sweep_out (λ x. x) (has_region ns) m.regions r h ∙ viewed_same (cell_at m.regions r)

  types_same : (e : DefiningEntity) → defines ns e ≡ false → types_of n e ≡ types_of m e
  types_same (definer.Op o) h = ap (λ c. results_of (under c o.generation)) (op_out o.slot h) ∙ disowned_results (has_region ns) (cell_at m.ops o.slot) o.generation
  types_same (definer.Block b) h = ap (λ c. args_of (under c b.generation)) (block_out b.slot h)

  values_same : (vs : List Value) → some_defined ns vs ≡ false → are_values m vs ≡ true → are_values n vs ≡ true
  values_same [] a h = refl
  values_same (v ∷ vs) a h =
      let p = or_parts (defines ns v.definer) (some_defined ns vs) a in
      let q = and_parts (is_value m v) (are_values m vs) h in
      and_from (is_value n v) (are_values n vs) (ap (λ ts. ltb v.index (length ts)) (types_same v.definer p.0) ∙ q.0) (values_same vs p.1 q.1)

  -- the way up is what it was, or cut off
  above_less : (b : ℕ) → (above n b ≡ None) ⊎ (above n b ≡ above m b)
  unfolding n
  above_less b = elim (cases_Bool (has_block ns b)) [
    | inl t ↦ inl (ap (λ q. bind q owner) (nowhere_none (has_block ns) m.place_of b t))
    | inr t ↦ let same = ap (λ q. bind q owner) (nowhere_has (has_block ns) m.place_of b t) in elim (at (m.place_of b)) [ inl e ↦ inl (same ∙ e) | inr e ↦ inr (same ∙ e) ]
  ]
    where
      owner : ℕ → Option ℕ
      owner r = owner_slot (holds (cell_at n.regions r))

      at : (q : Option ℕ) → (bind q owner ≡ None) ⊎ (bind q owner ≡ bind q (λ r. owner_slot (holds (cell_at m.regions r))))
      at None = inl refl
      at (Some r) = elim (cases_Bool (has_region ns r)) [
        | inl t ↦ inl (ap owner_slot (dead_holds (cell_at n.regions r) (sweep_in (λ x. x) (has_region ns) m.regions r t)))
        | inr t ↦ inr (ap (λ c. owner_slot (holds c)) (region_out r t))
      ]

  up_less : (s : ℕ) → (up n s ≡ None) ⊎ (up n s ≡ up m s)
  unfolding n
  up_less s = elim (cases_Bool (has_op ns s)) [
    | inl t ↦ inl (ap (λ q. bind q (above n)) (nowhere_none (has_op ns) m.home_of s t))
    | inr t ↦ let same = ap (λ q. bind q (above n)) (nowhere_has (has_op ns) m.home_of s t) in elim (at (m.home_of s)) [ inl e ↦ inl (same ∙ e) | inr e ↦ inr (same ∙ e) ]
  ]
    where
      at : (q : Option ℕ) → (bind q (above n) ≡ None) ⊎ (bind q (above n) ≡ bind q (above m))
      at None = inl refl
      at (Some b) = above_less b

  ends : (k s : ℕ) → Steps (up m) k s → (j : ℕ) × Steps (up n) j s
  ends zero s h = elim (up_less s) [ inl e ↦ (zero, e) | inr e ↦ (zero, e ∙ h) ]
  ends (suc k) s h = let r = ends k h.0 h.2 in elim (up_less s) [ inl e ↦ (zero, e) | inr e ↦ (suc r.0, (h.0, e ∙ h.1, r.1)) ]

  module _ (σ : Sound m) (cl : Closed m ns) where
    -- what is outside lies outside
    outside : {A : Type 0} (f : Bool) → (f ≡ true → A) → (A → ⊥) → f ≡ false
    outside f h k = elim (cases_Bool f) [ inl t ↦ absurd (k (h t)) | inr t ↦ t ]

    home_out : (s b : ℕ) → m.home_of s ≡ Some b → has_op ns s ≡ false → has_block ns b ≡ false
    home_out s b e h = outside (has_block ns b) (λ t. cl.ops_in b s t (σ.ops.held b s e)) (λ t. never (sym h ∙ t))

    place_out : (b r : ℕ) → m.place_of b ≡ Some r → has_block ns b ≡ false → has_region ns r ≡ false
    place_out b r e h = outside (has_region ns r) (λ t. cl.blocks_in r b t (σ.blocks.held r b e)) (λ t. never (sym h ∙ t))

    owner_kept : (r g : ℕ) (o : OpId) (q : Option Operation) → has_region ns r ≡ false → find_op m o ≡ q → Among (record { slot = r; generation = g }) (regions_of q)
        → Among (record { slot = r; generation = g }) (regions_of (find_op n o))
    owner_kept r g o None h e i = absurd i
    owner_kept r g o (Some x) h e i =
        let l = found_live m.ops o.slot o.generation x e in
        let t = outside (has_op ns o.slot) (λ t. cl.regions_in o.slot o.generation x t l (record { slot = r; generation = g }) i) (λ t. never (sym h ∙ t)) in
        let f = live_found n.ops o.slot o.generation (disowned (has_region ns) x) (op_out o.slot t ∙ ap (viewed (disowned (has_region ns))) l) in
        subst (λ z. Among (record { slot = r; generation = g }) (regions_of z)) (sym f) (less_has (λ (q : RegionId). has_region ns q.slot) (record { slot = r; generation = g }) x.regions i h)

    sound : used_outside m ns ≡ false → Sound n
    unfolding n
    sound u = record {
      operands = λ s g y e.
          let w = sweep_was (disowned (has_region ns)) (has_op ns) m.ops s g y e in
          subst (λ vs. are_values n vs ≡ true) (sym (ap (λ z. z.operands) w.3))
          (values_same w.1.operands (unused ns 0 m.ops u s g w.1 (subst (λ j. has_op ns j ≡ false) (omega arith) w.0) w.2) (σ.operands s g w.1 w.2));
      owned = λ s g y e r i.
          let w = sweep_was (disowned (has_region ns)) (has_op ns) m.ops s g y e in
          let k = less_was (λ (q : RegionId). has_region ns q.slot) r w.1.regions (subst (Among r) (ap (λ z. z.regions) w.3) i) in
          ap (λ c. owner_of (under c r.generation)) (region_out r.slot k.1) ∙ σ.owned s g w.1 w.2 r k.0;
      apart = λ s g y e.
          let w = sweep_was (disowned (has_region ns)) (has_op ns) m.ops s g y e in
          subst Apart (sym (ap (λ z. map (λ (r : RegionId). r.slot) z.regions) w.3 ∙ map_less (has_region ns) (λ (r : RegionId). r.slot) w.1.regions))
          (less_apart (has_region ns) (map (λ (r : RegionId). r.slot) w.1.regions) (σ.apart s g w.1 w.2));
      owners = λ r g y e.
          let w = sweep_was (λ x. x) (has_region ns) m.regions r g y e in
          subst (λ (z : Region). Among (record { slot = r; generation = g }) (regions_of (find_op n z.owner))) (sym w.3)
          (owner_kept r g w.1.owner (find_op m w.1.owner) w.0 refl (σ.owners r g w.1 w.2));
      ops = agree_less (has_op ns) m.ops_of m.home_of σ.ops;
      blocks = agree_less (has_block ns) m.blocks_of m.place_of σ.blocks;
      op_in = λ s b e.
          let w = nowhere_was (has_op ns) m.home_of s b e in
          let h = σ.op_in s b w.1 in
          (ap is_live (op_out s w.0) ∙ live_viewed (disowned (has_region ns)) (cell_at m.ops s) ∙ h.0, ap is_live (block_out b (home_out s b w.1 w.0)) ∙ h.1);
      block_in = λ b r e.
          let w = nowhere_was (has_block ns) m.place_of b r e in
          let h = σ.block_in b r w.1 in
          (ap is_live (block_out b w.0) ∙ h.0, ap is_live (region_out r (place_out b r w.1 w.0)) ∙ h.1);
      placed = λ b h. elim (cases_Bool (has_block ns b)) [
        | inl t ↦ absurd (never (sym (sweep_in (λ x. x) (has_block ns) m.blocks b t) ∙ h))
        | inr t ↦ ap is_some (nowhere_has (has_block ns) m.place_of b t) ∙ σ.placed b (sym (ap is_live (block_out b t)) ∙ h)
      ];
      ends = λ s. ends (σ.ends s).0 s (σ.ends s).1;
    }

pub erase_sound : (m : Model) (ns : List IRNode) → Sound m → Closed m ns → used_outside m ns ≡ false → Sound (erased m ns)
unfolding n
erase_sound m ns σ cl u = sound m ns σ cl u

-- what is not in the list keeps its cell, an operation but for the regions that go
pub op_kept : (m : Model) (ns : List IRNode) (s : ℕ) → has_op ns s ≡ false → cell_at (erased m ns).ops s ≡ viewed (disowned (has_region ns)) (cell_at m.ops s)
unfolding n
op_kept m ns s h = op_out m ns s h

pub block_kept : (m : Model) (ns : List IRNode) (b : ℕ) → has_block ns b ≡ false → cell_at (erased m ns).blocks b ≡ cell_at m.blocks b
unfolding n
block_kept m ns b h = block_out m ns b h

pub region_kept : (m : Model) (ns : List IRNode) (r : ℕ) → has_region ns r ≡ false → cell_at (erased m ns).regions r ≡ cell_at m.regions r
unfolding n
region_kept m ns r h = region_out m ns r h
