-- A store without an operation that has no region, lies in no block and is not used is sound.
use Rattle.std.proofs.Common.{◌≡◌, ℕ, ◌+◌, true, false, cond, eqb, ltb, List, [], ◌∷◌, length, Some, None, Option, sym, refl, ap, ◌∙◌, subst}
use Rattle.std.proofs.lemmas.List.{get_or-set_same, get_or-set_other}
use Rattle.std.proofs.lemmas.Bool.{and_parts, and_from, not-true, eqb-false}
use Rattle.slots.specs.Cells.{Cell}
use Rattle.slots.specs.Cells.{Free, Live, Spent}
use Rattle.slots.specs.Cells.{cell_at, is_live, retired, under}
use Rattle.slots.proofs.CellLaws.{never, live_within, found_live}
use Rattle.lists.proofs.Chains.{some_none}
use Rattle.model.specs.declared.ids.DefiningEntity.{DefiningEntity}
use Rattle.model.specs.declared.ids.DefiningEntity.TheVariants as definer
use Rattle.model.specs.declared.ids.OpId.{OpId}
use Rattle.model.specs.declared.ids.Value.{Value}
use Rattle.model.specs.Model.{Model, Operation, types_of, is_value, are_values, results_of, regions_of, find_op}
use Rattle.model.specs.Calls.{drop_op, not_by, away_from}
use Rattle.model.specs.Sound.{Sound, Among}

pub retired_dead : {X : Type 0} (c : Cell X) → is_live (retired c) ≡ false
retired_dead (Free g) = refl
retired_dead {X} (Live g x) = elim (ltb g 4294967295) as (λ b. is_live {X = X} (cond b (Free (g + 1)) Spent) ≡ false) [ true ↦ refl | false ↦ refl ]
retired_dead Spent = refl

module _ (m : Model) (s g : ℕ) (x : Operation) (at : cell_at m.ops s ≡ Live g x) (bare : x.regions ≡ []) (out : m.home_of s ≡ None)
    (unused : (t h : ℕ) (y : Operation) → (t ≡ s → ⊥) → cell_at m.ops t ≡ Live h y → away_from s y.operands ≡ true) (σ : Sound m) where
  n : Model
  n = drop_op m s

  other : (t : ℕ) → (t ≡ s → ⊥) → cell_at n.ops t ≡ cell_at m.ops t
  unfolding n
  other t ne = get_or-set_other m.ops s t (retired (cell_at m.ops s)) Spent ne

  here : is_live (cell_at n.ops s) ≡ false
  unfolding n
  here = ap is_live (get_or-set_same m.ops s (retired (cell_at m.ops s)) Spent (live_within m.ops s (ap is_live at))) ∙ retired_dead (cell_at m.ops s)

  back : (t h : ℕ) (y : Operation) → cell_at n.ops t ≡ Live h y → (t ≡ s → ⊥) × (cell_at m.ops t ≡ Live h y)
  back t h y e =
      let ne : t ≡ s → ⊥ = λ d. never (sym here ∙ ap (λ z. is_live (cell_at n.ops z)) (sym d) ∙ ap is_live e) in
      (ne, sym (other t ne) ∙ e)

  types_same : (e : DefiningEntity) → not_by s e ≡ true → types_of n e ≡ types_of m e
  unfolding n
  types_same (definer.Op o) h = ap (λ c. results_of (under c o.generation)) (other o.slot (eqb-false o.slot s (not-true (eqb o.slot s) h)))
  types_same (definer.Block b) h = refl

  values_same : (vs : List Value) → away_from s vs ≡ true → are_values m vs ≡ true → are_values n vs ≡ true
  values_same [] a h = refl
  values_same (v ∷ vs) a h =
      let p = and_parts (not_by s v.definer) (away_from s vs) a in
      let q = and_parts (is_value m v) (are_values m vs) h in
      and_from (is_value n v) (are_values n vs) (ap (λ ts. ltb v.index (length ts)) (types_same v.definer p.0) ∙ q.0) (values_same vs p.1 q.1)

  owner_other : (o : OpId) (r k : ℕ) → Among (record { slot = r; generation = k }) (regions_of (find_op m o)) → o.slot ≡ s → ⊥
  owner_other o r k i d = on (find_op m o) refl
    where
      on : (q : Option Operation) → find_op m o ≡ q → ⊥
      on None e = subst (λ z. Among (record { slot = r; generation = k }) (regions_of z)) e i
      on (Some y) e =
          let l : Live o.generation y ≡ Live g x = sym (found_live m.ops o.slot o.generation y e) ∙ ap (cell_at m.ops) d ∙ at in
          let same : y ≡ x = cc in
          subst (Among (record { slot = r; generation = k })) (ap (λ z. z.regions) same ∙ bare) (subst (λ z. Among (record { slot = r; generation = k }) (regions_of z)) e i)

  sound : Sound n
  unfolding n
  sound = record {
    operands = λ t h y e. let b = back t h y e in values_same y.operands (unused t h y b.0 b.1) (σ.operands t h y b.1);
    owned = λ t h y e. σ.owned t h y (back t h y e).1;
    apart = λ t h y e. σ.apart t h y (back t h y e).1;
    owners = λ r k y e.
        let i = σ.owners r k y e in
        subst (λ c. Among (record { slot = r; generation = k }) (regions_of (under c y.owner.generation))) (sym (other y.owner.slot (owner_other y.owner r k i))) i;
    ops = σ.ops;
    blocks = σ.blocks;
    op_in = λ t b e.
        let h = σ.op_in t b e in
        (ap is_live (other t (λ d. some_none b (sym e ∙ ap m.home_of d ∙ out))) ∙ h.0, h.1);
    block_in = σ.block_in;
    placed = σ.placed;
    ends = σ.ends;
  }

pub drop_op_sound : (m : Model) (s g : ℕ) (x : Operation) → cell_at m.ops s ≡ Live g x → x.regions ≡ [] → m.home_of s ≡ None
    → ((t h : ℕ) (y : Operation) → (t ≡ s → ⊥) → cell_at m.ops t ≡ Live h y → away_from s y.operands ≡ true) → Sound m → Sound (drop_op m s)
unfolding n
drop_op_sound m s g x at bare out unused σ = sound m s g x at bare out unused σ
