-- Soundness has one proof at most, so that it can be taken out of a truncation.
use Rattle.std.proofs.Common.{◌≡◌, ℕ, zero, suc, Bool, List, [], ◌∷◌, map, Some, None, Option, sym, refl, ap, ◌∙◌, subst, inl, inr, arith}
use mathlib.Core.Logic.{∥∥₁_elim}
use mathlib.Core.HLevel.{Π_prop, Σ_prop_path}
use base.Stored.{Coded-set, coded_ℕ, coded_bool, coded_list, coded_via}
use Rattle.slots.proofs.CellLaws.{found_live}
use Rattle.lists.specs.Walk.{In, Apart}
use Rattle.lists.proofs.Chains.{some_none, some_some}
use Rattle.lists.proofs.Props.{option_set, apart_prop, in_prop}
use Rattle.model.specs.declared.ids.OpId.{OpId}
use Rattle.model.specs.declared.ids.RegionId.{RegionId}
use Rattle.model.specs.Model.{Model, Operation, find_op, regions_of}
use Rattle.model.specs.Sound.{Among, Agree, Steps, Sound}

abbrev owner_code : Option OpId → List ℕ
owner_code None = []
owner_code (Some o) = o.slot ∷ o.generation ∷ []

same_owner : (p q : Option OpId) → owner_code p ≡ owner_code q → p ≡ q
same_owner None None e = refl
same_owner None (Some o) e = let z : ◌≡◌ {A = ℕ} 0 1 = cc in absurd (omega arith)
same_owner (Some o) None e = let z : ◌≡◌ {A = ℕ} 0 1 = cc in absurd (omega arith)
same_owner (Some o) (Some p) e =
    let s : o.slot ≡ p.slot = cc in
    let g : o.generation ≡ p.generation = cc in
    λ i. Some (record { slot = s i; generation = g i })

owner_set : (p q : Option OpId) → IsProp (p ≡ q)
owner_set = Coded-set (coded_via (coded_list coded_ℕ) owner_code same_owner)

abbrev region_code : RegionId → List ℕ
region_code r = r.slot ∷ r.generation ∷ []

same_region : (r q : RegionId) → region_code r ≡ region_code q → r ≡ q
same_region r q e =
    let s : r.slot ≡ q.slot = cc in
    let g : r.generation ≡ q.generation = cc in
    λ i. record { slot = s i; generation = g i }

region_set : (r q : RegionId) → IsProp (r ≡ q)
region_set = Coded-set (coded_via (coded_list coded_ℕ) region_code same_region)

bool_set : (b c : Bool) → IsProp (b ≡ c)
bool_set = Coded-set coded_bool

among_slot : (r : RegionId) (rs : List RegionId) → Among r rs → In r.slot (map (λ (q : RegionId). q.slot) rs)
among_slot r [] h = h
among_slot r (q ∷ rs) (inl e) = inl (ap (λ (z : RegionId). z.slot) e)
among_slot r (q ∷ rs) (inr h) = inr (among_slot r rs h)

among_prop : (r : RegionId) (rs : List RegionId) → Apart (map (λ (q : RegionId). q.slot) rs) → IsProp (Among r rs)
among_prop r [] h p q = absurd p
among_prop r (x ∷ rs) h (inl e) (inl d) = ap inl (region_set r x e d)
among_prop r (x ∷ rs) h (inl e) (inr j) = absurd (h.0 (subst (λ z. In z (map (λ (q : RegionId). q.slot) rs)) (ap (λ (z : RegionId). z.slot) e) (among_slot r rs j)))
among_prop r (x ∷ rs) h (inr i) (inl d) = absurd (h.0 (subst (λ z. In z (map (λ (q : RegionId). q.slot) rs)) (ap (λ (z : RegionId). z.slot) d) (among_slot r rs i)))
among_prop r (x ∷ rs) h (inr i) (inr j) = ap inr (among_prop r rs h.1 i j)

-- the regions of whatever is found are apart
found_apart : (m : Model) → Sound m → (o : OpId) → Apart (map (λ (q : RegionId). q.slot) (regions_of (find_op m o)))
found_apart m s o = at (find_op m o) refl
  where
    at : (q : Option Operation) → find_op m o ≡ q → Apart (map (λ (r : RegionId). r.slot) (regions_of q))
    at None e = tt
    at (Some x) e = s.apart o.slot o.generation x (found_live m.ops o.slot o.generation x e)

agree_prop : (ms : ℕ → List ℕ) (h : ℕ → Option ℕ) → IsProp (Agree ms h)
agree_prop ms h a b = λ i. record {
  held = Π_prop (λ c. Π_prop (λ x. Π_prop (λ _. in_prop x (ms c) (a.apart c)))) a.held b.held i;
  home = Π_prop (λ c. Π_prop (λ x. Π_prop (λ _. option_set _ _))) a.home b.home i;
  apart = Π_prop (λ c. apart_prop (ms c)) a.apart b.apart i;
}

-- a climb has one length
steps_once : (f : ℕ → Option ℕ) (n k s : ℕ) → Steps f n s → Steps f k s → n ≡ k
steps_once f zero zero s a b = refl
steps_once f zero (suc k) s a (p, e, b) = absurd (some_none p (sym e ∙ a))
steps_once f (suc n) zero s (p, e, a) b = absurd (some_none p (sym e ∙ b))
steps_once f (suc n) (suc k) s (p, e, a) (q, d, b) = ap suc (steps_once f n k p a (subst (Steps f k) (sym (some_some p q (sym e ∙ d))) b))

steps_prop : (f : ℕ → Option ℕ) (n s : ℕ) → IsProp (Steps f n s)
steps_prop f zero s a b = option_set _ _ a b
steps_prop f (suc n) s (p, e, a) (q, d, b) =
    subst (λ r. (d : f s ≡ Some r) (b : Steps f n r) → ◌≡◌ {A = Steps f (suc n) s} (p, e, a) (r, d, b)) (some_some p q (sym e ∙ d))
    (λ d b i. (p, option_set _ _ e d i, steps_prop f n p a b i)) d b

sound_prop : (m : Model) → IsProp (Sound m)
sound_prop m s t = λ i. record {
  operands = Π_prop (λ c. Π_prop (λ g. Π_prop (λ x. Π_prop (λ _. bool_set _ _)))) s.operands t.operands i;
  owned = Π_prop (λ c. Π_prop (λ g. Π_prop (λ x. Π_prop (λ _. Π_prop (λ r. Π_prop (λ _. owner_set _ _)))))) s.owned t.owned i;
  apart = Π_prop (λ c. Π_prop (λ g. Π_prop (λ x. Π_prop (λ _. apart_prop _)))) s.apart t.apart i;
  owners = Π_prop (λ r. Π_prop (λ g. Π_prop (λ y. Π_prop (λ _. among_prop _ _ (found_apart m s y.owner))))) s.owners t.owners i;
  ops = agree_prop _ _ s.ops t.ops i;
  blocks = agree_prop _ _ s.blocks t.blocks i;
  op_in = Π_prop (λ c. Π_prop (λ b. Π_prop (λ _ u v j. (bool_set _ _ u.0 v.0 j, bool_set _ _ u.1 v.1 j)))) s.op_in t.op_in i;
  block_in = Π_prop (λ c. Π_prop (λ b. Π_prop (λ _ u v j. (bool_set _ _ u.0 v.0 j, bool_set _ _ u.1 v.1 j)))) s.block_in t.block_in i;
  placed = Π_prop (λ c. Π_prop (λ _. bool_set _ _)) s.placed t.placed i;
  ends = Π_prop (λ c u v. Σ_prop_path (λ n. steps_prop _ n c) (steps_once _ u.0 v.0 c u.1 v.1)) s.ends t.ends i;
}

pub sound : (m : Model) → ∥ Sound m ∥₁ → Sound m
sound m h = ∥∥₁_elim h (sound_prop m) (λ s. s)
