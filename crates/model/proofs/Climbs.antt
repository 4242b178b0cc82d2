-- How far a climb can go.
use Rattle.std.proofs.Common.{◌≡◌, ℕ, zero, suc, ◌<◌, ◌≤◌, true, false, ◌||◌, eqb, List, [], ◌∷◌, length, Some, None, Option, sym, refl, ap, ◌∙◌, subst, inl, inr, arith}
use Rattle.std.proofs.lemmas.Bool.{eq-eqb, ne_eqb}
use Rattle.slots.specs.Cells.{cell_at, is_live, holds}
use Rattle.slots.proofs.CellLaws.{live_is, live_within, found_live}
use Rattle.lists.specs.Walk.{In, Apart}
use Rattle.lists.proofs.Chains.{some_none, some_some}
use Rattle.lists.proofs.Counts.{few}
use Rattle.model.specs.declared.ids.OpId.{OpId}
use Rattle.model.specs.Model.{Model, Operation, above, up, bind, owner_slot, find_op, regions_of, inside_by, whether}
use Rattle.model.specs.Sound.{Sound, Steps, Among}

module _ (f : ℕ → Option ℕ) where
  -- the way up is of one length only
  pub steps_unique : (j k s : ℕ) → Steps f j s → Steps f k s → j ≡ k
  steps_unique zero zero s p q = refl
  steps_unique zero (suc k) s p q = absurd (some_none q.0 (sym q.1 ∙ p))
  steps_unique (suc j) zero s p q = absurd (some_none p.0 (sym p.1 ∙ q))
  steps_unique (suc j) (suc k) s p q =
      let e = some_some p.0 q.0 (sym p.1 ∙ q.1) in
      ap suc (steps_unique j k q.0 (subst (Steps f j) e p.2) q.2)

  chain : (k s : ℕ) → Steps f k s → List ℕ
  chain zero s p = s ∷ []
  chain (suc k) s p = s ∷ chain k p.0 p.2

  in_chain : (k s : ℕ) (p : Steps f k s) (x : ℕ) → In x (chain k s p) → (j : ℕ) × (j ≤ k) × Steps f j x
  unfolding chain
  in_chain zero s p x (inl e) = (zero, omega arith, subst (Steps f zero) (sym e) p)
  in_chain zero s p x (inr i) = absurd i
  in_chain (suc k) s p x (inl e) = (suc k, omega arith, subst (Steps f (suc k)) (sym e) p)
  in_chain (suc k) s p x (inr i) = let h = in_chain k p.0 p.2 x i in (h.0, omega (arith, h.1), h.2)

  chain_apart : (k s : ℕ) (p : Steps f k s) → Apart (chain k s p)
  unfolding chain
  chain_apart zero s p = (λ i. i, tt)
  chain_apart (suc k) s p =
      (λ i. let h = in_chain k p.0 p.2 s i in let e = steps_unique h.0 (suc k) s h.2 p in omega (arith, h.1, e), chain_apart k p.0 p.2)

  length_chain : (k s : ℕ) (p : Steps f k s) → length (chain k s p) ≡ suc k
  unfolding chain
  length_chain zero s p = refl
  length_chain (suc k) s p = ap suc (length_chain k p.0 p.2)

  chain_below : (n : ℕ) → ((s p : ℕ) → f s ≡ Some p → p < n) → (k s : ℕ) (p : Steps f k s) → s < n → (x : ℕ) → In x (chain k s p) → x < n
  unfolding chain
  chain_below n h zero s p l x (inl e) = omega arith
  chain_below n h zero s p l x (inr i) = absurd i
  chain_below n h (suc k) s p l x (inl e) = omega arith
  chain_below n h (suc k) s p l x (inr i) = chain_below n h k p.0 p.2 (h s p.0 p.1) x i

  -- of n places, a climb comes by at most n
  pub steps_few : (n : ℕ) → ((s p : ℕ) → f s ≡ Some p → p < n) → (k s : ℕ) → Steps f k s → s < n → k < n
  steps_few n h k s p l = let b = few n (chain k s p) (chain_apart k s p) (chain_below n h k s p l) in omega (arith, b, length_chain k s p)

module _ (m : Model) (σ : Sound m) where
  -- what is above a block is live
  pub above_within : (b p : ℕ) → above m b ≡ Some p → p < length m.ops
  above_within b p e = at (m.place_of b) refl
    where
      at : (q : Option ℕ) → m.place_of b ≡ q → p < length m.ops
      at None d = absurd (some_none p (sym e ∙ ap (λ z. bind z (λ r. owner_slot (holds (cell_at m.regions r)))) d))
      at (Some r) d =
          let l = live_is (cell_at m.regions r) (σ.block_in b r d).1 in
          let o = l.1.owner in
          let k = some_some p o.slot (sym e ∙ ap (λ z. bind z (λ r. owner_slot (holds (cell_at m.regions r)))) d ∙ ap (λ z. owner_slot (holds z)) l.2) in
          owner r l.0 o (find_op m o) refl (σ.owners r l.0 l.1 l.2) k
        where
          owner : (r g : ℕ) (o : OpId) (q : Option Operation) → find_op m o ≡ q → Among (record { slot = r; generation = g }) (regions_of (find_op m o)) → p ≡ o.slot → p < length m.ops
          owner r g o None c i k = absurd (subst (λ z. Among (record { slot = r; generation = g }) (regions_of z)) c i)
          owner r g o (Some x) c i k = let w = live_within m.ops o.slot (ap is_live (found_live m.ops o.slot o.generation x c)) in omega (arith, w, k)

  pub up_within : (s p : ℕ) → up m s ≡ Some p → p < length m.ops
  up_within s p e = at (m.home_of s) refl
    where
      at : (q : Option ℕ) → m.home_of s ≡ q → p < length m.ops
      at None d = absurd (some_none p (sym e ∙ ap (λ z. bind z (above m)) d))
      at (Some c) d = above_within c p (sym (ap (λ z. bind z (above m)) d) ∙ e)

-- one turn of a loop that climbs from the block b, looking for the operation s
module _ (m : Model) (s b n k : ℕ) (e : n ≡ suc k) where
  turn : (q : Option ℕ) → above m b ≡ q → inside_by n m s b ≡ whether q (λ p. eqb p s || whether (m.home_of p) (inside_by k m s))
  turn q d = ap (λ j. inside_by j m s b) e ∙ ap (λ z. whether z (λ p. eqb p s || whether (m.home_of p) (inside_by k m s))) d

  pub inside_none : above m b ≡ None → inside_by n m s b ≡ false
  inside_none d = turn None d

  pub inside_here : (p : ℕ) → above m b ≡ Some p → p ≡ s → inside_by n m s b ≡ true
  inside_here p d h = turn (Some p) d ∙ ap (λ t. t || whether (m.home_of p) (inside_by k m s)) (eq-eqb p s h)

  pub inside_top : (p : ℕ) → above m b ≡ Some p → (p ≡ s → ⊥) → m.home_of p ≡ None → inside_by n m s b ≡ false
  inside_top p d h o = turn (Some p) d ∙ ap (λ t. t || whether (m.home_of p) (inside_by k m s)) (ne_eqb p s h) ∙ ap (λ z. whether z (inside_by k m s)) o

  pub inside_on : (p c : ℕ) → above m b ≡ Some p → (p ≡ s → ⊥) → m.home_of p ≡ Some c → inside_by n m s b ≡ inside_by k m s c
  inside_on p c d h o = turn (Some p) d ∙ ap (λ t. t || whether (m.home_of p) (inside_by k m s)) (ne_eqb p s h) ∙ ap (λ z. whether z (inside_by k m s)) o
