-- A block lies inside an operation, as the test says, just where climbing from it leads there.
use Rattle.std.proofs.Common.{◌≡◌, ℕ, zero, suc, ◌<◌, true, ◌||◌, eqb, length, Some, None, Option, sym, refl, ap, ◌∙◌, inl, inr, arith}
use Rattle.std.proofs.lemmas.Bool.{eq-eqb, eqb-true, or_cases, or_left, or_right}
use Rattle.slots.proofs.CellLaws.{never}
use Rattle.lists.proofs.Chains.{some_none}
use Rattle.model.specs.Model.{Model, above, bind, inside, inside_by, whether}
use Rattle.model.specs.Walk.{Leads, Under}
use Rattle.model.specs.Sound.{Sound}
use Rattle.model.proofs.Climbs.{above_within}
use Rattle.model.proofs.Nesting.{up_of, depth_within, leads_depth}

module _ (m : Model) (s : ℕ) where
  tested : (n b : ℕ) → inside_by n m s b ≡ true → (p : ℕ) × (above m b ≡ Some p) × Under m s p
  tested zero b h = absurd (never h)
  tested (suc n) b h = at (above m b) refl (tested n) h
    where
      on : (p : ℕ) (q : Option ℕ) → m.home_of p ≡ q → ((c : ℕ) → inside_by n m s c ≡ true → (p : ℕ) × (above m c ≡ Some p) × Under m s p) → whether q (inside_by n m s) ≡ true → Under m s p
      on p None d rec h = absurd (never h)
      on p (Some c) d rec h = let t = rec c h in (suc t.2.0, (t.0, up_of m p c d ∙ t.1, t.2.1))

      at : (q : Option ℕ) → above m b ≡ q → ((c : ℕ) → inside_by n m s c ≡ true → (p : ℕ) × (above m c ≡ Some p) × Under m s p) → whether (above m b) (λ p. eqb p s || whether (m.home_of p) (inside_by n m s)) ≡ true
          → (p : ℕ) × (above m b ≡ Some p) × Under m s p
      at None d rec h = absurd (never (sym (ap (λ z. whether z (λ p. eqb p s || whether (m.home_of p) (inside_by n m s))) d) ∙ h))
      at (Some p) d rec h = elim (or_cases (eqb p s) (whether (m.home_of p) (inside_by n m s)) (sym (ap (λ z. whether z (λ p. eqb p s || whether (m.home_of p) (inside_by n m s))) d) ∙ h)) [
        | inl t ↦ (p, d, (zero, eqb-true p s t))
        | inr t ↦ (p, d, on p (m.home_of p) refl rec t)
      ]

  test : (k n b p : ℕ) → k < n → above m b ≡ Some p → Leads m k p s → inside_by n m s b ≡ true
  test k zero b p l e h = absurd (omega arith)
  test zero (suc n) b p l e h =
      ap (λ z. whether z (λ p. eqb p s || whether (m.home_of p) (inside_by n m s))) e ∙ or_left (eqb p s) (whether (m.home_of p) (inside_by n m s)) (eq-eqb p s h)
  test (suc k) (suc n) b p l e h =
      ap (λ z. whether z (λ p. eqb p s || whether (m.home_of p) (inside_by n m s))) e ∙ or_right (eqb p s) (whether (m.home_of p) (inside_by n m s)) (on (m.home_of p) refl (λ c d. test k n c h.0 (omega arith) d h.2))
    where
      on : (q : Option ℕ) → m.home_of p ≡ q → ((c : ℕ) → above m c ≡ Some h.0 → inside_by n m s c ≡ true) → whether (m.home_of p) (inside_by n m s) ≡ true
      on None d rec = absurd (some_none h.0 (sym h.1 ∙ ap (λ z. bind z (above m)) d))
      on (Some c) d rec = ap (λ z. whether z (inside_by n m s)) d ∙ rec c (sym (up_of m p c d) ∙ h.1)

  pub inside_under : (b : ℕ) → inside m s b ≡ true → (p : ℕ) × (above m b ≡ Some p) × Under m s p
  inside_under b h = tested (length m.ops) b h

  pub under_inside : Sound m → (b p : ℕ) → above m b ≡ Some p → Under m s p → inside m s b ≡ true
  under_inside σ b p e u =
      let d = leads_depth m σ u.0 p s u.1 in
      let few = depth_within m σ p (above_within m σ b p e) in
      test u.0 (length m.ops) b p (omega arith) e u.1
