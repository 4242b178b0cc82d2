-- Slots, and the cells that they are.
use Rattle.std.proofs.Common.{◌≡◌, ℕ, zero, replicate, suc, ◌+◌, ◌<◌, ◌≤◌, Bool, true, false, cond, not, ltb, List, [], ◌∷◌, map, length, get_or, filter, position, Some, None, Option, MatchOption, sym, refl, ap, ◌∙◌, inl, inr, arith}
use Rattle.std.specs.List.{position_or_len}
use Rattle.std.proofs.lemmas.Bool.{cases_lt, lt-ltb}
use Rattle.std.proofs.lemmas.List.Quantifiers.{position-Some}
use Rattle.std.proofs.lemmas.List.{get_or-map, get_or_past, length-map}
use Rattle.slots.specs.Cells.{Free, Spent, cell_at, is_free, is_live, frees, live_count, cell_of}
use Rattle.slots.specs.declared.table.Slot.{Slot}
use Rattle.slots.specs.declared.table.Slot.TheVariants as slot

module _ {X : Type 0} (xs : List (Slot X)) (s : ℕ) where
  -- the cell of the slot that was read
  pub cell_read : (x : Slot X) → s < length xs → x ≡ get_or xs s x → cell_at (map cell_of xs) s ≡ cell_of x
  cell_read x lt e = get_or-map cell_of xs s x Spent lt ∙ ap cell_of (sym e)

picked : {A : Type 0} (b : Bool) (x : A) (ys : List A) → length (cond b (x ∷ ys) ys) ≡ cond b 1 0 + length ys
picked true x ys = omega arith
picked false x ys = omega arith

module _ {X : Type 0} where
  -- the slots that can be used, and those in which something lives, picked out and counted
  pub frees_filtered : (xs : List (Slot X)) → length (filter (λ s. is_free (cell_of s)) xs) ≡ frees (map cell_of xs)
  frees_filtered [] = refl
  frees_filtered (x ∷ xs) = picked (is_free (cell_of x)) x (filter (λ s. is_free (cell_of s)) xs) ∙ ap (λ n. cond (is_free (cell_of x)) 1 0 + n) (frees_filtered xs)

  pub lives_filtered : (xs : List (Slot X)) → length (filter (λ s. is_live (cell_of s)) xs) ≡ live_count (map cell_of xs)
  lives_filtered [] = refl
  lives_filtered (x ∷ xs) = picked (is_live (cell_of x)) x (filter (λ s. is_live (cell_of s)) xs) ∙ ap (λ n. cond (is_live (cell_of x)) 1 0 + n) (lives_filtered xs)

  -- where the place of the first is past the end, there is none
  none_free : (xs : List (Slot X)) → length xs ≤ position_or_len (λ s. is_free (cell_of s)) xs → frees (map cell_of xs) ≡ 0
  none_free [] h = refl
  none_free (x ∷ xs) h = step (is_free (cell_of x)) (length xs) _ _ h (none_free xs)
    where
      step : (b : Bool) (n k m : ℕ) → suc n ≤ cond (not b) (1 + k) 0 → (n ≤ k → m ≡ 0) → cond b 1 0 + m ≡ 0
      step true n k m h r = absurd (omega arith)
      step false n k m h r = let z = r (omega arith) in omega (arith, z)

  -- the first slot that can be used
  pub free_place : (xs : List (Slot X)) (r : Option ℕ) → r ≡ position (λ s. is_free (cell_of s)) xs
      → MatchOption r (frees (map cell_of xs) ≡ 0) (λ s. is_free (cell_at (map cell_of xs) s) ≡ true)
  free_place xs None e = none_free xs (past _ _ e)
    where
      past : (i n : ℕ) → None ≡ cond (ltb i n) (Some i) None → n ≤ i
      past i n e = elim (cases_lt i n) [
        | inl lt ↦ let z : ◌≡◌ {A = ℕ} 0 1 = (let k = e ∙ ap (λ b. cond b (Some i) None) (lt-ltb i n lt) in cc) in absurd (omega arith)
        | inr le ↦ le
      ]
  free_place xs (Some i) e =
      let p = position-Some (λ (s : Slot X). is_free (cell_of s)) xs i slot.Spent (sym e) in
      ap is_free (get_or-map cell_of xs i slot.Spent Spent p.0) ∙ p.1

  -- slots that were never used
  pub unused : (n : ℕ) (x : Slot X) → x ≡ slot.Free 0 → map cell_of (replicate n x) ≡ replicate n (Free 0)
  unused zero x e = refl
  unused (suc n) x e = ap (λ y. cell_of y ∷ map cell_of (replicate n x)) e ∙ ap (λ cs. Free 0 ∷ cs) (unused n x e)
