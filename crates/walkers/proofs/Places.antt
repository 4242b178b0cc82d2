-- The part of a list from a place on: a place is an element, or the end.
use Rattle.std.proofs.Common.{◌≡◌, ℕ, cond, eqb, List, [], ◌∷◌, ◌++◌, Some, None, Option, sym, refl, ap, ◌∙◌, subst, inl, inr}
use Rattle.std.proofs.lemmas.Bool.{eq-eqb, ne_eqb}
use Rattle.lists.specs.Walk.{In, Apart, first_of, after}
use Rattle.lists.proofs.Chains.{some_none, some_some, split, in_right}
use Rattle.lists.proofs.Counts.{after_at, apart_before}

abbrev pub rest_from : Option ℕ → List ℕ → List ℕ
rest_from None xs = []
rest_from (Some x) [] = []
rest_from (Some x) (y ∷ ys) = cond (eqb x y) (y ∷ ys) (rest_from (Some x) ys)

pub rest_first : (xs : List ℕ) → rest_from (first_of xs) xs ≡ xs
rest_first [] = refl
rest_first (x ∷ xs) = rw (eq-eqb x x refl)

pub first_in : (x : ℕ) (xs : List ℕ) → first_of xs ≡ Some x → In x xs
first_in x [] e = absurd (some_none x (sym e))
first_in x (y ∷ ys) e = inl (some_some x y (sym e))

-- past a front that lacks the place
rest_past : (x : ℕ) (us vs : List ℕ) → (In x us → ⊥) → rest_from (Some x) (us ++ vs) ≡ rest_from (Some x) vs
rest_past x [] vs h = refl
rest_past x (u ∷ us) vs h = rw (ne_eqb x u (λ e. h (inl e))) (rest_past x us vs (λ i. h (inr i)))

rest_tail : (us : List ℕ) (x : ℕ) (vs : List ℕ) → Apart (us ++ x ∷ vs) → rest_from (first_of vs) (us ++ x ∷ vs) ≡ vs
rest_tail us x [] h = refl
rest_tail us x (v ∷ vs) h =
    rest_past v us (x ∷ v ∷ vs) (λ i. front us h i) ∙ rest_past v (x ∷ []) (v ∷ vs) (λ i. elim i [ inl e ↦ behind us h e | inr b ↦ absurd b ]) ∙ rest_first (v ∷ vs)
  where
    front : (us : List ℕ) → Apart (us ++ x ∷ v ∷ vs) → In v us → ⊥
    front [] h i = i
    front (u ∷ us) h (inl e) = h.0 (subst (λ z. In z (us ++ x ∷ v ∷ vs)) e (in_right v us (x ∷ v ∷ vs) (inr (inl refl))))
    front (u ∷ us) h (inr i) = front us h.1 i

    behind : (us : List ℕ) → Apart (us ++ x ∷ v ∷ vs) → v ≡ x → ⊥
    behind [] h e = h.0 (inl (sym e))
    behind (u ∷ us) h e = behind us h.1 e

-- one step
module _ (xs : List ℕ) (x : ℕ) (a : Apart xs) (i : In x xs) where
  pub rest_more : rest_from (Some x) xs ≡ x ∷ rest_from (after x xs) xs
  rest_more =
      let t = split x xs i in
      let us = t.0 in
      let vs = t.1 in
      let b = subst Apart t.2 a in
      let n = apart_before x us vs b in
      rw (t.2, after_at x us vs n, rest_tail us x vs b) (rest_past x us (x ∷ vs) n ∙ rest_first (x ∷ vs))

  pub after_in : (y : ℕ) → after x xs ≡ Some y → In y xs
  after_in y e =
      let t = split x xs i in
      let f = after_at x t.0 t.1 (apart_before x t.0 t.1 (subst Apart t.2 a)) in
      subst (In y) (sym t.2) (in_right y t.0 (x ∷ t.1) (inr (first_in y t.1 (sym f ∙ ap (after x) (sym t.2) ∙ e))))
