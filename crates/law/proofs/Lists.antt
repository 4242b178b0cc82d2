-- Lists: what stands in them, how long they are, filters, and lists that grow.
use Rattle.std.proofs.Common.{◌≡◌, ℕ, zero, suc, ◌+◌, ◌<◌, ◌≤◌, Bool, true, false, cond, ◌⊎◌, List, [], ◌∷◌, ◌++◌, length, sym, refl, ap, ◌∙◌, subst, inl, inr, arith, length-append}
use mathlib.Core.Option.{none, some}
use Rattle.std.proofs.lemmas.Bool.{cases_Bool, cases_eq, both_ways}
use Rattle.law.specs.Lists.{In, Apart, keep, first, mem, add, add_all}

module _ {A : Type 0} where
  pub in_left : (x : A) (us vs : List A) → In x us → In x (us ++ vs)
  in_left x [] vs i = absurd i
  in_left x (a ∷ us) vs (inl e) = inl e
  in_left x (a ∷ us) vs (inr i) = inr (in_left x us vs i)

  pub in_right : (x : A) (us vs : List A) → In x vs → In x (us ++ vs)
  in_right x [] vs i = i
  in_right x (a ∷ us) vs i = inr (in_right x us vs i)

  pub in_cases : (x : A) (us vs : List A) → In x (us ++ vs) → In x us ⊎ In x vs
  in_cases x [] vs i = inr i
  in_cases x (a ∷ us) vs (inl e) = inl (inl e)
  in_cases x (a ∷ us) vs (inr i) = elim (in_cases x us vs i) [ inl j ↦ inl (inr j) | inr j ↦ inr j ]

  pub split : (x : A) (xs : List A) → In x xs → (us : List A) × (vs : List A) × (xs ≡ us ++ x ∷ vs)
  split x [] i = absurd i
  split x (y ∷ ys) (inl e) = ([], ys, ap (λ z. z ∷ ys) (sym e))
  split x (y ∷ ys) (inr i) =
      let s = split x ys i in
      (y ∷ s.0, s.1, ap (λ zs. y ∷ zs) s.2)

  in_out : (x n : A) (us vs : List A) → In x (us ++ n ∷ vs) → (x ≡ n) ⊎ In x (us ++ vs)
  in_out x n [] vs i = i
  in_out x n (u ∷ us) vs (inl e) = inr (inl e)
  in_out x n (u ∷ us) vs (inr i) = elim (in_out x n us vs i) [ inl e ↦ inl e | inr j ↦ inr (inr j) ]

  -- a list with nothing twice is no longer than one that has all its elements
  pub fits : (xs ys : List A) → Apart xs → ((x : A) → In x xs → In x ys) → length xs ≤ length ys
  fits [] ys h sub = omega arith
  fits (x ∷ xs) ys h sub =
      let s = split x ys (sub x (inl refl)) in
      let k = fits xs (s.0 ++ s.1) h.1 (λ y i. elim (in_out y x s.0 s.1 (subst (In y) s.2 (sub y (inr i)))) [
        | inl e ↦ absurd (h.0 (subst (λ z. In z xs) e i))
        | inr j ↦ j
      ]) in
      omega (arith, k, length-append s.0 s.1, length-append s.0 (x ∷ s.1), ap length s.2)

  pub apart_append : (us vs : List A) → Apart us → Apart vs → ((x : A) → In x us → In x vs → ⊥) → Apart (us ++ vs)
  apart_append [] vs h k ne = k
  apart_append (u ∷ us) vs h k ne =
      (λ i. elim (in_cases u us vs i) [ inl j ↦ h.0 j | inr j ↦ ne u (inl refl) j ], apart_append us vs h.1 k (λ x i. ne x (inr i)))

  -- filters
  pub in_keep : (p : A → Bool) (x : A) (xs : List A) → In x (keep p xs) → In x xs × (p x ≡ true)
  in_keep p x [] i = absurd i
  in_keep p x (y ∷ ys) i = go (λ j. let r = in_keep p x ys j in (inr r.0, r.1)) (p y) refl i
    where
      go : (In x (keep p ys) → In x (y ∷ ys) × (p x ≡ true)) → (b : Bool) → p y ≡ b → In x (cond b (y ∷ keep p ys) (keep p ys)) → In x (y ∷ ys) × (p x ≡ true)
      go rest true e (inl d) = (inl d, ap p d ∙ e)
      go rest true e (inr j) = rest j
      go rest false e j = rest j

  pub keep_in : (p : A → Bool) (x : A) (xs : List A) → In x xs → p x ≡ true → In x (keep p xs)
  keep_in p x [] i e = absurd i
  keep_in p x (y ∷ ys) (inl d) e = rw (ap p (sym d) ∙ e) (inl d)
  keep_in p x (y ∷ ys) (inr i) e = elim (cases_Bool (p y)) [ inl h ↦ rw h (inr (keep_in p x ys i e)) | inr h ↦ rw h (keep_in p x ys i e) ]

  pub length_keep : (p : A → Bool) (xs : List A) → length (keep p xs) ≤ length xs
  length_keep p [] = omega arith
  length_keep p (y ∷ ys) = elim (cases_Bool (p y)) [ inl h ↦ rw h (omega (arith, length_keep p ys)) | inr h ↦ rw h (omega (arith, length_keep p ys)) ]

  pub apart_keep : (p : A → Bool) (xs : List A) → Apart xs → Apart (keep p xs)
  apart_keep p [] h = tt
  apart_keep p (y ∷ ys) h =
      elim (cases_Bool (p y)) [
        | inl e ↦ rw e (λ i. h.0 (in_keep p y ys i).0, apart_keep p ys h.1)
        | inr e ↦ rw e (apart_keep p ys h.1)
      ]

  pub first_none : (xs : List A) → first xs ≡ none → (x : A) → In x xs → ⊥
  first_none [] e x i = i
  first_none (y ∷ ys) e x i = let z : ◌≡◌ {A = ℕ} 0 1 = cc in omega arith

  pub first_some : (xs : List A) (d : A) → first xs ≡ some d → (ys : List A) × (xs ≡ d ∷ ys)
  first_some [] d e = absurd (let z : ◌≡◌ {A = ℕ} 0 1 = cc in omega arith)
  first_some (y ∷ ys) d e = (ys, cc)

  pub none_some : (x : A) → none ≡ some x → ⊥
  none_some x e = let z : ◌≡◌ {A = ℕ} 0 1 = cc in omega arith

  pub some_some : (x y : A) → some x ≡ some y → x ≡ y
  some_some x y e = cc

module _ {A : Type 0} (same : A → A → Bool) (same_is : (x y : A) → same x y ≡ true → x ≡ y) (same_self : (x : A) → same x x ≡ true) where
  pub differ : (x y : A) → same x y ≡ false → x ≡ y → ⊥
  differ x y f e = both_ways (same x y) f (ap (same x) (sym e) ∙ same_self x)

  pub cases_same : (x y : A) → (x ≡ y) ⊎ (x ≡ y → ⊥)
  cases_same x y = elim (cases_Bool (same x y)) [ inl t ↦ inl (same_is x y t) | inr f ↦ inr (differ x y f) ]

  pub mem_in : (x : A) (xs : List A) → mem same x xs ≡ true → In x xs
  mem_in x [] e = absurd (both_ways false refl e)
  mem_in x (y ∷ ys) e = elim (cases_Bool (same x y)) [ inl d ↦ inl (same_is x y d) | inr d ↦ inr (mem_in x ys (rw d at e)) ]

  pub in_mem : (x : A) (xs : List A) → In x xs → mem same x xs ≡ true
  in_mem x [] i = absurd i
  in_mem x (y ∷ ys) (inl e) = rw (ap (same x) (sym e) ∙ same_self x)
  in_mem x (y ∷ ys) (inr i) = elim (cases_Bool (same x y)) [ inl h ↦ rw h | inr h ↦ rw h (in_mem x ys i) ]

  pub in_dec : (x : A) (xs : List A) → In x xs ⊎ (In x xs → ⊥)
  in_dec x xs = elim (cases_Bool (mem same x xs)) [ inl h ↦ inl (mem_in x xs h) | inr h ↦ inr (λ i. both_ways _ h (in_mem x xs i)) ]

  pub mem_out : (x : A) (xs : List A) → (In x xs → ⊥) → mem same x xs ≡ false
  mem_out x xs ni = elim (cases_Bool (mem same x xs)) [ inl h ↦ absurd (ni (mem_in x xs h)) | inr h ↦ h ]

  pub in_add : (y : A) (xs : List A) (x : A) → In y (add same xs x) → (y ≡ x) ⊎ In y xs
  in_add y xs x i =
      elim (cases_Bool (mem same x xs)) [
        | inl h ↦ inr (rw h at i)
        | inr h ↦ let j : In y (x ∷ xs) = rw h at i in j
      ]

  pub add_in : (y : A) (xs : List A) (x : A) → In y xs → In y (add same xs x)
  add_in y xs x i = elim (cases_Bool (mem same x xs)) [ inl h ↦ rw h i | inr h ↦ rw h (inr i) ]

  pub add_self : (xs : List A) (x : A) → In x (add same xs x)
  add_self xs x = elim (cases_Bool (mem same x xs)) [ inl h ↦ rw h (mem_in x xs h) | inr h ↦ rw h (inl refl) ]

  pub length_add : (xs : List A) (x : A) → length xs ≤ length (add same xs x)
  length_add xs x = elim (cases_Bool (mem same x xs)) [ inl h ↦ rw h (omega arith) | inr h ↦ rw h (omega arith) ]

  pub length_add_new : (xs : List A) (x : A) → (In x xs → ⊥) → length (add same xs x) ≡ suc (length xs)
  length_add_new xs x ni = rw (mem_out x xs ni)

  pub in_add_all : (y : A) (xs ys : List A) → In y (add_all same xs ys) → In y xs ⊎ In y ys
  in_add_all y xs [] i = inl i
  in_add_all y xs (z ∷ ys) i =
      elim (in_add_all y (add same xs z) ys i) [
        | inl j ↦ elim (in_add y xs z j) [ inl e ↦ inr (inl e) | inr k ↦ inl k ]
        | inr j ↦ inr (inr j)
      ]

  pub add_all_in : (y : A) (xs ys : List A) → In y xs → In y (add_all same xs ys)
  add_all_in y xs [] i = i
  add_all_in y xs (z ∷ ys) i = add_all_in y (add same xs z) ys (add_in y xs z i)

  pub add_all_new : (y : A) (xs ys : List A) → In y ys → In y (add_all same xs ys)
  add_all_new y xs [] i = absurd i
  add_all_new y xs (z ∷ ys) (inl e) = add_all_in y (add same xs z) ys (subst (λ w. In w (add same xs z)) (sym e) (add_self xs z))
  add_all_new y xs (z ∷ ys) (inr i) = add_all_new y (add same xs z) ys i

  pub length_add_all : (xs ys : List A) → length xs ≤ length (add_all same xs ys)
  length_add_all xs [] = omega arith
  length_add_all xs (z ∷ ys) = omega (arith, length_add xs z, length_add_all (add same xs z) ys)

pub add_all_short : {A : Type 0} (same : A → A → Bool) (xs ys : List A) → length (add_all same xs ys) ≤ length xs + length ys
add_all_short same xs [] = omega arith
add_all_short same xs (y ∷ ys) = omega (arith, add_all_short same (add same xs y) ys, one)
  where
    one : length (add same xs y) ≤ suc (length xs)
    one = elim (cases_Bool (mem same y xs)) [ inl h ↦ rw h (omega arith) | inr h ↦ rw h (omega arith) ]

pub add_all_append : {A : Type 0} (same : A → A → Bool) (xs ys zs : List A) → add_all same xs (ys ++ zs) ≡ add_all same (add_all same xs ys) zs
add_all_append same xs [] zs = refl
add_all_append same xs (y ∷ ys) zs = add_all_append same (add same xs y) ys zs

below : ℕ → List ℕ
below zero = []
below (suc n) = n ∷ below n

in_below : (n x : ℕ) → x < n → In x (below n)
unfolding below
in_below zero x h = absurd (omega arith)
in_below (suc n) x h = elim (cases_eq x n) [ inl e ↦ inl e | inr ne ↦ inr (in_below n x (omega arith)) ]

length_below : (n : ℕ) → length (below n) ≡ n
unfolding below
length_below zero = refl
length_below (suc n) = ap suc (length_below n)

-- Different elements that differ in a number below n are n at most.
pub few : {A : Type 0} (f : A → ℕ) (n : ℕ) (xs : List A) → Apart xs → ((x : A) → In x xs → f x < n) → ((x y : A) → In x xs → In y xs → f x ≡ f y → x ≡ y) → length xs ≤ n
few {A} f n xs a b inj = omega (arith, length_map' xs, length_below n, fits (map' xs) (below n) (apart_map xs a (λ x i. i)) (λ y i. let r = in_map y xs (λ x i. i) i in in_below n y r))
  where
    map' : List A → List ℕ
    map' [] = []
    map' (x ∷ ys) = f x ∷ map' ys

    length_map' : (ys : List A) → length (map' ys) ≡ length ys
    length_map' [] = refl
    length_map' (y ∷ ys) = ap suc (length_map' ys)

    in_map : (y : ℕ) (ys : List A) → ((x : A) → In x ys → In x xs) → In y (map' ys) → y < n
    in_map y [] sub i = absurd i
    in_map y (x ∷ ys) sub (inl e) = omega (arith, b x (sub x (inl refl)))
    in_map y (x ∷ ys) sub (inr i) = in_map y ys (λ z j. sub z (inr j)) i

    off_map : (x : A) (ys : List A) → In x xs → ((z : A) → In z ys → In z xs) → (In x ys → ⊥) → In (f x) (map' ys) → ⊥
    off_map x [] ix sub ni i = i
    off_map x (z ∷ ys) ix sub ni (inl e) = ni (inl (inj x z ix (sub z (inl refl)) e))
    off_map x (z ∷ ys) ix sub ni (inr i) = off_map x ys ix (λ w j. sub w (inr j)) (λ j. ni (inr j)) i

    apart_map : (ys : List A) → Apart ys → ((x : A) → In x ys → In x xs) → Apart (map' ys)
    apart_map [] h sub = tt
    apart_map (y ∷ ys) h sub = (off_map y ys (sub y (inl refl)) (λ z j. sub z (inr j)) h.0, apart_map ys h.1 (λ z j. sub z (inr j)))
