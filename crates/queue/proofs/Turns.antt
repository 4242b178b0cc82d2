-- What a write and a step of the front do to a turned list.
use Rattle.std.proofs.Common.{◌≡◌, ℕ, suc, ◌+◌, ◌-◌, ◌<◌, ◌≤◌, List, [], ◌∷◌, ◌++◌, length, get_or, take, drop, set, sym, ap, ◌∙◌, append_assoc, arith, length-append, length-drop, length-take, take_all, drop-set-lt}
use lib.Seq.{take-append-le, take-set-le, take-set-lt, drop-set-add, set-append_left}
use Rattle.std.proofs.lemmas.List.{take_more, take_more_set, drop_more, drop_all, drop-set, take-set, set-append_right, append-nil}
use Rattle.queue.specs.Contents.{turned}

module _ {X : Type 0} where
  pub length_turned : (f : ℕ) (xs : List X) → f ≤ length xs → length (turned f xs) ≡ length xs
  length_turned f xs h = simp (length-append, length-drop, length-take) (omega arith)

  -- a write at the place n after the front
  pub set_high : (f n : ℕ) (xs : List X) (x : X) → f ≤ length xs → n < length xs - f → turned f (set xs (f + n) x) ≡ set (turned f xs) n x
  set_high f n xs x h l =
      let le : f ≤ f + n = omega arith in
      let lt : n < length (drop f xs) = simp length-drop l in
      rw (drop-set-add, take-set-le, set-append_left)

  pub set_low : (f n : ℕ) (xs : List X) (x : X) → f ≤ length xs → length xs - f ≤ n → n < length xs → turned f (set xs (n - (length xs - f)) x) ≡ set (turned f xs) n x
  set_low f n xs x h l m =
      let lt : n - (length xs - f) < f = omega arith in
      rw (drop-set-lt, take-set-lt) (sym (set-append_right (drop f xs) (take f xs) (length xs - f) n x (length-drop f xs) l))

  pub put : (n : ℕ) (xs ys ts : List X) (x : X) → n < length ts → ys ≡ set ts n x → take (n + 1) ys ≡ take n ts ++ (x ∷ [])
  put n xs ys ts x h e = ap (take (n + 1)) e ∙ take_more_set ts n x h

  -- the front, and what stands after it
  pub head : (f : ℕ) (xs : List X) (d : X) → f < length xs → turned f xs ≡ get_or xs f d ∷ (drop (f + 1) xs ++ take f xs)
  head f xs d h = ap (λ ys. ys ++ take f xs) (drop_more xs f d h)

  pub last : (f : ℕ) (xs : List X) (d : X) → f < length xs → turned (f + 1) xs ≡ (drop (f + 1) xs ++ take f xs) ++ (get_or xs f d ∷ [])
  last f xs d h = ap (λ ys. drop (f + 1) xs ++ ys) (take_more xs f d h) ∙ sym (append_assoc (drop (f + 1) xs) (take f xs) (get_or xs f d ∷ []))

  between : (f : ℕ) (xs : List X) → f < length xs → length (drop (f + 1) xs ++ take f xs) ≡ length xs - 1
  between f xs h = simp (length-append, length-drop, length-take) (omega arith)

  pub rest : (f n : ℕ) (xs : List X) (d : X) → f < length xs → n < length xs → take n (turned (f + 1) xs) ≡ take n (drop (f + 1) xs ++ take f xs)
  rest f n xs d h l = ap (take n) (last f xs d h) ∙ take-append-le n _ _ (omega (arith, between f xs h))

  pub pop : (f n : ℕ) (xs : List X) (d : X) → f < length xs → 0 < n → n ≤ length xs → take n (turned f xs) ≡ get_or xs f d ∷ take (n - 1) (turned (f + 1) xs)
  pop f n xs d h p l =
      let m : n ≡ suc (n - 1) = omega arith in
      let lt : n - 1 < length xs = omega arith in
      ap (λ k. take k (turned f xs)) m ∙ ap (take (suc (n - 1))) (head f xs d h) ∙ ap (λ ys. get_or xs f d ∷ ys) (sym (rest f (n - 1) xs d h lt))

  -- the place past the last is the first
  pub round : (xs : List X) → turned (length xs) xs ≡ turned 0 xs
  round xs =
      ap (λ ys. ys ++ take (length xs) xs) (drop_all (length xs) xs (omega arith)) ∙ take_all (length xs) xs (omega arith) ∙ sym (append-nil xs)

  pub push : (f n : ℕ) (xs : List X) (x : X) → f < length xs → n < length xs → take (n + 1) (turned f (set xs f x)) ≡ x ∷ take n (turned (f + 1) xs)
  push f n xs x h l =
      let turn : turned f (set xs f x) ≡ x ∷ (drop (f + 1) xs ++ take f xs) = rw (drop-set xs f x h, take-set xs f x) in
      let m : n + 1 ≡ suc n = omega arith in
      ap (λ k. take k (turned f (set xs f x))) m ∙ ap (take (suc n)) turn ∙ ap (λ ys. x ∷ ys) (sym (rest f n xs x h l))
