-- Loops that put the nodes of a list out, part by part.
use Rattle.std.proofs.Common.{◌≡◌, ℕ, zero, suc, ◌+◌, ◌<◌, ◌≤◌, List, [], ◌∷◌, ◌++◌, map, length, get_or, drop, Some, None, Option, sym, refl, ap, ◌∙◌, inl, inr, append_assoc, arith, length-append}
use Rattle.std.proofs.lemmas.List.{append-nil, at_drop_more, at_drop_all}
use Rattle.std.specs.List.{flat_map}
use Rattle.lists.specs.Walk.{In, first_of, after, next_in}
use Rattle.model.specs.Sound.{Agree}
use Rattle.walkers.proofs.Places.{rest_from, rest_first, first_in, rest_more, after_in}

module _ {Y : Type 0} where
  -- the part that is next goes out, and the rest is still to come
  pub turn : (out out' here rest rest' whole : List Y) → rest ≡ here ++ rest' → out' ≡ out ++ here → out ++ rest ≡ whole → out' ++ rest' ≡ whole
  turn out out' here rest rest' whole is more inv = rw (more, append_assoc) (rw is at inv)

  pub finish : (out rest whole : List Y) → rest ≡ [] → out ++ rest ≡ whole → out ≡ whole
  finish out rest whole is inv = sym (append-nil out) ∙ (rw is at inv)

  -- where the whole has room, the part has
  pub room : (out here rest rest' start whole : List Y) (n : ℕ) → rest ≡ here ++ rest' → out ++ rest ≡ start ++ whole → length start + length whole ≤ n → length out + length here ≤ n
  room out here rest rest' start whole n is inv fits =
      let a = ap length is ∙ length-append here rest' in
      let b = sym (length-append out rest) ∙ ap length inv ∙ length-append start whole in
      omega arith

  -- one node goes out before the loop
  pub one_more : (y : Y) (before start whole out : List Y) → start ≡ before ++ (y ∷ []) → out ≡ start ++ whole → out ≡ before ++ (y ∷ whole)
  one_more y before start whole out e f = f ∙ rw e (append_assoc before (y ∷ []) whole)

  pub one_less : (y : Y) (before start whole : List Y) (n : ℕ) → start ≡ before ++ (y ∷ []) → length before + suc (length whole) ≤ n → length start + length whole ≤ n
  one_less y before start whole n e fits = let a = ap length e ∙ length-append before (y ∷ []) in omega arith

  -- a loop over a slice
  module _ {X : Type 0} (f : X → List Y) (xs : List X) (k : ℕ) (d : X) where
    pub slice_few : k < length xs → length (f (get_or xs k d)) ≤ length (flat_map f xs)
    slice_few h = at xs k h
      where
        at : (xs : List X) (k : ℕ) → k < length xs → length (f (get_or xs k d)) ≤ length (flat_map f xs)
        at [] k h = absurd (omega arith)
        at (x ∷ xs) zero h = omega (arith, length-append (f x) (flat_map f xs))
        at (x ∷ xs) (suc k) h = omega (arith, length-append (f x) (flat_map f xs), at xs k (omega arith))

    more : k < length xs → flat_map f (drop k xs) ≡ f (get_or xs k d) ++ flat_map f (drop (k + 1) xs)
    more h = at_drop_more (flat_map f) xs k d h

    module _ (out start whole : List Y) (inv : out ++ flat_map f (drop k xs) ≡ start ++ whole) where
      pub slice_room : (n : ℕ) → k < length xs → length start + length whole ≤ n → length out + length (f (get_or xs k d)) ≤ n
      slice_room n h fits = room out (f (get_or xs k d)) (flat_map f (drop k xs)) (flat_map f (drop (k + 1) xs)) start whole n (more h) inv fits

      pub slice_turn : (out' : List Y) → k < length xs → out' ≡ out ++ f (get_or xs k d) → out' ++ flat_map f (drop (k + 1) xs) ≡ start ++ whole
      slice_turn out' h e = turn out out' (f (get_or xs k d)) (flat_map f (drop k xs)) (flat_map f (drop (k + 1) xs)) (start ++ whole) (more h) e inv

      pub slice_end : length xs ≤ k → out ≡ start ++ whole
      slice_end h = finish out (flat_map f (drop k xs)) (start ++ whole) (at_drop_all (flat_map f) xs k h) inv

pub joined_map : {X Y Z : Type 0} (f : Y → List Z) (g : X → Y) (xs : List X) → flat_map f (map g xs) ≡ flat_map (λ x. f (g x)) xs
joined_map f g [] = refl
joined_map f g (x ∷ xs) = ap (λ ys. f (g x) ++ ys) (joined_map f g xs)

-- where o is a node, it stands in the list of c
abbrev pub At : (ℕ → List ℕ) → ℕ → Option ℕ → Type 0
At ms c o = (x : ℕ) → o ≡ Some x → In x (ms c)

-- a loop over the list of c puts out what f gives of its nodes: out is there, and the node o is next
abbrev pub Midway : {Y : Type 0} → (ℕ → List ℕ) → ℕ → (ℕ → List Y) → Option ℕ → List Y → List Y → Type 0
Midway ms c f o out start = At ms c o × (out ++ flat_map f (rest_from o (ms c)) ≡ start ++ flat_map f (ms c))

-- a loop over a linked list, from its first node
pub linked_from : {Y : Type 0} (ms : ℕ → List ℕ) (c : ℕ) (f : ℕ → List Y) (start : List Y) (o : Option ℕ) → o ≡ first_of (ms c) → Midway ms c f o start start
linked_from ms c f start o e = (λ x d. first_in x (ms c) (sym e ∙ d), ap (λ ys. start ++ flat_map f ys) (ap (λ z. rest_from z (ms c)) e ∙ rest_first (ms c)))

pub linked_end : {Y : Type 0} (f : ℕ → List Y) (out start : List Y) (xs : List ℕ) (o : Option ℕ) → o ≡ None → out ++ flat_map f (rest_from o xs) ≡ start ++ flat_map f xs → out ≡ start ++ flat_map f xs
linked_end f out start xs o e inv = finish out (flat_map f (rest_from o xs)) (start ++ flat_map f xs) (ap (λ z. flat_map f (rest_from z xs)) e) inv

pub linked_few : {Y : Type 0} (f : ℕ → List Y) (x : ℕ) (xs : List ℕ) → In x xs → length (f x) ≤ length (flat_map f xs)
linked_few f x [] i = absurd i
linked_few f x (y ∷ xs) (inl e) = let same = ap (λ z. length (f z)) e in omega (arith, length-append (f y) (flat_map f xs))
linked_few f x (y ∷ xs) (inr i) = omega (arith, length-append (f y) (flat_map f xs), linked_few f x xs i)

-- and from the node x to the next
module _ (ms : ℕ → List ℕ) (h : ℕ → Option ℕ) (a : Agree ms h) (c x : ℕ) (o next : Option ℕ) (is : o ≡ Some x) (at : At ms c o) (then : next ≡ next_in ms (h x) x) where
  next_is : next ≡ after x (ms c)
  next_is = then ∙ ap (λ q. next_in ms q x) (a.home c x (at x is))

  pub at_next : At ms c next
  at_next y d = after_in (ms c) x (a.apart c) (at x is) y (sym next_is ∙ d)

  rest_next : rest_from o (ms c) ≡ x ∷ rest_from next (ms c)
  rest_next = ap (λ z. rest_from z (ms c)) is ∙ rest_more (ms c) x (a.apart c) (at x is) ∙ ap (λ z. x ∷ rest_from z (ms c)) (sym next_is)

  pub linked_less : length (rest_from next (ms c)) < length (rest_from o (ms c))
  linked_less = let e = ap length rest_next in omega arith

  module _ {Y : Type 0} (f : ℕ → List Y) (out start : List Y) (inv : out ++ flat_map f (rest_from o (ms c)) ≡ start ++ flat_map f (ms c)) where
    pub linked_room : (n : ℕ) → length start + length (flat_map f (ms c)) ≤ n → length out + length (f x) ≤ n
    linked_room n fits = room out (f x) (flat_map f (rest_from o (ms c))) (flat_map f (rest_from next (ms c))) start (flat_map f (ms c)) n (ap (flat_map f) rest_next) inv fits

    pub linked_turn : (out' : List Y) → out' ≡ out ++ f x → out' ++ flat_map f (rest_from next (ms c)) ≡ start ++ flat_map f (ms c)
    linked_turn out' e = turn out out' (f x) (flat_map f (rest_from o (ms c))) (flat_map f (rest_from next (ms c))) (start ++ flat_map f (ms c)) (ap (flat_map f) rest_next) e inv

    -- both at once
    pub linked_on : (out' : List Y) → out' ≡ out ++ f x → Midway ms c f next out' start
    linked_on out' e = (at_next, linked_turn out' e)
