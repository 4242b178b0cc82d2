-- Loops from the last to the first go through the list turned round.
use Rattle.std.proofs.Common.{◌≡◌, ℕ, ◌+◌, ◌<◌, List, [], ◌∷◌, ◌++◌, map, reverse, length, get_or, take, Some, None, Option, sym, refl, ap, ◌∙◌, subst, append_assoc}
use mathlib.Core.List.{reverse-cons}
use Rattle.std.proofs.lemmas.List.{take_more, reverse-append}
use Rattle.std.specs.List.{flat_map}
use Rattle.lists.specs.Walk.{In, Apart, first_of, last_of, after, before, next_in, prev_in}
use Rattle.lists.proofs.Chains.{split, apart_right}
use Rattle.lists.proofs.Counts.{after_at, before_at, apart_before}
use Rattle.model.specs.Sound.{Agree}
use Rattle.model.proofs.Parts.{in_reverse, in_reversed, apart_reverse}

pub agree_reverse : (ms : ℕ → List ℕ) (h : ℕ → Option ℕ) → Agree ms h → Agree (λ c. reverse (ms c)) h
agree_reverse ms h a = record {
  held = λ c x e. in_reverse x (ms c) (a.held c x e);
  home = λ c x i. a.home c x (in_reversed x (ms c) i);
  apart = λ c. apart_reverse (ms c) (a.apart c);
}

first_front : (us : List ℕ) (y : ℕ) (vs : List ℕ) → first_of ((us ++ y ∷ []) ++ vs) ≡ first_of (us ++ y ∷ [])
first_front [] y vs = refl
first_front (u ∷ us) y vs = refl

last_from : (a : ℕ) (xs : List ℕ) → last_of (Some a) xs ≡ first_of (reverse xs ++ a ∷ [])
last_from a [] = refl
last_from a (x ∷ xs) = last_from x xs ∙ sym (first_front (reverse xs) x (a ∷ [])) ∙ ap (λ ys. first_of (ys ++ a ∷ [])) (sym (reverse-cons x xs))

-- the last comes first
pub last_first : (xs : List ℕ) → last_of None xs ≡ first_of (reverse xs)
last_first [] = refl
last_first (x ∷ xs) = last_from x xs ∙ ap first_of (sym (reverse-cons x xs))

before_after : (x : ℕ) (xs : List ℕ) → Apart xs → In x xs → before x xs ≡ after x (reverse xs)
before_after x xs a i =
    let t = split x xs i in
    let us = t.0 in
    let vs = t.1 in
    let b = subst Apart t.2 a in
    let turned : reverse xs ≡ reverse vs ++ x ∷ reverse us = ap reverse t.2 ∙ reverse-append us (x ∷ vs) ∙ ap (λ ys. ys ++ reverse us) (reverse-cons x vs) ∙ append_assoc (reverse vs) (x ∷ []) (reverse us) in
    let off : In x (reverse vs) → ⊥ = λ j. (apart_right us (x ∷ vs) b).0 (in_reversed x vs j) in
    ap (before x) t.2 ∙ before_at None x us vs (apart_before x us vs b) ∙ last_first us ∙ sym (ap (after x) turned ∙ after_at x (reverse vs) (reverse us) off)

-- and what stands before stands behind
pub prev_next : (ms : ℕ → List ℕ) (h : ℕ → Option ℕ) → Agree ms h → (x : ℕ) → prev_in ms (h x) x ≡ next_in (λ c. reverse (ms c)) (h x) x
prev_next ms h a x = at (h x) refl
  where
    at : (q : Option ℕ) → h x ≡ q → prev_in ms q x ≡ next_in (λ c. reverse (ms c)) q x
    at None e = refl
    at (Some c) e = before_after x (ms c) (a.apart c) (a.held c x e)

pub map_reverse : {X Y : Type 0} (g : X → Y) (xs : List X) → map g (reverse xs) ≡ reverse (map g xs)
map_reverse g [] = refl
map_reverse g (x ∷ xs) = ap (map g) (reverse-cons x xs) ∙ ends (reverse xs) ∙ ap (λ ys. ys ++ g x ∷ []) (map_reverse g xs) ∙ sym (reverse-cons (g x) (map g xs))
  where
    ends : (ys : List _) → map g (ys ++ x ∷ []) ≡ map g ys ++ g x ∷ []
    ends [] = refl
    ends (y ∷ ys) = ap (λ zs. g y ∷ zs) (ends ys)

pub joined_one : {X Y : Type 0} (g : X → Y) (xs : List X) → flat_map (λ x. g x ∷ []) xs ≡ map g xs
joined_one g [] = refl
joined_one g (x ∷ xs) = ap (λ ys. g x ∷ ys) (joined_one g xs)
