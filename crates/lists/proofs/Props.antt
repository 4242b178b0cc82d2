-- Soundness has one proof at most, so that it can be taken out of a truncation.
use Rattle.std.proofs.Common.{◌≡◌, ℕ, List, [], ◌∷◌, Some, None, Option, refl, ap, subst, inl, inr, arith}
use mathlib.Core.Logic.{∥∥₁_elim}
use mathlib.Core.HLevel.{Π_prop}
use native.Mathlib.Bridge.{le_prop}
use base.Stored.{Coded-set, coded_ℕ, coded_list, coded_via}
use Rattle.std.specs.Option.{option_to_list}
use Rattle.lists.specs.declared.links.Links.{Links}
use Rattle.lists.specs.declared.links.Ends.{Ends}
use Rattle.lists.specs.Walk.{Chain, In, Apart, Shape, Sound, members, fwd, bwd}

same_option : (x y : Option ℕ) → option_to_list x ≡ option_to_list y → x ≡ y
same_option None None e = refl
same_option None (Some y) e = let z : ◌≡◌ {A = ℕ} 0 1 = cc in absurd (omega arith)
same_option (Some x) None e = let z : ◌≡◌ {A = ℕ} 0 1 = cc in absurd (omega arith)
same_option (Some x) (Some y) e = cc

pub option_set : (x y : Option ℕ) → IsProp (x ≡ y)
option_set = Coded-set (coded_via (coded_list coded_ℕ) option_to_list same_option)

number_set : (x y : ℕ) → IsProp (x ≡ y)
number_set = Coded-set coded_ℕ

chain_prop : (f g : Option ℕ → Option ℕ) (a : Option ℕ) (xs : List ℕ) → IsProp (Chain f g a xs)
chain_prop f g a [] p q = λ i. (option_set _ _ p.0 q.0 i, option_set _ _ p.1 q.1 i)
chain_prop f g a (x ∷ xs) p q = λ i. (option_set _ _ p.0 q.0 i, option_set _ _ p.1 q.1 i, chain_prop f g (Some x) xs p.2 q.2 i)

pub apart_prop : (xs : List ℕ) → IsProp (Apart xs)
apart_prop [] p q = λ i. tt
apart_prop (x ∷ xs) p q = λ i. (Π_prop (λ j. λ u v. absurd u) p.0 q.0 i, apart_prop xs p.1 q.1 i)

pub in_prop : (x : ℕ) (xs : List ℕ) → Apart xs → IsProp (In x xs)
in_prop x [] h p q = absurd p
in_prop x (y ∷ ys) h (inl e) (inl d) = ap inl (number_set x y e d)
in_prop x (y ∷ ys) h (inl e) (inr j) = absurd (h.0 (subst (λ z. In z ys) e j))
in_prop x (y ∷ ys) h (inr i) (inl d) = absurd (h.0 (subst (λ z. In z ys) d i))
in_prop x (y ∷ ys) h (inr i) (inr j) = ap inr (in_prop x ys h.1 i j)

shape_prop : (L : List Links) (E : List Ends) (ms : ℕ → List ℕ) → IsProp (Shape L E ms)
shape_prop L E ms s t = λ i. record {
  chain = Π_prop (λ c. chain_prop (fwd L E c) (bwd L E c) None (ms c)) s.chain t.chain i;
  apart = Π_prop (λ c. apart_prop (ms c)) s.apart t.apart i;
  home = Π_prop (λ c. Π_prop (λ x. Π_prop (λ _. option_set _ _))) s.home t.home i;
  held = Π_prop (λ c. Π_prop (λ x. Π_prop (λ _. in_prop x (ms c) (s.apart c)))) s.held t.held i;
  bound = Π_prop (λ c. Π_prop (λ x. Π_prop (λ _. le_prop))) s.bound t.bound i;
  free = Π_prop (λ x. Π_prop (λ _. λ p q. λ j. (option_set _ _ p.0 q.0 j, option_set _ _ p.1 q.1 j))) s.free t.free i;
}

pub sound : (L : List Links) (E : List Ends) → ∥ Sound L E ∥₁ → Sound L E
sound L E h = ∥∥₁_elim h (shape_prop L E (members L E)) (λ s. s)
