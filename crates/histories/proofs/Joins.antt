-- Types that come to others.
use Rattle.std.proofs.Common.{ℕ, ◌+◌, ◌≤◌, Bool, not, eqb, List, length, filter, refl, arith}
use Rattle.std.proofs.lemmas.List.Filters.{length-filter_both}
use Rattle.std.proofs.lemmas.List.{length_push}
use Rattle.model.specs.Erasing.{less}
use Rattle.rules.specs.Histories.{add_type}

-- as many stay at most
pub length_kept : {X : Type 0} (f : X → Bool) (xs : List X) → length (filter f xs) ≤ length xs
length_kept f xs = omega (arith, length-filter_both f (λ x. not (f x)) (λ _. refl) xs)

pub length_less : {X : Type 0} (f : X → Bool) (xs : List X) → length (less f xs) ≤ length xs
length_less f xs = length_kept (λ x. not (f x)) xs

pub length_added : (ts : List ℕ) (t : ℕ) → length (add_type ts t) ≤ length ts + 1
length_added ts t = omega (arith, length_push (less (eqb t) ts) t, length_less (eqb t) ts)
