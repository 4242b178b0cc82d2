-- Words on lists, on chains, and on tests.
use Rattle.std.specs.Prelude.{◌≡◌, ℕ, zero, suc, Bool, true, false, cond, ◌⊎◌, List, [], ◌∷◌}
use Rattle.std.proofs.Math.Option.{Option, none, some}

abbrev pub In : {A : Type 0} → A → List A → Type 0
In x [] = ⊥
In x (y ∷ ys) = (x ≡ y) ⊎ In x ys

-- nothing stands twice
abbrev pub Apart : {A : Type 0} → List A → Type 0
Apart [] = Unit {0}
Apart (x ∷ xs) = (In x xs → ⊥) × Apart xs

abbrev pub keep : {A : Type 0} → (A → Bool) → List A → List A
keep p [] = []
keep p (x ∷ xs) = cond (p x) (x ∷ keep p xs) (keep p xs)

abbrev pub first : {A : Type 0} → List A → Option A
first [] = none
first (x ∷ xs) = some x

abbrev pub mem : {A : Type 0} → (A → A → Bool) → A → List A → Bool
mem same x [] = false
mem same x (y ∷ ys) = cond (same x y) true (mem same x ys)

-- the list with x, where x is new
abbrev pub add : {A : Type 0} → (A → A → Bool) → List A → A → List A
add same xs x = cond (mem same x xs) xs (x ∷ xs)

abbrev pub add_all : {A : Type 0} → (A → A → Bool) → List A → List A → List A
add_all same xs [] = xs
add_all same xs (y ∷ ys) = add_all same (add same xs y) ys

-- From x on, `next` leads through the list and ends there.
abbrev pub Follows : {A : Type 0} → (A → Option A) → A → List A → Type 0
Follows next x [] = next x ≡ none
Follows next x (y ∷ ys) = (next x ≡ some y) × Follows next y ys

abbrev pub then : {A : Type 0} → Option A → (A → Option A) → Option A
then none f = none
then (some x) f = f x

-- the k-th member of the chain from x, which is itself its member 0
abbrev pub member : {A : Type 0} → (A → Option A) → ℕ → A → Option A
member next zero x = some x
member next (suc k) x = then (next x) (member next k)
