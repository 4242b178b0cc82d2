-- What is read of the tables.
use Rattle.std.proofs.Common.{◌≡◌, ℕ, zero, suc, ◌+◌, ◌<◌, Bool, ◌&&◌, ltb, List, [], ◌∷◌, length, get_or, drop, is_some, Some, None, Option, sym, refl, ap, ◌∙◌, subst, inl, inr, arith, MatchOption, MatchResult, Ok, Result}
use Rattle.std.proofs.lemmas.List.{at_drop_more}
use Rattle.std.proofs.lemmas.Bool.{lt-ltb, le-ltb, cases_lt}
use Rattle.model.specs.declared.ids.Value.{Value}
use Rattle.model.specs.Model as model
use Rattle.std.specs.List.{slice_get, list_all}

module _ {X : Type 0} where
  pub nth_at : (xs : List X) (i : ℕ) (x : X) → slice_get xs i ≡ Some x → x ≡ get_or xs i x
  nth_at [] i x e = let z : ◌≡◌ {A = ℕ} 0 1 = cc in absurd (omega arith)
  nth_at (y ∷ xs) zero x e = cc
  nth_at (y ∷ xs) (suc i) x e = nth_at xs i x e

  pub nth_none : (xs : List X) (i : ℕ) → slice_get xs i ≡ None → i < length xs → ⊥
  nth_none [] i e h = omega arith
  nth_none (y ∷ xs) zero e h = let z : ◌≡◌ {A = ℕ} 0 1 = cc in omega arith
  nth_none (y ∷ xs) (suc i) e h = nth_none xs i e (omega arith)

  pub nth_some : (xs : List X) (i : ℕ) → is_some (slice_get xs i) ≡ ltb i (length xs)
  nth_some [] i = sym (le-ltb i 0 (omega arith))
  nth_some (x ∷ xs) zero = sym (lt-ltb 0 (length (x ∷ xs)) (omega arith))
  nth_some (x ∷ xs) (suc i) = nth_some xs i ∙ ltb_suc i (length xs)
    where
      ltb_suc : (i n : ℕ) → ltb i n ≡ ltb (suc i) (suc n)
      ltb_suc i n = elim (cases_lt i n) [ inl h ↦ lt-ltb i n h ∙ sym (lt-ltb (suc i) (suc n) (omega arith)) | inr h ↦ le-ltb i n h ∙ sym (le-ltb (suc i) (suc n) (omega arith)) ]

-- one pass over the values
pub values_all : (m : model.Model) (vs : List Value) → list_all (model.is_value m) vs ≡ model.are_values m vs
values_all m [] = refl
values_all m (v ∷ vs) = ap (λ b. model.is_value m v && b) (values_all m vs)

pub cases_some : {X : Type 0} (r : Option X) (P : Type 0) (Q : X → Type 0) (x : X) → MatchOption r P Q → r ≡ Some x → Q x
cases_some r P Q x h e = subst (λ z. MatchOption z P Q) e h

pub cases_ok : {X E : Type 0} (r : Result X E) (P : X → Type 0) (Q : E → Type 0) (x : X) → MatchResult r P Q → r ≡ Ok x → P x
cases_ok r P Q x h e = subst (λ z. MatchResult z P Q) e h
