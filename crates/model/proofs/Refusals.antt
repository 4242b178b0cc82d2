-- What is known where a call is not refused.
use Rattle.std.proofs.Common.{◌≡◌, ℕ, Bool, true, false, List, is_some, Some, None, Ok, Err, Option, refl, inl, inr, arith}
use Rattle.std.proofs.lemmas.Bool.{cases_Bool}
use Rattle.std.proofs.lemmas.Bool.Decides.{nat_tests}
use Rattle.slots.specs.Cells.{frees}
use Rattle.model.specs.declared.ids.Value.{Value}
use Rattle.model.specs.declared.refusal.Refusal.{Refusal}
use Rattle.model.specs.Model.{Model, are_values}
use Rattle.model.specs.Calls.{make_refusal}
use Rattle.model.specs.Refusals.{verdict}

module _ (m : Model) (vs : List Value) (ts : List ℕ) (gs : List Bool) (e : None ≡ make_refusal m vs ts gs) where
  pub make_free : frees m.ops ≡ 0 → ⊥
  make_free z = grind (arith, nat_tests)

  pub make_live : are_values m vs ≡ true
  make_live = elim (cases_Bool (are_values m vs)) [ inl t ↦ t | inr f ↦ grind (arith, nat_tests) ]

pub none_from : {X : Type 0} (q : Option X) → is_some q ≡ false → q ≡ None
none_from None e = refl
none_from (Some x) e = let z : ◌≡◌ {A = ℕ} 0 1 = cc in absurd (omega arith)

-- what a check's answer says of the refusal
pub passes : (q : Option Refusal) → Ok tt ≡ verdict q → q ≡ None
passes None e = refl
passes (Some f) e = let z : ◌≡◌ {A = ℕ} 0 1 = cc in absurd (omega arith)

pub fails : (q : Option Refusal) (f : Refusal) → Err f ≡ verdict q → q ≡ Some f
fails None f e = let z : ◌≡◌ {A = ℕ} 0 1 = cc in absurd (omega arith)
fails (Some g) f e = cc
