-- How much is kept, and what is left when a history goes.
use Rattle.std.proofs.Common.{◌≡◌, ℕ, suc, ◌+◌, ◌<◌, ◌≤◌, Bool, true, false, cond, not, ◌&&◌, leb, List, [], ◌∷◌, length, sym, refl, ap, ◌∙◌, inl, inr, arith}
use Rattle.std.proofs.lemmas.List.{length-set, length_push}
use Rattle.std.proofs.lemmas.Bool.{cases_Bool, cond-true, cond-false, ltb-true, ltb-false, le-ltb, le-leb, lt-leb, and_left, and_right, and_from}
use Rattle.row.specs.Items.{row_items}
use Rattle.row.proofs.Rows.{long}
use Rattle.model.specs.declared.ids.Value.{Value}
use Rattle.model.specs.Calls.{same_value}
use Rattle.rules.specs.Histories.{History, types_had, put_types, drop_types, within_limits}
use Rattle.histories.specs.declared.history.TypeHistory.{TypeHistory}
use Rattle.histories.specs.Kept.{histories, place_of, is_kept, size_with}
use Rattle.histories.proofs.Puts.{put_there, put_nowhere}
use Rattle.histories.proofs.Values.{value_self, value_apart, value_other}
use Rattle.histories.proofs.Joins.{length_less}

-- a value has as many types as its row holds
pub types_few : (xs : List TypeHistory) (v : Value) → length (types_had (histories xs) v) ≤ 16
types_few [] v = omega arith
types_few (x ∷ xs) v = at (same_value x.value v) (types_few xs v)
  where
    at : (b : Bool) → length (types_had (histories xs) v) ≤ 16 → length (cond b (row_items x.types) (types_had (histories xs) v)) ≤ 16
    at true e = omega (arith, long x.types, x.types.within)
    at false e = e

module _ (v : Value) (ts : List ℕ) where
  pub types_put : (hs : List History) → types_had (put_types hs v ts) v ≡ ts
  types_put [] = cond-true (same_value v v) ts [] (value_self v)
  types_put (x ∷ hs) = at (same_value x.value v) refl (types_put hs)
    where
      at : (b : Bool) → same_value x.value v ≡ b → types_had (put_types hs v ts) v ≡ ts → types_had (cond b (record { value = v; types = ts } ∷ hs) (x ∷ put_types hs v ts)) v ≡ ts
      at true e rest = cond-true (same_value v v) ts (types_had hs v) (value_self v)
      at false e rest = cond-false (same_value x.value v) x.types (types_had (put_types hs v ts) v) e ∙ rest

  pub size_put : (hs : List History) → length (put_types hs v ts) ≡ size_with hs v
  size_put hs = elim (cases_Bool (is_kept hs v)) [
    | inl t ↦ ap length (put_there v ts hs (ltb-true _ _ t)) ∙ length-set hs (place_of hs v) _ ∙ sym (cond-true (is_kept hs v) _ _ t)
    | inr f ↦ ap length (put_nowhere v ts hs (ltb-false _ _ f)) ∙ length_push hs _ ∙ sym (cond-false (is_kept hs v) _ _ f)
  ]

  pub within_put : (hs : List History) → within_limits (put_types hs v ts) v ≡ (leb (length ts) 16 && leb (size_with hs v) 1024)
  within_put hs = ap (λ us. leb (length us) 16 && leb (length (put_types hs v ts)) 1024) (types_put hs) ∙ ap (λ n. leb (length ts) 16 && leb n 1024) (size_put hs)

  pub too_many_types : (hs : List History) → 16 < length ts → false ≡ within_limits (put_types hs v ts) v
  too_many_types hs h = sym (within_put hs ∙ and_left (leb (length ts) 16) (leb (size_with hs v) 1024) (lt-leb (length ts) 16 h))

  pub too_many_values : (hs : List History) → leb (size_with hs v) 1024 ≡ false → false ≡ within_limits (put_types hs v ts) v
  too_many_values hs f = sym (within_put hs ∙ and_right (leb (length ts) 16) (leb (size_with hs v) 1024) f)

  pub within_both : (hs : List History) → length ts ≤ 16 → leb (size_with hs v) 1024 ≡ true → true ≡ within_limits (put_types hs v ts) v
  within_both hs h t = sym (within_put hs ∙ and_from (leb (length ts) 16) (leb (size_with hs v) 1024) (le-leb (length ts) 16 h) t)

module _ (v : Value) where
  pub types_left : (hs : List History) (u : Value) → types_had (drop_types hs v) u ≡ cond (same_value u v) [] (types_had hs u)
  types_left [] u = at (same_value u v)
    where
      at : (b : Bool) → ◌≡◌ {A = List ℕ} [] (cond b [] [])
      at true = refl
      at false = refl
  types_left (x ∷ hs) u = at (same_value x.value v) (same_value u v) refl refl (types_left hs u)
    where
      at : (b c : Bool) → same_value x.value v ≡ b → same_value u v ≡ c → types_had (drop_types hs v) u ≡ cond c [] (types_had hs u)
          → types_had (cond (not b) (x ∷ drop_types hs v) (drop_types hs v)) u ≡ cond c [] (cond (same_value x.value u) x.types (types_had hs u))
      at true true e f rest = rest
      at true false e f rest = rest ∙ sym (cond-false (same_value x.value u) x.types (types_had hs u) (value_apart x.value v u e f))
      at false true e f rest = cond-false (same_value x.value u) x.types (types_had (drop_types hs v) u) (value_other x.value v u e f) ∙ rest
      at false false e f rest = ap (cond (same_value x.value u) x.types) rest

  -- a value with no history leaves all as they are
  pub drop_none : (hs : List History) → is_kept hs v ≡ false → drop_types hs v ≡ hs
  drop_none [] f = refl
  drop_none (x ∷ hs) f = at (same_value x.value v) (ltb-false _ _ f) (λ h. drop_none hs (le-ltb (place_of hs v) (length hs) h))
    where
      at : (b : Bool) → suc (length hs) ≤ cond b 0 (suc (place_of hs v)) → (length hs ≤ place_of hs v → drop_types hs v ≡ hs) → cond (not b) (x ∷ drop_types hs v) (drop_types hs v) ≡ x ∷ hs
      at true l rest = let no : ⊥ = omega arith in absurd no
      at false l rest = ap (λ ys. x ∷ ys) (rest (omega arith))

  -- and one with a history leaves fewer
  pub drop_some : (hs : List History) → place_of hs v < length hs → length (drop_types hs v) < length hs
  drop_some [] h = let no : ⊥ = omega arith in absurd no
  drop_some (x ∷ hs) h = at (same_value x.value v) h (drop_some hs) (length_less (λ (y : History). same_value y.value v) hs)
    where
      at : (b : Bool) → cond b 0 (suc (place_of hs v)) < suc (length hs) → (place_of hs v < length hs → length (drop_types hs v) < length hs) → length (drop_types hs v) ≤ length hs
          → length (cond (not b) (x ∷ drop_types hs v) (drop_types hs v)) < suc (length hs)
      at true l rest few = omega arith
      at false l rest few = let less-again = rest (omega arith) in omega arith

  size_most : (hs : List History) (u : Value) → size_with hs u ≤ length hs + 1
  size_most hs u = at (is_kept hs u)
    where
      at : (b : Bool) → cond b (length hs) (length hs + 1) ≤ length hs + 1
      at true = omega arith
      at false = omega arith

  -- where the value had a history there is a place for another's
  pub room_left : (hs : List History) (u : Value) → is_kept hs v ≡ true → size_with (drop_types hs v) u ≤ length hs
  room_left hs u t = omega (arith, drop_some hs (ltb-true _ _ t), size_most (drop_types hs v) u)
