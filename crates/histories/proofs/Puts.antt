-- A history that is put in its place, and one that goes.
use Rattle.std.proofs.Common.{◌≡◌, ℕ, suc, ◌<◌, ◌≤◌, Bool, true, false, cond, List, [], ◌∷◌, ◌++◌, length, set, filter, Some, None, sym, refl, ap, ◌∙◌, arith}
use Rattle.std.proofs.lemmas.List.{map-set, map_push, length-map}
use Rattle.row.specs.declared.row.Row.{Row}
use Rattle.row.specs.Items.{row_items}
use Rattle.model.specs.declared.ids.Value.{Value}
use Rattle.model.specs.Calls.{same_value}
use Rattle.rules.specs.Histories.{History, put_types}
use Rattle.histories.specs.declared.history.TypeHistory.{TypeHistory}
use Rattle.histories.specs.Kept.{history, histories, place_of, entries_of, place_in}
use Rattle.histories.proofs.Places.{place_read, place_none}

-- a test by the value alone is one of the history
pub kept_histories : (f : Value → Bool) (xs : List TypeHistory) → histories (filter (entries_of f) xs) ≡ filter (λ (h : History). f h.value) (histories xs)
kept_histories f [] = refl
kept_histories f (x ∷ xs) = at (f x.value) (kept_histories f xs)
  where
    at : (b : Bool) → histories (filter (entries_of f) xs) ≡ filter (λ (h : History). f h.value) (histories xs)
        → histories (cond b (x ∷ filter (entries_of f) xs) (filter (entries_of f) xs)) ≡ cond b (history x ∷ filter (λ (h : History). f h.value) (histories xs)) (filter (λ (h : History). f h.value) (histories xs))
    at true e = ap (λ hs. history x ∷ hs) e
    at false e = e

module _ (v : Value) (ts : List ℕ) where
  pub put_there : (hs : List History) → place_of hs v < length hs → put_types hs v ts ≡ set hs (place_of hs v) (record { value = v; types = ts })
  put_there [] h = let no : ⊥ = omega arith in absurd no
  put_there (x ∷ hs) h = at (same_value x.value v) h (put_there hs)
    where
      at : (b : Bool) → cond b 0 (suc (place_of hs v)) < suc (length hs) → (place_of hs v < length hs → put_types hs v ts ≡ set hs (place_of hs v) (record { value = v; types = ts }))
          → cond b (record { value = v; types = ts } ∷ hs) (x ∷ put_types hs v ts) ≡ set (x ∷ hs) (cond b 0 (suc (place_of hs v))) (record { value = v; types = ts })
      at true l rest = refl
      at false l rest = ap (λ ys. x ∷ ys) (rest (omega arith))

  pub put_nowhere : (hs : List History) → length hs ≤ place_of hs v → put_types hs v ts ≡ hs ++ record { value = v; types = ts } ∷ []
  put_nowhere [] h = refl
  put_nowhere (x ∷ hs) h = at (same_value x.value v) h (put_nowhere hs)
    where
      at : (b : Bool) → suc (length hs) ≤ cond b 0 (suc (place_of hs v)) → (length hs ≤ place_of hs v → put_types hs v ts ≡ hs ++ record { value = v; types = ts } ∷ [])
          → cond b (record { value = v; types = ts } ∷ hs) (x ∷ put_types hs v ts) ≡ x ∷ (hs ++ record { value = v; types = ts } ∷ [])
      at true l rest = let no : ⊥ = omega arith in absurd no
      at false l rest = ap (λ ys. x ∷ ys) (rest (omega arith))

-- what is written at the place that a look-up finds, or behind the last
module _ (xs : List TypeHistory) (v : Value) where
  pub put_at : (p : ℕ) (r : Row ℕ 16) → Some p ≡ place_in (histories xs) v → histories (set xs p (record { value = v; types = r })) ≡ put_types (histories xs) v (row_items r)
  put_at p r e =
      let q = place_read xs v p e in
      map-set history xs p (record { value = v; types = r })
      ∙ ap (λ n. set (histories xs) n (record { value = v; types = row_items r })) q.0
      ∙ sym (put_there v (row_items r) (histories xs) (omega (arith, q.0, q.1, length-map xs history)))

  pub put_end : (r : Row ℕ 16) → None ≡ place_in (histories xs) v → histories (xs ++ record { value = v; types = r } ∷ []) ≡ put_types (histories xs) v (row_items r)
  put_end r e = map_push history xs (record { value = v; types = r }) ∙ sym (put_nowhere v (row_items r) (histories xs) (place_none (histories xs) v e))
