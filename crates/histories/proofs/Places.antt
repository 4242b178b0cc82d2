-- Where the history of a value stands.
use Rattle.std.proofs.Common.{◌≡◌, ℕ, suc, ◌+◌, ◌<◌, ◌≤◌, Bool, true, false, cond, ltb, List, [], ◌∷◌, length, is_some, Some, None, Option, Bor, sym, refl, ap, ◌∙◌, inl, inr, arith}
use Rattle.std.specs.List.{find, position, position_or_len}
use Rattle.std.specs.Option.{MatchOption, option_map}
use Rattle.std.proofs.lemmas.Bool.{cases_Bool, lt-ltb, le-ltb, ltb-true, ltb-false}
use Rattle.std.proofs.lemmas.List.{length-map}
use Rattle.std.proofs.lemmas.List.Recursion.{is_position_or_len}
use Rattle.row.specs.declared.row.Row.{Row}
use Rattle.row.specs.Items.{row_items}
use Rattle.model.specs.declared.ids.Value.{Value}
use Rattle.model.specs.Calls.{same_value}
use Rattle.model.specs.contracts.ids.ValuePartialEq.TheImpl.{ghosts}
use Rattle.rules.specs.Histories.{History, types_had}
use Rattle.histories.specs.declared.history.TypeHistory.{TypeHistory}
use Rattle.histories.specs.Kept.{history, histories, place_of, is_kept, place_in, history_in}
use Rattle.model.proofs.Equal.{value_eq}

-- the first entry of the value is the one that is looked for
place_first : (v : Value) (xs : List TypeHistory) → place_of (histories xs) v ≡ position_or_len (λ (x : TypeHistory). ghosts.eq x.value v) xs
place_first v = is_position_or_len (λ xs. place_of (histories xs) v) (λ x. ghosts.eq x.value v) refl (λ x xs.
    let n : suc (place_of (histories xs) v) ≡ 1 + place_of (histories xs) v = omega arith in
    ap (λ b. cond b 0 (suc (place_of (histories xs) v))) (sym (value_eq x.value v)) ∙ ap (cond (ghosts.eq x.value v) 0) n)

pub place_found : (xs : List TypeHistory) (v : Value) → position (λ (x : TypeHistory). ghosts.eq x.value v) xs ≡ place_in (histories xs) v
place_found xs v =
    ap (λ n. cond (ltb n (length xs)) (Some n) None) (sym (place_first v xs))
    ∙ ap (λ n. cond (ltb (place_of (histories xs) v) n) (Some (place_of (histories xs) v)) None) (sym (length-map xs history))

module _ (hs : List History) (v : Value) where
  place_some : (p : ℕ) → Some p ≡ place_in hs v → (p ≡ place_of hs v) × (place_of hs v < length hs)
  place_some p = at (is_kept hs v) refl
    where
      at : (b : Bool) → is_kept hs v ≡ b → Some p ≡ cond b (Some (place_of hs v)) None → (p ≡ place_of hs v) × (place_of hs v < length hs)
      at true e h = let q : p ≡ place_of hs v = cc in (q, ltb-true _ _ e)
      at false e h = let z : ◌≡◌ {A = ℕ} 0 1 = cc in absurd (omega arith)

  pub place_none : None ≡ place_in hs v → length hs ≤ place_of hs v
  place_none = at (is_kept hs v) refl
    where
      at : (b : Bool) → is_kept hs v ≡ b → None ≡ cond b (Some (place_of hs v)) None → length hs ≤ place_of hs v
      at true e h = let z : ◌≡◌ {A = ℕ} 0 1 = cc in absurd (omega arith)
      at false e h = ltb-false _ _ e

-- what a look-up finds
module _ (xs : List TypeHistory) (v : Value) where
  pub place_read : (p : ℕ) → Some p ≡ place_in (histories xs) v → (p ≡ place_of (histories xs) v) × (p < length xs)
  place_read p e = let q = place_some (histories xs) v p e in (q.0, omega (arith, q.0, q.1, length-map xs history))

found_in : (v : Value) (xs : List TypeHistory) → option_map history (find (λ (x : TypeHistory). ghosts.eq x.value v) xs) ≡ history_in (histories xs) v
found_in v [] = refl
found_in v (x ∷ xs) = at (ghosts.eq x.value v) (found_in v xs) ∙ ap (λ b. cond b (Some (history x)) (history_in (histories xs) v)) (value_eq x.value v)
  where
    at : (b : Bool) → option_map history (find (λ (y : TypeHistory). ghosts.eq y.value v) xs) ≡ history_in (histories xs) v
        → option_map history (cond b (Some x) (find (λ (y : TypeHistory). ghosts.eq y.value v) xs)) ≡ cond b (Some (history x)) (history_in (histories xs) v)
    at true e = refl
    at false e = e

read_of : (r : Option (Bor TypeHistory)) → option_map (λ h. history h.now) r ≡ option_map history (option_map (λ h. h.now) r)
read_of None = refl
read_of (Some h) = refl

pub entry_found : (v : Value) (xs : List TypeHistory) (r : Option (Bor TypeHistory)) → option_map (λ h. h.now) r ≡ find (λ (x : TypeHistory). ghosts.eq x.value v) xs
    → option_map (λ h. history h.now) r ≡ history_in (histories xs) v
entry_found v xs r e = read_of r ∙ ap (option_map history) e ∙ found_in v xs

-- and what that says of the types
abbrev pub types_in : Option History → List ℕ
types_in None = []
types_in (Some h) = h.types

pub types_found : (v : Value) (hs : List History) → types_in (history_in hs v) ≡ types_had hs v
types_found v [] = refl
types_found v (h ∷ hs) = at (same_value h.value v) (types_found v hs)
  where
    at : (b : Bool) → types_in (history_in hs v) ≡ types_had hs v → types_in (cond b (Some h) (history_in hs v)) ≡ cond b h.types (types_had hs v)
    at true e = refl
    at false e = e

pub types_read : (r : Option (Bor TypeHistory)) (types : Row ℕ 16) → MatchOption r (row_items types ≡ []) (λ h. types ≡ h.now.types) → row_items types ≡ types_in (option_map (λ h. history h.now) r)
types_read None types e = e
types_read (Some h) types e = ap row_items e

pub kept_found : (v : Value) (r : Option (Bor TypeHistory)) (hs : List History) → option_map (λ h. history h.now) r ≡ history_in hs v → is_some r ≡ is_kept hs v
kept_found v r hs e = reads r ∙ ap is_some e ∙ there hs
  where
    reads : (r : Option (Bor TypeHistory)) → is_some r ≡ is_some (option_map (λ h. history h.now) r)
    reads None = refl
    reads (Some h) = refl

    there : (hs : List History) → is_some (history_in hs v) ≡ is_kept hs v
    there [] = refl
    there (h ∷ hs) = at (same_value h.value v) (there hs)
      where
        at : (b : Bool) → is_some (history_in hs v) ≡ is_kept hs v → is_some (cond b (Some h) (history_in hs v)) ≡ ltb (cond b 0 (suc (place_of hs v))) (suc (length hs))
        at true e = sym (lt-ltb _ _ (omega arith))
        at false e = elim (cases_Bool (is_kept hs v)) [
          | inl t ↦ e ∙ t ∙ sym (lt-ltb _ _ (omega (arith, ltb-true _ _ t)))
          | inr f ↦ e ∙ f ∙ sym (le-ltb _ _ (omega (arith, ltb-false _ _ f)))
        ]
