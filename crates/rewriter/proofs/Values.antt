-- The ways out of the methods that change values.
use Rattle.std.proofs.Common.{◌≡◌, ℕ, Bool, true, false, cond, ◌&&◌, eqb, ltb, List, [], ◌∷◌, ◌++◌, length, is_some, Some, None, Result, sym, refl, ap, ◌∙◌, inl, inr, MatchResult}
use Rattle.std.proofs.lemmas.Bool.{cases_Bool, ltb-true, ltb-false}
use Rattle.std.proofs.lemmas.Option.{slice_get-get_or, slice_get_past}
use Rattle.std.specs.List.{slice_get}
use Rattle.model.specs.declared.ids.Value.{Value}
use Rattle.model.specs.declared.refusal.Refusal.{Refusal}
use Rattle.model.specs.declared.refusal.Refusal.TheVariants.{NotLive, RecordsFull}
use Rattle.model.specs.Model.{Model, is_value, types_of, type_of}
use Rattle.model.specs.Calls.{type_refusal, typed_at, replace_refusal, replace_all, same_value}
use Rattle.calls.specs.declared.events.RecorderEvent.TheVariants.{ValueTypeChanged, ReplacedValueUses}
use Rattle.calls.specs.World.{World, set_type, replace_uses, done, refused, kept, fits}
use Rattle.calls.specs.Perform.{events, changed, type_from, Performed}
use Rattle.rewriter.specs.Seen.{told}
use Rattle.rewriter.proofs.Ways.{none_picked, kept_none, known_full, known_done, accepted}

nth_some : (xs : List ℕ) (i : ℕ) → ltb i (length xs) ≡ is_some (slice_get xs i)
nth_some xs i = elim (cases_Bool (ltb i (length xs))) [
  | inl t ↦ t ∙ sym (ap is_some (slice_get-get_or xs i 0 (ltb-true i (length xs) t)))
  | inr f ↦ f ∙ sym (ap is_some (slice_get_past xs i (ltb-false i (length xs) f)))
]

-- a value is live where it has a type
pub value_test : (m : Model) (v : Value) → is_value m v ≡ is_some (type_of m v)
value_test m v = nth_some (types_of m v.definer) v.index

value_live : (m : Model) (v : Value) (t : ℕ) → Some t ≡ type_of m v → is_value m v ≡ true
value_live m v t e = value_test m v ∙ ap is_some (sym e)

value_dead : (m : Model) (v : Value) → None ≡ type_of m v → is_value m v ≡ false
value_dead m v e = value_test m v ∙ ap is_some (sym e)

pub type_refused : (m : Model) (v : Value) → None ≡ type_of m v → type_refusal m v ≡ Some NotLive
type_refused m v e = ap (λ b. cond b None (Some NotLive)) (value_dead m v e)

pub old_refused : (m : Model) (v u : Value) → None ≡ type_of m v → replace_refusal m v u ≡ Some NotLive
old_refused m v u e = ap (λ b. cond (b && is_value m u) None (Some NotLive)) (value_dead m v e)

pub new_refused : (m : Model) (v u : Value) (t : ℕ) → Some t ≡ type_of m v → is_some (type_of m u) ≡ false → replace_refusal m v u ≡ Some NotLive
new_refused m v u t e d = ap (λ b. cond (b && is_value m u) None (Some NotLive)) (value_live m v t e) ∙ ap (λ b. cond b None (Some NotLive)) (value_test m u ∙ d)

-- the value v has the type `from`, and is to have `to`
module _ (keeps : Bool) (w : World) (v : Value) (from to : ℕ) (is : Some from ≡ type_of w.model v) where
  type_taken : type_refusal w.model v ≡ None
  type_taken = ap (λ b. cond b None (Some NotLive)) (value_live w.model v from is)

  type_events : (b : Bool) → b ≡ eqb from to → events w (set_type v to) none_picked ≡ cond b [] (ValueTypeChanged v from to ∷ [])
  type_events b e = ap (λ t. cond (eqb t to) [] (ValueTypeChanged v t to ∷ [])) (ap type_from (sym is)) ∙ ap (λ c. cond c [] (ValueTypeChanged v from to ∷ [])) (sym e)

  type_changed : (b : Bool) → b ≡ eqb from to → cond b w.model (typed_at w.model v.definer v.index to) ≡ changed w (set_type v to) none_picked
  type_changed b e =
      let n = typed_at w.model v.definer v.index to in
      ap (λ c. cond c w.model n) e ∙ ap (λ t. cond (eqb t to) w.model n) (ap type_from is)

  pub type_same : true ≡ eqb from to → fits keeps w.records 0 ≡ true → Performed keeps w (set_type v to) w done
  type_same e f = known_done keeps w (set_type v to) none_picked type_taken [] (type_events true e) f tt w (type_changed true e) refl (kept_none keeps w.records) done refl

  pub type_full : false ≡ eqb from to → fits keeps w.records 1 ≡ false → Performed keeps w (set_type v to) w (refused RecordsFull)
  type_full e f = known_full keeps w (set_type v to) none_picked type_taken (ValueTypeChanged v from to ∷ []) (type_events false e) f

  pub type_done : false ≡ eqb from to → fits keeps w.records 1 ≡ true → (u : World) → u.point ≡ w.point → u.records ≡ w.records ++ kept keeps (ValueTypeChanged v from to ∷ []) → (r : Result (Unit {0}) Refusal)
      → MatchResult r (λ _. (type_refusal w.model v ≡ None) × (u.model ≡ typed_at w.model v.definer v.index to)) (λ e. (type_refusal w.model v ≡ Some e) × (u.model ≡ w.model))
      → Performed keeps w (set_type v to) u (told r)
  type_done e f u point records r h =
      let a = accepted (type_refusal w.model v) (u.model ≡ typed_at w.model v.definer v.index to) (λ _. u.model ≡ w.model) type_taken r h in
      known_done keeps w (set_type v to) none_picked type_taken (ValueTypeChanged v from to ∷ []) (type_events false e) f tt u (a.1 ∙ type_changed false e) point records (told r) a.0

-- the value v has the type `from`, and u is to be used in its place
module _ (keeps : Bool) (w : World) (v u : Value) (from : ℕ) (is : Some from ≡ type_of w.model v) (by : is_some (type_of w.model u) ≡ true) where
  uses_taken : replace_refusal w.model v u ≡ None
  uses_taken = ap (λ b. cond (b && is_value w.model u) None (Some NotLive)) (value_live w.model v from is) ∙ ap (λ b. cond b None (Some NotLive)) (value_test w.model u ∙ by)

  uses_events : (b : Bool) → b ≡ same_value v u → events w (replace_uses v u) none_picked ≡ cond b [] (ReplacedValueUses v from u ∷ [])
  uses_events b e = ap (λ t. cond (same_value v u) [] (ReplacedValueUses v t u ∷ [])) (ap type_from (sym is)) ∙ ap (λ c. cond c [] (ReplacedValueUses v from u ∷ [])) (sym e)

  uses_changed : (b : Bool) → b ≡ same_value v u → cond b w.model (replace_all w.model v u) ≡ changed w (replace_uses v u) none_picked
  uses_changed b e = ap (λ c. cond c w.model (replace_all w.model v u)) e

  pub uses_same : true ≡ same_value v u → fits keeps w.records 0 ≡ true → Performed keeps w (replace_uses v u) w done
  uses_same e f = known_done keeps w (replace_uses v u) none_picked uses_taken [] (uses_events true e) f tt w (uses_changed true e) refl (kept_none keeps w.records) done refl

  pub uses_full : false ≡ same_value v u → fits keeps w.records 1 ≡ false → Performed keeps w (replace_uses v u) w (refused RecordsFull)
  uses_full e f = known_full keeps w (replace_uses v u) none_picked uses_taken (ReplacedValueUses v from u ∷ []) (uses_events false e) f

  pub uses_done : false ≡ same_value v u → fits keeps w.records 1 ≡ true → (x : World) → x.point ≡ w.point → x.records ≡ w.records ++ kept keeps (ReplacedValueUses v from u ∷ []) → (r : Result (Unit {0}) Refusal)
      → MatchResult r (λ _. (replace_refusal w.model v u ≡ None) × (x.model ≡ replace_all w.model v u)) (λ e. (replace_refusal w.model v u ≡ Some e) × (x.model ≡ w.model)) → Performed keeps w (replace_uses v u) x (told r)
  uses_done e f x point records r h =
      let a = accepted (replace_refusal w.model v u) (x.model ≡ replace_all w.model v u) (λ _. x.model ≡ w.model) uses_taken r h in
      known_done keeps w (replace_uses v u) none_picked uses_taken (ReplacedValueUses v from u ∷ []) (uses_events false e) f tt x (a.1 ∙ uses_changed false e) point records (told r) a.0
