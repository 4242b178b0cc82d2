-- What is noted of an operation is read of it, and of no other that lives.
use Rattle.std.proofs.Common.{◌≡◌, ℕ, true, ◌&&◌, ◌||◌, eqb, ltb, ◌⊎◌, List, [], ◌∷◌, is_some, refl, ap, ◌∙◌, subst, inl, inr}
use Rattle.std.proofs.lemmas.Bool.{both_ways, eqb-true, and_parts, or_cases}
use Rattle.model.specs.declared.ids.OpId.{OpId}
use Rattle.model.specs.declared.ids.IRNode.TheVariants as node
use Rattle.model.specs.Model.{Model, find_op}
use Rattle.model.specs.Later.{Dead}
use Rattle.model.proofs.Past.{past_not_node}
use Rattle.calls.specs.declared.events.RecorderEvent.{RecorderEvent}
use Rattle.calls.specs.declared.events.RecorderEvent.TheVariants as event
use Rattle.rules.specs.declared.interface.OpEvent.{OpEvent}
use Rattle.rules.specs.declared.interface.OpEvent.TheVariants as happens
use Rattle.rules.specs.declared.interface.StateEntry.{StateEntry}
use Rattle.rules.specs.States.{moved}
use Rattle.rules.specs.Driver.{kept_state}
use Rattle.rules_next.specs.Driver.{notable, noted, mark_erased, mark_all_erased}
use Rattle.rules.proofs.Recorded.{Stands, AllStand}
use Rattle.rules.proofs.Marking.{Alive, Given, Known, if_noted_at, if_noted_off, if_known_noted}

module _ (m : Model) (ks : ℕ → StateEntry) (o : OpId) where
  pub lives : Alive m o → notable m ks o ≡ true
  lives l = ap (λ b. b || (eqb (ks o.slot).generation o.generation && ltb o.slot 512)) l

  pub keeps : notable m ks o ≡ true → Alive m o ⊎ ((ks o.slot).generation ≡ o.generation)
  keeps h = elim (or_cases (is_some (find_op m o)) (eqb (ks o.slot).generation o.generation && ltb o.slot 512) h) [ inl l ↦ inl l | inr g ↦ inr (eqb-true (ks o.slot).generation o.generation (and_parts (eqb (ks o.slot).generation o.generation) (ltb o.slot 512) g).0) ]

module _ (m : Model) (ks : ℕ → StateEntry) (o : OpId) (e : OpEvent) where
  pub noted_at : Alive m o → kept_state (noted m ks o e) o ≡ moved (kept_state ks o) e
  noted_at = if_noted_at m ks o e (notable m ks o) (lives m ks o) (keeps m ks o)

  pub noted_off : (y : OpId) → Alive m y → (o ≡ y → ⊥) → kept_state (noted m ks o e) y ≡ kept_state ks y
  noted_off = if_noted_off m ks o e (notable m ks o) (lives m ks o) (keeps m ks o)

  pub known_noted : Given m o → Known m ks → Known m (noted m ks o e)
  known_noted = if_known_noted m ks o e (notable m ks o) (lives m ks o) (keeps m ks o)

-- erased operations are marked, and nothing else is read differently
module _ (m : Model) where
  erased_one : (ks : ℕ → StateEntry) (d : RecorderEvent) → Stands m d → (y : OpId) → Alive m y → kept_state (mark_erased m ks d) y ≡ kept_state ks y
  erased_one ks (event.InsertedOperation o) h y l = refl
  erased_one ks (event.InsertedBlock b) h y l = refl
  erased_one ks (event.ErasedOperation o) h y l = noted_off m ks o happens.Erased y l (λ q. both_ways _ (past_not_node m (node.Operation y) (subst (λ z. Dead m (node.Operation z)) q h)) l)
  erased_one ks (event.ErasedBlock b) h y l = refl
  erased_one ks (event.ErasedRegion r) h y l = refl
  erased_one ks (event.ReplacedValueUses v t u) h y l = refl
  erased_one ks (event.ValueTypeChanged v t u) h y l = refl
  erased_one ks (event.UnlinkedOperation o p) h y l = refl

  known_one : (ks : ℕ → StateEntry) (d : RecorderEvent) → Stands m d → Known m ks → Known m (mark_erased m ks d)
  known_one ks (event.InsertedOperation o) h k = k
  known_one ks (event.InsertedBlock b) h k = k
  known_one ks (event.ErasedOperation o) h k = known_noted m ks o happens.Erased (inr h) k
  known_one ks (event.ErasedBlock b) h k = k
  known_one ks (event.ErasedRegion r) h k = k
  known_one ks (event.ReplacedValueUses v t u) h k = k
  known_one ks (event.ValueTypeChanged v t u) h k = k
  known_one ks (event.UnlinkedOperation o p) h k = k

  pub erased_all : (ks : ℕ → StateEntry) (es : List RecorderEvent) → AllStand m es → (y : OpId) → Alive m y → kept_state (mark_all_erased m ks es) y ≡ kept_state ks y
  erased_all ks [] h y l = refl
  erased_all ks (d ∷ es) h y l = erased_all (mark_erased m ks d) es (λ e i. h e (inr i)) y l ∙ erased_one ks d (h d (inl refl)) y l

  pub known_all : (ks : ℕ → StateEntry) (es : List RecorderEvent) → AllStand m es → Known m ks → Known m (mark_all_erased m ks es)
  known_all ks [] h k = k
  known_all ks (d ∷ es) h k = known_all (mark_erased m ks d) es (λ e i. h e (inr i)) (known_one ks d (h d (inl refl)) k)
