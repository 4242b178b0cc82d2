-- What is noted of an operation is read of it, and of no other that lives.
use Rattle.std.proofs.Common.{◌≡◌, ℕ, Bool, true, false, cond, ◌||◌, eqb, ◌⊎◌, List, [], ◌∷◌, is_some, sym, refl, ap, ◌∙◌, subst, inl, inr, arith}
use Rattle.std.proofs.lemmas.Bool.{cases_Bool, cases_eq, both_ways, eqb-true, eq-eqb, ne_eqb, or_cases, cond-true, cond-false}
use Rattle.model.specs.declared.ids.OpId.{OpId}
use Rattle.model.specs.declared.ids.IRNode.TheVariants as node
use Rattle.model.specs.Model.{Model, find_op, put}
use Rattle.model.specs.Later.{Dead, Later}
use Rattle.model.proofs.Lists.{put_same, put_other}
use Rattle.model.proofs.Lives.{same_generation}
use Rattle.model.proofs.Past.{past_not_node}
use Rattle.calls.specs.declared.events.RecorderEvent.{RecorderEvent}
use Rattle.calls.specs.declared.events.RecorderEvent.TheVariants as event
use Rattle.law.specs.Machine.{unmarked, queued, asking}
use Rattle.rules.specs.declared.interface.OpState.{OpState}
use Rattle.rules.specs.declared.interface.OpState.TheVariants as state
use Rattle.rules.specs.declared.interface.OpEvent.{OpEvent}
use Rattle.rules.specs.declared.interface.OpEvent.TheVariants as happens
use Rattle.rules.specs.declared.interface.StateEntry.{StateEntry}
use Rattle.rules.specs.States.{moved}
use Rattle.rules.specs.Driver.{of_generation, kept_state, state_of, notable, noted, mark_of, marks_of, is_queued, mark_erased, mark_all_erased}
use Rattle.rules.proofs.Recorded.{Stands, AllStand}

abbrev pub Alive : Model → OpId → Type 0
Alive m o = is_some (find_op m o) ≡ true

-- the operation was given
abbrev pub Given : Model → OpId → Type 0
Given m o = Alive m o ⊎ Dead m (node.Operation o)

-- only of operations that were given something is kept
abbrev pub Known : Model → (ℕ → StateEntry) → Type 0
Known m ks = (y : OpId) → Given m y ⊎ (kept_state ks y ≡ state.Unmarked)

pub given_later : (m n : Model) (o : OpId) → Later m n → Given m o → Given n o
given_later m n o l (inl h) = l.once (node.Operation o) h
given_later m n o l (inr h) = inr (l.gone (node.Operation o) h)

pub known_later : (m n : Model) (ks : ℕ → StateEntry) → Later m n → Known m ks → Known n ks
known_later m n ks l k y = elim (k y) [ inl g ↦ inl (given_later m n y l g) | inr u ↦ inr u ]

pub same_op : (o y : OpId) → o.slot ≡ y.slot → o.generation ≡ y.generation → o ≡ y
same_op o y s g = λ i. record { slot = s i; generation = g i }

pub of_same : (k : StateEntry) (g : ℕ) → k.generation ≡ g → of_generation k g ≡ k.state
of_same k g e = ap (λ b. cond b k.state state.Unmarked) (eq-eqb k.generation g e)

pub of_other : (k : StateEntry) (g : ℕ) → (k.generation ≡ g → ⊥) → of_generation k g ≡ state.Unmarked
of_other k g ne = ap (λ b. cond b k.state state.Unmarked) (ne_eqb k.generation g ne)

-- An event is noted of o where b says so: of each that lives, and else only where its slot still keeps its state.
module _ (m : Model) (ks : ℕ → StateEntry) (o : OpId) (e : OpEvent) (b : Bool) (lives : Alive m o → b ≡ true) (keeps : b ≡ true → Alive m o ⊎ ((ks o.slot).generation ≡ o.generation)) where
  abbrev entry : StateEntry
  entry = record { generation = o.generation; state = moved (kept_state ks o) e }

  abbrev after : ℕ → StateEntry
  after = cond b (put ks o.slot entry) ks

  written : b ≡ true → after ≡ put ks o.slot entry
  written h = cond-true b (put ks o.slot entry) ks h

  unwritten : b ≡ false → after ≡ ks
  unwritten h = cond-false b (put ks o.slot entry) ks h

  pub if_noted_at : Alive m o → kept_state after o ≡ moved (kept_state ks o) e
  if_noted_at l = ap (λ f. kept_state f o) (written (lives l)) ∙ ap (λ k. of_generation k o.generation) (put_same ks o.slot entry) ∙ of_same entry o.generation refl

  pub if_noted_off : (y : OpId) → Alive m y → (o ≡ y → ⊥) → kept_state after y ≡ kept_state ks y
  if_noted_off y l ne = elim (cases_Bool b) [
    | inr h ↦ ap (λ f. kept_state f y) (unwritten h)
    | inl h ↦ ap (λ f. kept_state f y) (written h) ∙ elim (cases_eq y.slot o.slot) [
      | inr d ↦ ap (λ k. of_generation k y.generation) (put_other ks o.slot entry y.slot d)
      | inl d ↦
          let differ : o.generation ≡ y.generation → ⊥ = λ g. ne (same_op o y (sym d) g) in
          ap (λ s. of_generation (put ks o.slot entry s) y.generation) d
          ∙ ap (λ k. of_generation k y.generation) (put_same ks o.slot entry)
          ∙ of_other entry y.generation differ
          ∙ elim (keeps h) [
            | inl lo ↦ absurd (differ (same_generation m.ops o.slot y.slot o.generation y.generation (sym d) lo l))
            | inr g ↦ sym (ap (λ s. of_generation (ks s) y.generation) d ∙ of_other (ks o.slot) y.generation (λ q. differ (sym g ∙ q)))
          ]
    ]
  ]

  pub if_known_noted : Given m o → Known m ks → Known m after
  if_known_noted g k y = elim (cases_Bool (b)) [
    | inr h ↦ elim (k y) [ inl q ↦ inl q | inr u ↦ inr (ap (λ f. kept_state f y) (unwritten h) ∙ u) ]
    | inl h ↦ elim (cases_eq y.slot o.slot) [
      | inr d ↦ elim (k y) [ inl q ↦ inl q | inr u ↦ inr (ap (λ f. kept_state f y) (written h) ∙ ap (λ z. of_generation z y.generation) (put_other ks o.slot entry y.slot d) ∙ u) ]
      | inl d ↦ elim (cases_eq o.generation y.generation) [
        | inl q ↦ inl (subst (Given m) (same_op o y (sym d) q) g)
        | inr q ↦ inr (ap (λ f. kept_state f y) (written h) ∙ ap (λ s. of_generation (put ks o.slot entry s) y.generation) d ∙ ap (λ z. of_generation z y.generation) (put_same ks o.slot entry) ∙ of_other entry y.generation q)
      ]
    ]
  ]

module _ (m : Model) (ks : ℕ → StateEntry) (o : OpId) where
  pub lives : Alive m o → notable m ks o ≡ true
  lives l = ap (λ b. b || eqb (ks o.slot).generation o.generation) l

  pub keeps : notable m ks o ≡ true → Alive m o ⊎ ((ks o.slot).generation ≡ o.generation)
  keeps h = elim (or_cases (is_some (find_op m o)) (eqb (ks o.slot).generation o.generation) h) [ inl l ↦ inl l | inr g ↦ inr (eqb-true (ks o.slot).generation o.generation g) ]

module _ (m : Model) (ks : ℕ → StateEntry) (o : OpId) (e : OpEvent) where
  pub noted_at : Alive m o → kept_state (noted m ks o e) o ≡ moved (kept_state ks o) e
  noted_at = if_noted_at m ks o e (notable m ks o) (lives m ks o) (keeps m ks o)

  pub noted_off : (y : OpId) → Alive m y → (o ≡ y → ⊥) → kept_state (noted m ks o e) y ≡ kept_state ks y
  noted_off = if_noted_off m ks o e (notable m ks o) (lives m ks o) (keeps m ks o)

  pub known_noted : Given m o → Known m ks → Known m (noted m ks o e)
  known_noted = if_known_noted m ks o e (notable m ks o) (lives m ks o) (keeps m ks o)

-- erased operations are marked, and nothing else is read differently
module _ (m : Model) where
  erased_one : (ks : ℕ → StateEntry) (d : RecorderEvent) → Stands m d → (y : OpId) → Alive m y → kept_state (mark_erased m ks d) y ≡ kept_state ks y
  erased_one ks (event.InsertedOperation o) h y l = refl
  erased_one ks (event.InsertedBlock b) h y l = refl
  erased_one ks (event.ErasedOperation o) h y l = noted_off m ks o happens.Erased y l (λ q. both_ways _ (past_not_node m (node.Operation y) (subst (λ z. Dead m (node.Operation z)) q h)) l)
  erased_one ks (event.ErasedBlock b) h y l = refl
  erased_one ks (event.ErasedRegion r) h y l = refl
  erased_one ks (event.ReplacedValueUses v t u) h y l = refl
  erased_one ks (event.ValueTypeChanged v t u) h y l = refl
  erased_one ks (event.UnlinkedOperation o p) h y l = refl

  known_one : (ks : ℕ → StateEntry) (d : RecorderEvent) → Stands m d → Known m ks → Known m (mark_erased m ks d)
  known_one ks (event.InsertedOperation o) h k = k
  known_one ks (event.InsertedBlock b) h k = k
  known_one ks (event.ErasedOperation o) h k = known_noted m ks o happens.Erased (inr h) k
  known_one ks (event.ErasedBlock b) h k = k
  known_one ks (event.ErasedRegion r) h k = k
  known_one ks (event.ReplacedValueUses v t u) h k = k
  known_one ks (event.ValueTypeChanged v t u) h k = k
  known_one ks (event.UnlinkedOperation o p) h k = k

  pub erased_all : (ks : ℕ → StateEntry) (es : List RecorderEvent) → AllStand m es → (y : OpId) → Alive m y → kept_state (mark_all_erased m ks es) y ≡ kept_state ks y
  erased_all ks [] h y l = refl
  erased_all ks (d ∷ es) h y l = erased_all (mark_erased m ks d) es (λ e i. h e (inr i)) y l ∙ erased_one ks d (h d (inl refl)) y l

  pub known_all : (ks : ℕ → StateEntry) (es : List RecorderEvent) → AllStand m es → Known m ks → Known m (mark_all_erased m ks es)
  known_all ks [] h k = k
  known_all ks (d ∷ es) h k = known_all (mark_erased m ks d) es (λ e i. h e (inr i)) (known_one ks d (h d (inl refl)) k)

-- states and marks
pub queued_state : (s : OpState) → is_queued s ≡ true → s ≡ state.Queued
queued_state state.Unmarked h = absurd (both_ways false refl h)
queued_state state.Queued h = refl
queued_state state.Rewritten h = absurd (both_ways false refl h)
queued_state state.SetAside h = absurd (both_ways false refl h)
queued_state state.Erased h = absurd (both_ways false refl h)

pub queued_mark : (s : OpState) → mark_of s ≡ queued → is_queued s ≡ true
queued_mark state.Unmarked h = let z : ◌≡◌ {A = ℕ} 0 1 = cc in absurd (omega arith)
queued_mark state.Queued h = refl
queued_mark state.Rewritten h = let z : ◌≡◌ {A = ℕ} 0 1 = cc in absurd (omega arith)
queued_mark state.SetAside h = let z : ◌≡◌ {A = ℕ} 0 1 = cc in absurd (omega arith)
queued_mark state.Erased h = let z : ◌≡◌ {A = ℕ} 0 1 = cc in absurd (omega arith)

pub unmarked_state : (s : OpState) → mark_of s ≡ unmarked → s ≡ state.Unmarked
unmarked_state state.Unmarked h = refl
unmarked_state state.Queued h = let z : ◌≡◌ {A = ℕ} 0 1 = cc in absurd (omega arith)
unmarked_state state.Rewritten h = let z : ◌≡◌ {A = ℕ} 0 1 = cc in absurd (omega arith)
unmarked_state state.SetAside h = let z : ◌≡◌ {A = ℕ} 0 1 = cc in absurd (omega arith)
unmarked_state state.Erased h = let z : ◌≡◌ {A = ℕ} 0 1 = cc in absurd (omega arith)

-- one that is asked can be queued
pub asking_queued : (s : OpState) → asking (mark_of s) ≡ true → moved s happens.Queued ≡ state.Queued
asking_queued state.Unmarked h = refl
asking_queued state.Queued h = refl
asking_queued state.Rewritten h = absurd (both_ways false refl h)
asking_queued state.SetAside h = absurd (both_ways false refl h)
asking_queued state.Erased h = absurd (both_ways false refl h)

pub always_rewritten : (s : OpState) → moved s happens.Rewritten ≡ state.Rewritten
always_rewritten state.Unmarked = refl
always_rewritten state.Queued = refl
always_rewritten state.Rewritten = refl
always_rewritten state.SetAside = refl
always_rewritten state.Erased = refl

-- the front entry's operation lives and is queued, or not
read_queued : (b : Bool) (s : OpState) → is_queued (cond b s state.Erased) ≡ true → (b ≡ true) × (s ≡ state.Queued)
read_queued true s h = (refl, queued_state s h)
read_queued false s h = absurd (both_ways false refl h)

pub is_queued_lem : (m : Model) (ks : ℕ → StateEntry) (x : OpId) → is_queued (state_of m ks x) ≡ true → Alive m x × (kept_state ks x ≡ state.Queued)
is_queued_lem m ks x h = read_queued (is_some (find_op m x)) (kept_state ks x) h

pub not_queued : (m : Model) (ks : ℕ → StateEntry) (x : OpId) → is_queued (state_of m ks x) ≡ false → Alive m x → marks_of ks x ≡ queued → ⊥
not_queued m ks x h l q = both_ways _ (sym (ap (λ b. is_queued (cond b (kept_state ks x) state.Erased)) l) ∙ h) (queued_mark (kept_state ks x) q)
