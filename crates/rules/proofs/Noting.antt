-- What is noted of operations agrees with what the law says of their marks, whichever edition of the rules notes it.
use Rattle.std.proofs.Common.{◌≡◌, ℕ, Bool, true, cond, ◌⊎◌, List, [], ◌∷◌, ◌++◌, is_some, sym, refl, ap, ◌∙◌, subst, inl, inr}
use Rattle.std.proofs.lemmas.Bool.{cases_Bool, both_ways}
use Rattle.model.specs.declared.ids.OpId.{OpId}
use Rattle.model.specs.declared.ids.IRNode.TheVariants as node
use Rattle.model.specs.Model.{Model, find_op}
use Rattle.model.specs.Model as model
use Rattle.model.specs.Later.{Later}
use Rattle.model.proofs.Past.{past_not_node}
use Rattle.law.specs.Setting.{Setting}
use Rattle.law.specs.Laws.{Laws}
use Rattle.law.specs.Lists.{In}
use Rattle.law.specs.Machine.{unmarked, queued, aside, asking, put, queue_all, Agree, kept, dues, during}
use Rattle.law.proofs.Lists.{in_cases, in_left, in_right}
use Rattle.law.proofs.Marks.{cases_op, op_dec, put_at, put_off, queue_in, queue_out, kept_live, kept_dead, in_dues}
use Rattle.rules.specs.declared.interface.OpState.TheVariants as state
use Rattle.rules.specs.declared.interface.OpEvent.{OpEvent}
use Rattle.rules.specs.declared.interface.OpEvent.TheVariants as happens
use Rattle.rules.specs.declared.interface.StateEntry.{StateEntry}
use Rattle.rules.specs.States.{moved}
use Rattle.rules.specs.Setting.{Env}
use Rattle.rules.specs.Driver.{model_of, kept_state, mark_of, marks_of}
use Rattle.rules.proofs.Reals.{ByCalls, store_setting, store_laws}
use Rattle.rules.proofs.Marking.{Alive, Given, Known, if_noted_at, if_noted_off, if_known_noted, asking_queued}

-- What an edition of the rules rewrites by, and of which operations it notes an event: of each that lives, and else only where its slot still keeps its state.
pub record Noter (C : Type 0) : Type 1 where
  pub can : C → Model → OpId → Bool
  pub Rewrite : Env C → OpId → Env C → List OpId → Type 0
  pub by : (e : Env C) (x : OpId) (d : Env C) (is : List OpId) → Rewrite e x d is → ByCalls e x d is
  pub notes : Model → (ℕ → StateEntry) → OpId → Bool
  pub lives : (m : Model) (ks : ℕ → StateEntry) (o : OpId) → Alive m o → notes m ks o ≡ true
  pub keeps : (m : Model) (ks : ℕ → StateEntry) (o : OpId) → notes m ks o ≡ true → Alive m o ⊎ ((ks o.slot).generation ≡ o.generation)

module _ {C : Type 0} (G : Noter C) where
  abbrev S : Setting
  S = store_setting G.can G.Rewrite

  L : Laws S
  L = store_laws G.can G.Rewrite G.by

  abbrev note : Model → (ℕ → StateEntry) → OpId → OpEvent → ℕ → StateEntry
  note m ks o e = cond (G.notes m ks o) (model.put ks o.slot (record { generation = o.generation; state = moved (kept_state ks o) e })) ks

  abbrev pub note_all : Model → (ℕ → StateEntry) → List OpId → OpEvent → ℕ → StateEntry
  note_all m ks [] e = ks
  note_all m ks (o ∷ os) e = note m (note_all m ks os e) o e

  note_at : (m : Model) (ks : ℕ → StateEntry) (o : OpId) (e : OpEvent) → Alive m o → kept_state (note m ks o e) o ≡ moved (kept_state ks o) e
  note_at m ks o e = if_noted_at m ks o e (G.notes m ks o) (G.lives m ks o) (G.keeps m ks o)

  note_off : (m : Model) (ks : ℕ → StateEntry) (o : OpId) (e : OpEvent) (y : OpId) → Alive m y → (o ≡ y → ⊥) → kept_state (note m ks o e) y ≡ kept_state ks y
  note_off m ks o e = if_noted_off m ks o e (G.notes m ks o) (G.lives m ks o) (G.keeps m ks o)

  known_note : (m : Model) (ks : ℕ → StateEntry) (o : OpId) (e : OpEvent) → Given m o → Known m ks → Known m (note m ks o e)
  known_note m ks o e = if_known_noted m ks o e (G.notes m ks o) (G.lives m ks o) (G.keeps m ks o)

  -- what is kept of an operation, as the law reads it after a change of the store
  pub kept_agree : (e d : Env C) (ks : ℕ → StateEntry) → Known (model_of e) ks → Later (model_of e) (model_of d) → Agree S d (marks_of ks) (kept S e (marks_of ks))
  kept_agree e d ks n later y l = elim (cases_Bool (is_some (find_op (model_of e) y))) [
    | inl h ↦ sym (kept_live S L e (marks_of ks) y h)
    | inr h ↦ elim (n y) [
      | inl g ↦ elim g [
        | inl k ↦ absurd (both_ways _ h k)
        | inr k ↦ absurd (both_ways _ (past_not_node (model_of d) (node.Operation y) (later.gone (node.Operation y) k)) l)
      ]
      | inr u ↦ ap mark_of u ∙ sym (kept_dead S L e (marks_of ks) y h)
    ]
  ]

  -- the same while x, the front entry's operation, is rewritten
  pub during_agree : (e d : Env C) (ks : ℕ → StateEntry) (x : OpId) → Alive (model_of e) x → kept_state ks x ≡ state.Queued → Known (model_of e) ks → Later (model_of e) (model_of d)
      → Agree S d (marks_of (note (model_of e) ks x happens.Taken)) (during S e (marks_of ks) x)
  during_agree e d ks x lx qx n later y l = elim (cases_op S L x y) [
    | inl q ↦ subst (λ z. marks_of (note (model_of e) ks x happens.Taken) z ≡ unmarked) q (ap mark_of (note_at (model_of e) ks x happens.Taken lx ∙ ap (λ s. moved s happens.Taken) qx))
        ∙ sym (put_at S L (kept S e (marks_of ks)) x unmarked y q)
    | inr ne ↦ elim (cases_Bool (is_some (find_op (model_of e) y))) [
      | inl h ↦ ap mark_of (note_off (model_of e) ks x happens.Taken y h ne) ∙ sym (kept_live S L e (marks_of ks) y h)
      | inr h ↦ elim (known_note (model_of e) ks x happens.Taken (inl lx) n y) [
        | inl g ↦ elim g [
          | inl k ↦ absurd (both_ways _ h k)
          | inr k ↦ absurd (both_ways _ (past_not_node (model_of d) (node.Operation y) (later.gone (node.Operation y) k)) l)
        ]
        | inr u ↦ ap mark_of u ∙ sym (kept_dead S L e (marks_of ks) y h)
      ]
    ] ∙ sym (put_off S L (kept S e (marks_of ks)) x unmarked y ne)
  ]

  -- one that is set aside
  pub aside_agree : (e : Env C) (ks : ℕ → StateEntry) (x : OpId) → Alive (model_of e) x → kept_state ks x ≡ state.Queued
      → Agree S e (marks_of (note (model_of e) (note (model_of e) ks x happens.Taken) x happens.SetAside)) (put S (marks_of ks) x aside)
  aside_agree e ks x lx qx y l =
      let m = model_of e in
      let one = note m ks x happens.Taken in
      elim (cases_op S L x y) [
        | inl q ↦ subst (λ z. marks_of (note m one x happens.SetAside) z ≡ aside) q
            (ap mark_of (note_at m one x happens.SetAside lx ∙ ap (λ s. moved s happens.SetAside) (note_at m ks x happens.Taken lx ∙ ap (λ s. moved s happens.Taken) qx)))
            ∙ sym (put_at S L (marks_of ks) x aside y q)
        | inr ne ↦ ap mark_of (note_off m one x happens.SetAside y l ne ∙ note_off m ks x happens.Taken y l ne) ∙ sym (put_off S L (marks_of ks) x aside y ne)
      ]

  -- many that are queued
  queue_agree : (e : Env C) (ks : ℕ → StateEntry) (os : List OpId) → ((o : OpId) → In o os → Alive (model_of e) o × (asking (marks_of ks o) ≡ true))
      → Agree S e (marks_of (note_all (model_of e) ks os happens.Queued)) (queue_all S (marks_of ks) os)
  queue_agree e ks [] h y l = refl
  queue_agree e ks (o ∷ os) h y l =
      let m = model_of e in
      let before = note_all m ks os happens.Queued in
      let rest = queue_agree e ks os (λ p i. h p (inr i)) in
      let lo = (h o (inl refl)).0 in
      elim (cases_op S L o y) [
        | inl q ↦
            let asks : asking (marks_of before o) ≡ true = ap asking (rest o lo) ∙ elim (op_dec S L o os) [
              | inl i ↦ ap asking (queue_in S L (marks_of ks) os o i)
              | inr ni ↦ ap asking (queue_out S L (marks_of ks) os o ni) ∙ (h o (inl refl)).1
            ] in
            subst (λ z. marks_of (note m before o happens.Queued) z ≡ queued) q (ap mark_of (note_at m before o happens.Queued lo ∙ asking_queued (kept_state before o) asks))
            ∙ sym (put_at S L (queue_all S (marks_of ks) os) o queued y q)
        | inr ne ↦ ap mark_of (note_off m before o happens.Queued y l ne) ∙ rest y l ∙ sym (put_off S L (queue_all S (marks_of ks) os) o queued y ne)
      ]

  known_queued : (e : Env C) (ks : ℕ → StateEntry) (os : List OpId) → ((o : OpId) → In o os → Alive (model_of e) o) → Known (model_of e) ks → Known (model_of e) (note_all (model_of e) ks os happens.Queued)
  known_queued e ks [] h k = k
  known_queued e ks (o ∷ os) h k = known_note (model_of e) (note_all (model_of e) ks os happens.Queued) o happens.Queued (inl (h o (inl refl))) (known_queued e ks os (λ p i. h p (inr i)) k)

  -- a wait
  module _ (e : Env C) (ks : ℕ → StateEntry) (x : OpId) (lx : Alive (model_of e) x) (qx : kept_state ks x ≡ state.Queued) where
    abbrev D : List OpId
    D = dues S e (marks_of ks) x

    abbrev one : ℕ → StateEntry
    one = note (model_of e) ks x happens.Taken

    taken_mark : marks_of one x ≡ unmarked
    taken_mark = ap mark_of (note_at (model_of e) ks x happens.Taken lx ∙ ap (λ s. moved s happens.Taken) qx)

    all_live : (o : OpId) → In o (D ++ x ∷ []) → Alive (model_of e) o
    all_live o i = elim (in_cases o D (x ∷ []) i) [
      | inl j ↦ (in_dues S L e (marks_of ks) x o j).1
      | inr j ↦ elim j [ inl q ↦ ap (λ z. is_some (find_op (model_of e) z)) q ∙ lx | inr k ↦ absurd k ]
    ]

    all_asked : (o : OpId) → In o (D ++ x ∷ []) → asking (marks_of one o) ≡ true
    all_asked o i = elim (cases_op S L x o) [
      | inl q ↦ subst (λ z. asking (marks_of one z) ≡ true) q (ap asking taken_mark)
      | inr ne ↦ ap asking (ap mark_of (note_off (model_of e) ks x happens.Taken o (all_live o i) ne)) ∙ elim (in_cases o D (x ∷ []) i) [
        | inl j ↦ (in_dues S L e (marks_of ks) x o j).2
        | inr j ↦ elim j [ inl q ↦ absurd (ne (sym q)) | inr k ↦ absurd k ]
      ]
    ]

    pub wait_agree : Agree S e (marks_of (note_all (model_of e) one (D ++ x ∷ []) happens.Queued)) (queue_all S (marks_of ks) D)
    wait_agree y l = queue_agree e one (D ++ x ∷ []) (λ o i. (all_live o i, all_asked o i)) y l ∙ elim (op_dec S L y (D ++ x ∷ [])) [
      | inl i ↦ queue_in S L (marks_of one) (D ++ x ∷ []) y i ∙ sym (elim (op_dec S L y D) [
        | inl j ↦ queue_in S L (marks_of ks) D y j
        | inr nj ↦ queue_out S L (marks_of ks) D y nj ∙ elim (in_cases y D (x ∷ []) i) [
          | inl j ↦ absurd (nj j)
          | inr j ↦ elim j [ inl q ↦ ap (marks_of ks) q ∙ ap mark_of qx | inr k ↦ absurd k ]
        ]
      ])
      | inr ni ↦
          let nx : x ≡ y → ⊥ = λ q. ni (in_right y D (x ∷ []) (inl (sym q))) in
          queue_out S L (marks_of one) (D ++ x ∷ []) y ni ∙ ap mark_of (note_off (model_of e) ks x happens.Taken y l nx) ∙ sym (queue_out S L (marks_of ks) D y (λ j. ni (in_left y D (x ∷ []) j)))
    ]

    pub wait_known : Known (model_of e) ks → Known (model_of e) (note_all (model_of e) one (D ++ x ∷ []) happens.Queued)
    wait_known k = known_queued e one (D ++ x ∷ []) all_live (known_note (model_of e) ks x happens.Taken (inl lx) k)
