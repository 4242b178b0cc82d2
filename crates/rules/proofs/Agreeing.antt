-- What the rules note of operations agrees with what the law says of their marks.
use Rattle.std.proofs.Common.{◌≡◌, ℕ, Bool, true, false, cond, eqb, ◌⊎◌, List, [], ◌∷◌, ◌++◌, Some, None, Option, refl, ap, ◌∙◌, subst, inl, inr, append-nil}
use Rattle.model.specs.declared.ids.OpId.{OpId}
use Rattle.model.specs.declared.ids.Value.{Value}
use Rattle.model.specs.declared.refusal.Refusal.{Refusal}
use Rattle.model.specs.Model.{Model}
use Rattle.calls.specs.declared.events.RecorderEvent.{RecorderEvent}
use Rattle.calls.specs.declared.events.RecorderEvent.TheVariants as event
use Rattle.calls.specs.World as calls
use Rattle.calls.specs.World.{Pick, set_type}
use Rattle.calls.specs.Perform.{perform, settle, type_now}
use Rattle.calls.specs.After.{answer}
use Rattle.law.specs.Machine.{queue_all, Agree, dues}
use Rattle.rules.specs.declared.interface.OpState.TheVariants as state
use Rattle.rules.specs.declared.interface.OpEvent.TheVariants as happens
use Rattle.rules.specs.declared.interface.StateEntry.{StateEntry}
use Rattle.rules.specs.Meaning.{Meaning}
use Rattle.rules.specs.Setting.{Env, Rewrites, real, inserted}
use Rattle.rules.specs.Driver.{notable, model_of, kept_state, noted, marks_of, mark_all_erased}
use Rattle.rules.specs.Rules.{noted_all}
use Rattle.rules.proofs.Reals.{by_calls}
use Rattle.rules.proofs.Marking.{Alive, Known, lives, keeps}
use Rattle.rules.proofs.Noting.{Noter, note_all}
use Rattle.rules.proofs.Noting as noting

-- a call that gives a value a type makes one record at most
pub quiet_records : (w : calls.World) (v : Value) (t : ℕ) (k : Pick) → w.records ≡ []
    → ((perform true w (set_type v t) k).world.records ≡ []) ⊎ ((perform true w (set_type v t) k).world.records ≡ event.ValueTypeChanged v (type_now w.model v) t ∷ [])
quiet_records w v t k c = at (answer true w (set_type v t) k)
  where
    go : (b : Bool) → (w.records ++ cond b [] (event.ValueTypeChanged v (type_now w.model v) t ∷ []) ≡ []) ⊎ (w.records ++ cond b [] (event.ValueTypeChanged v (type_now w.model v) t ∷ []) ≡ event.ValueTypeChanged v (type_now w.model v) t ∷ [])
    go true = inl (append-nil w.records ∙ c)
    go false = inr (ap (λ rs. rs ++ event.ValueTypeChanged v (type_now w.model v) t ∷ []) c)

    at : (q : Option Refusal) → ((settle true w (set_type v t) k q).world.records ≡ []) ⊎ ((settle true w (set_type v t) k q).world.records ≡ event.ValueTypeChanged v (type_now w.model v) t ∷ [])
    at (Some e) = inl c
    at None = go (eqb (type_now w.model v) t)

pub quiet_inserted : (es : List RecorderEvent) (v : Value) (a b : ℕ) → (es ≡ []) ⊎ (es ≡ event.ValueTypeChanged v a b ∷ []) → inserted es ≡ []
quiet_inserted es v a b (inl q) = ap inserted q
quiet_inserted es v a b (inr q) = ap inserted q

pub quiet_erased : (m : Model) (ks : ℕ → StateEntry) (es : List RecorderEvent) (v : Value) (a b : ℕ) → (es ≡ []) ⊎ (es ≡ event.ValueTypeChanged v a b ∷ []) → mark_all_erased m ks es ≡ ks
quiet_erased m ks es v a b (inl q) = ap (mark_all_erased m ks) q
quiet_erased m ks es v a b (inr q) = ap (mark_all_erased m ks) q

module _ {C : Type 0} (M : Meaning C) where
  abbrev pub noter : Noter C
  noter = record { can = M.can_op; Rewrite = Rewrites M; by = by_calls M; notes = notable; lives = lives; keeps = keeps }

  all_same : (m : Model) (ks : ℕ → StateEntry) (os : List OpId) → note_all noter m ks os happens.Queued ≡ noted_all m ks os happens.Queued
  all_same m ks [] = refl
  all_same m ks (o ∷ os) = ap (λ k. noted m k o happens.Queued) (all_same m ks os)

  -- a wait
  module _ (e : Env C) (ks : ℕ → StateEntry) (x : OpId) (lx : Alive (model_of e) x) (qx : kept_state ks x ≡ state.Queued) where
    abbrev D : List OpId
    D = dues (real M) e (marks_of ks) x

    abbrev one : ℕ → StateEntry
    one = noted (model_of e) ks x happens.Taken

    pub wait_agree : Agree (real M) e (marks_of (noted_all (model_of e) one (D ++ x ∷ []) happens.Queued)) (queue_all (real M) (marks_of ks) D)
    wait_agree = subst (λ k. Agree (real M) e (marks_of k) (queue_all (real M) (marks_of ks) D)) (all_same (model_of e) one (D ++ x ∷ [])) (noting.wait_agree noter e ks x lx qx)

    pub wait_known : Known (model_of e) ks → Known (model_of e) (noted_all (model_of e) one (D ++ x ∷ []) happens.Queued)
    wait_known k = subst (Known (model_of e)) (all_same (model_of e) one (D ++ x ∷ [])) (noting.wait_known noter e ks x lx qx k)
