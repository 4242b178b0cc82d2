-- What the rules note of operations agrees with what the law says of their marks.
use Rattle.std.proofs.Common.{◌≡◌, ℕ, ◌⊎◌, List, [], ◌∷◌, ◌++◌, refl, ap, subst, inl, inr}
use Rattle.model.specs.declared.ids.OpId.{OpId}
use Rattle.model.specs.declared.ids.Value.{Value}
use Rattle.model.specs.Model.{Model}
use Rattle.calls.specs.declared.events.RecorderEvent.{RecorderEvent}
use Rattle.calls.specs.declared.events.RecorderEvent.TheVariants as event
use Rattle.law.specs.Machine.{queue_all, Agree, dues}
use Rattle.rules.specs.declared.interface.OpState.TheVariants as state
use Rattle.rules.specs.declared.interface.OpEvent.TheVariants as happens
use Rattle.rules.specs.declared.interface.StateEntry.{StateEntry}
use Rattle.rules_next.specs.Meaning.{Meaning}
use Rattle.rules.specs.Setting.{Env}
use Rattle.rules_next.specs.Setting.{Rewrites, real}
use Rattle.rules.specs.Driver.{model_of, kept_state, marks_of}
use Rattle.rules_next.specs.Driver.{notable, noted, mark_all_erased}
use Rattle.rules_next.specs.Rules.{noted_all}
use Rattle.rules_next.proofs.Reals.{by_calls}
use Rattle.rules.proofs.Marking.{Alive, Known}
use Rattle.rules_next.proofs.Marking.{lives, keeps}
use Rattle.rules.proofs.Noting.{Noter, note_all}
use Rattle.rules.proofs.Noting as noting

pub quiet_erased : (m : Model) (ks : ℕ → StateEntry) (es : List RecorderEvent) (v : Value) (a b : ℕ) → (es ≡ []) ⊎ (es ≡ event.ValueTypeChanged v a b ∷ []) → mark_all_erased m ks es ≡ ks
quiet_erased m ks es v a b (inl q) = ap (mark_all_erased m ks) q
quiet_erased m ks es v a b (inr q) = ap (mark_all_erased m ks) q

module _ {C : Type 0} (M : Meaning C) where
  abbrev pub noter : Noter C
  noter = record { can = M.can_op; Rewrite = Rewrites M; by = by_calls M; notes = notable; lives = lives; keeps = keeps }

  all_same : (m : Model) (ks : ℕ → StateEntry) (os : List OpId) → note_all noter m ks os happens.Queued ≡ noted_all m ks os happens.Queued
  all_same m ks [] = refl
  all_same m ks (o ∷ os) = ap (λ k. noted m k o happens.Queued) (all_same m ks os)

  -- a wait
  module _ (e : Env C) (ks : ℕ → StateEntry) (x : OpId) (lx : Alive (model_of e) x) (qx : kept_state ks x ≡ state.Queued) where
    abbrev D : List OpId
    D = dues (real M) e (marks_of ks) x

    abbrev one : ℕ → StateEntry
    one = noted (model_of e) ks x happens.Taken

    pub wait_agree : Agree (real M) e (marks_of (noted_all (model_of e) one (D ++ x ∷ []) happens.Queued)) (queue_all (real M) (marks_of ks) D)
    wait_agree = subst (λ k. Agree (real M) e (marks_of k) (queue_all (real M) (marks_of ks) D)) (all_same (model_of e) one (D ++ x ∷ [])) (noting.wait_agree noter e ks x lx qx)

    pub wait_known : Known (model_of e) ks → Known (model_of e) (noted_all (model_of e) one (D ++ x ∷ []) happens.Queued)
    wait_known k = subst (Known (model_of e)) (all_same (model_of e) one (D ++ x ∷ [])) (noting.wait_known noter e ks x lx qx k)
