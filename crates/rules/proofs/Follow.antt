-- Each step of the driver is one of the law's.
use Rattle.std.proofs.Common.{◌≡◌, ℕ, ◌<◌, true, false, List, [], ◌∷◌, ◌++◌, length, Some, None, Ok, sym, refl, ap, ◌∙◌, subst, inl, inr, append-nil, arith}
use Rattle.model.specs.declared.ids.OpId.{OpId}
use Rattle.model.specs.declared.ids.IRNode.TheVariants as node
use Rattle.model.specs.Model.{Model}
use Rattle.calls.specs.World as calls
use Rattle.calls.specs.World.{Pick}
use Rattle.calls.specs.Perform.{type_now}
use Rattle.law.specs.Lists.{Follows}
use Rattle.law.specs.Machine.{Mark, queued, rewritten, Moment, rewrote, put, Agree, kept, ask_along, queue_each, mark_all, meet_all, during, asked}
use Rattle.law.specs.Machine as machine
use Rattle.law.proofs.Marks.{cases_op, put_at, put_off, kept_live}
use Rattle.law.proofs.Views.{same_state, step_to}
use Rattle.rules.specs.declared.interface.OpState.TheVariants as state
use Rattle.rules.specs.declared.interface.OpEvent.TheVariants as happens
use Rattle.rules.specs.declared.interface.StateEntry.{StateEntry}
use Rattle.rules.specs.Meaning.{Meaning}
use Rattle.rules.specs.Setting.{Env, real, Good, Rewrites, inserted, ops_among}
use Rattle.rules.specs.Driver.{Pending, World, model_of, kept_state, noted, mark_of, marks_of, chain, linked, argument, shed}
use Rattle.rules.specs.Rules.{Told, Step, finished, valued, answered, retyped_world, stale_world, aside_world, wait_world, rewritten_world, keeps_type, same_type, new_type, stale, sets_aside, waits, rewrites, noted_all, no_pick, with_lists, retype, retyped_env, retyped_batch, ready_moments, rewritten_batch, left_env, RewrotesTo, states_taken, due_definers, first_one, chain_of, operand_types}
use Rattle.rules.specs.View.{view}
use Rattle.rules.proofs.Reals.{laws, rewrite_leads, retype_leads, left_stands}
use Rattle.rules.proofs.Marking.{Alive, Known, known_later, noted_at, noted_off, known_noted, erased_all, known_all, always_rewritten, is_queued_lem, not_queued}
use Rattle.rules.proofs.Batch.{Meets, handled}
use Rattle.rules.proofs.Chain.{chain_ends}
use Rattle.rules.proofs.Noting.{kept_agree, during_agree, aside_agree}
use Rattle.rules.proofs.Agreeing.{quiet_records, quiet_inserted, quiet_erased, noter, wait_agree, wait_known}

module _ {C : Type 0} (M : Meaning C) where
  -- a step of the law, and what is known of the states afterwards
  pub record Followed (w : World C) (ms : List (Moment (real M))) (w' : World C) : Type 0 where
    pub step : machine.Step (real M) (view M w) ms (view M w')
    pub known : Known (model_of w'.env) w'.memory.states

  to : (w v w' : World C) (t u : Told M) → u ≡ t → w' ≡ v → Followed w t.moments v → Followed w u.moments w'
  to w v w' t u e d h = subst (λ z. Followed w u.moments z) (sym d) (subst (λ (z : Told M). Followed w z.moments v) (sym e) h)

  -- the batch after a change of a type
  pub retype_meets : (w : World C) (p : Pending) (n u : ℕ) → Good w.env → Known (model_of w.env) w.memory.states → (retyped_batch M w p n u).fault ≡ None
      → Meets M (retyped_env M w p n u) w.room None (kept (real M) w.env (marks_of w.memory.states)) [] (record { memory = w.memory; queued = w.counts.queued; moments = [] }) (retyped_batch M w p n u).load
  retype_meets w p n u ok k h =
      let e = retyped_env M w p n u in
      let es = (retype M w p u).world.records in
      let ks = w.memory.states in
      let a = type_now (model_of w.env) (argument p) in
      let q = quiet_records w.env.world (argument p) u no_pick ok.clear in
      let later = (retype_leads w.env e ok (inr (record { value = argument p; type = u; pick = no_pick; leaves = refl }))).later in
      let same = quiet_erased (model_of e) ks es (argument p) a u q in
      subst (λ os. Meets M e w.room None (kept (real M) w.env (marks_of ks)) os (record { memory = w.memory; queued = w.counts.queued; moments = [] }) (retyped_batch M w p n u).load)
      (ap ops_among (quiet_inserted es (argument p) a u q))
      (handled M e w.room None es (kept (real M) w.env (marks_of ks)) (record { memory = w.memory; queued = w.counts.queued; moments = [] })
      (subst (λ z. Agree (real M) e (marks_of z) (kept (real M) w.env (marks_of ks))) (sym same) (kept_agree (noter M) w.env e ks k later))
      (subst (Known (model_of e)) (sym same) (known_later (model_of w.env) (model_of e) ks later k)) h)

  -- the rewrite of the front entry's operation, as the law has it
  abbrev pub as_rewrite : (w : World C) (x : OpId) (ks : List Pick) (c : C) (v : calls.World) → RewrotesTo M w x ks c v (Ok tt) → Rewrites M w.env x (left_env M c v) (ops_among (inserted v.records))
  as_rewrite w x ks c v r = record { histories = operand_types M w x; picks = ks; left = v; rewrote = r; out = refl; inserts = refl }

  -- and its batch
  pub rewrite_meets : (w : World C) (x : OpId) (rest : List OpId) (ks : List Pick) (c : C) (v : calls.World) → Good w.env → Known (model_of w.env) w.memory.states
      → Alive (model_of w.env) x → kept_state w.memory.states x ≡ state.Queued → RewrotesTo M w x ks c v (Ok tt) → (rewritten_batch M w x rest c v).fault ≡ None
      → Meets M (left_env M c v) w.room (Some x) (during (real M) w.env (marks_of w.memory.states) x) (ops_among (inserted v.records))
      (record { memory = with_lists w.memory rest (states_taken M w x); queued = w.counts.queued; moments = [] }) (rewritten_batch M w x rest c v).load
  rewrite_meets w x rest ks c v ok k lx qx r h =
      let e = left_env M c v in
      let is = ops_among (inserted v.records) in
      let R = as_rewrite w x ks c v r in
      let m = model_of w.env in
      let later = (rewrite_leads M w.env x e is ok R).later in
      let stands = left_stands M w.env x e is ok R in
      let one = states_taken M w x in
      handled M e w.room (Some x) v.records (during (real M) w.env (marks_of w.memory.states) x) (record { memory = with_lists w.memory rest one; queued = w.counts.queued; moments = [] })
      (λ y l. ap mark_of (erased_all v.model one v.records stands y l) ∙ during_agree (noter M) w.env e w.memory.states x lx qx k later y l)
      (known_all v.model one v.records stands (known_later m v.model one later (known_noted m w.memory.states x happens.Taken (inl lx) k))) h

  rewritten_agree : (e : Env C) (ks : ℕ → StateEntry) (x : OpId) (st : OpId → Mark) → Agree (real M) e (marks_of ks) st → Agree (real M) e (marks_of (noted (model_of e) ks x happens.Rewritten)) (put (real M) st x rewritten)
  rewritten_agree e ks x st a y l = elim (cases_op (real M) (laws M) x y) [
    | inl q ↦ subst (λ z. Alive (model_of e) z → marks_of (noted (model_of e) ks x happens.Rewritten) z ≡ rewritten) q (λ lx. ap mark_of (noted_at (model_of e) ks x happens.Rewritten lx ∙ always_rewritten (kept_state ks x))) l
        ∙ sym (put_at (real M) (laws M) st x rewritten y q)
    | inr ne ↦ ap mark_of (noted_off (model_of e) ks x happens.Rewritten y l ne) ∙ a y l ∙ sym (put_off (real M) (laws M) st x rewritten y ne)
  ]

  module _ (w : World C) (ok : Good w.env) (k : Known (model_of w.env) w.memory.states) (tidy : shed (model_of w.env) w.memory.pending ≡ w.memory.pending) where
    abbrev m : Model
    m = model_of w.env

    abbrev ks : ℕ → StateEntry
    ks = w.memory.states

    some_pending : (p : Pending) (rest : List Pending) → w.memory.pending ≡ p ∷ rest → 0 < (view M w).pending
    some_pending p rest e = omega (arith, ap length (tidy ∙ e))

    none_pending : w.memory.pending ≡ [] → (view M w).pending ≡ 0
    none_pending e = ap (λ ps. length (shed m ps)) e

    same_agree : (d : Env C) → d.world ≡ w.env.world → Agree (real M) d (marks_of ks) (kept (real M) w.env (marks_of ks))
    same_agree d q y l = sym (kept_live (real M) (laws M) w.env (marks_of ks) y (subst (λ (z : calls.World). Alive z.model y) q l))

    pub follow : (t : Told M) (w' : World C) → Step M w t w' → Followed w t.moments w'
    follow t w' (keeps_type p rest n a c tq wq) = to w (finished M w w.env p rest) w' _ t tq wq (record {
      step = machine.retype w.env (marks_of ks) _ (some_pending p rest a.pending) (inl refl) (same_agree w.env refl);
      known = k;
    })
    follow t w' (same_type p rest n u a c r s tq wq) = to w (finished M w (valued M w.env (answered M w n).next) p rest) w' _ t tq wq (record {
      step = machine.retype (valued M w.env (answered M w n).next) (marks_of ks) _ (some_pending p rest a.pending) (inl refl) (same_agree (valued M w.env (answered M w n).next) refl);
      known = k;
    })
    follow t w' (new_type p rest n u a c r s d f tq wq) =
        let ms = retype_meets w p n u ok k f in
        to w (retyped_world M w.phase w p n u) w' _ t tq wq (record {
          step = subst (λ z. machine.Step (real M) (view M w) z (view M (retyped_world M w.phase w p n u))) (sym ms.moments)
              (step_to (real M) (view M w) [] _ (view M (retyped_world M w.phase w p n u))
              (machine.retype (retyped_env M w p n u) (marks_of (retyped_batch M w p n u).load.memory.states) _ (some_pending p rest a.pending)
              (inr (record { value = argument p; type = u; pick = no_pick; leaves = refl })) ms.marks)
              (same_state (real M) _ (view M (retyped_world M w.phase w p n u)) refl (sym (ms.worklist ∙ append-nil w.memory.worklist)) refl refl refl refl refl));
          known = ms.known;
        })
    follow t w' (stale x rest a q tq wq) = to w (stale_world M w rest) w' _ t tq wq (record {
      step = step_to (real M) (view M w) [] _ (view M (stale_world M w rest)) (machine.stale x rest (marks_of ks) (none_pending a.calm) a.front (not_queued m ks x q) (λ y l. refl))
          (same_state (real M) _ (view M (stale_world M w rest)) refl refl refl (sym (none_pending a.calm)) refl refl refl);
      known = k;
    })
    follow t w' (sets_aside x rest a q c tq wq) =
        let lx = is_queued_lem m ks x q in
        to w (aside_world M w x rest) w' _ t tq wq (record {
          step = step_to (real M) (view M w) (asked x false ∷ []) _ (view M (aside_world M w x rest))
              (machine.sets_aside x rest (marks_of (noted m (states_taken M w x) x happens.SetAside)) (none_pending a.calm) a.front lx.0 (ap mark_of lx.1) c (aside_agree (noter M) w.env ks x lx.0 lx.1))
              (same_state (real M) _ (view M (aside_world M w x rest)) refl refl refl (sym (none_pending a.calm)) refl refl refl);
          known = known_noted m (states_taken M w x) x happens.SetAside (inl lx.0) (known_noted m ks x happens.Taken (inl lx.0) k);
        })
    follow t w' (waits x d rest a q c f b room tq wq) =
        let lx = is_queued_lem m ks x q in
        let is : chain_of M w x ≡ d ∷ chain (first_one M w) 511 d = ap (λ z. linked z (chain (first_one M w) 511)) f in
        let D = due_definers M w x in
        to w (wait_world M w x rest) w' _ t tq wq (record {
          step = subst (λ z. machine.Step (real M) (view M w) (asked x true ∷ ask_along (real M) w.env (marks_of ks) (x ∷ z) ++ queue_each (real M) (D ++ x ∷ [])) (view M (wait_world M w x rest))) (sym is)
              (step_to (real M) (view M w) (asked x true ∷ ask_along (real M) w.env (marks_of ks) (x ∷ d ∷ chain (first_one M w) 511 d) ++ queue_each (real M) (D ++ x ∷ [])) _ (view M (wait_world M w x rest))
              (machine.wait x d rest (chain (first_one M w) 511 d) (marks_of (noted_all m (states_taken M w x) (D ++ x ∷ []) happens.Queued)) (none_pending a.calm) a.front lx.0 (ap mark_of lx.1) c
              (subst (Follows (first_one M w) x) is (chain_ends (first_one M w) 512 x b)) (wait_agree M w.env ks x lx.0 lx.1))
              (same_state (real M) _ (view M (wait_world M w x rest)) refl refl refl (sym (none_pending a.calm)) refl refl refl));
          known = wait_known M w.env ks x lx.0 lx.1 k;
        })
    follow t w' (rewrites x rest us c v a q cv f r h tq wq) =
        let lx = is_queued_lem m ks x q in
        let e = left_env M c v in
        let l = (rewritten_batch M w x rest c v).load in
        let is = ops_among (inserted v.records) in
        let ms = rewrite_meets w x rest us c v ok k lx.0 lx.1 r h in
        let R = as_rewrite w x us c v r in
        let B = during (real M) w.env (marks_of ks) x in
        to w (rewritten_world M w x rest c v) w' _ t tq wq (record {
          step = subst (λ z. machine.Step (real M) (view M w) (ready_moments M w x ++ rewrote x ∷ z) (view M (rewritten_world M w x rest c v))) (sym ms.moments)
              (step_to (real M) (view M w) (ready_moments M w x ++ rewrote x ∷ meet_all (real M) e B is) _ (view M (rewritten_world M w x rest c v))
              (machine.rewrite x rest is e (marks_of (noted v.model l.memory.states x happens.Rewritten)) _ (none_pending a.calm) a.front lx.0 (ap mark_of lx.1) cv f R
              (rewritten_agree e l.memory.states x (mark_all (real M) e B is) ms.marks))
              (same_state (real M) _ (view M (rewritten_world M w x rest c v)) refl (sym ms.worklist) refl refl refl refl refl));
          known = known_noted v.model l.memory.states x happens.Rewritten ((rewrite_leads M w.env x e is ok R).later.once (node.Operation x) lx.0) ms.known;
        })
