-- The driver counts the different operations that were ever queued.
use Rattle.std.proofs.Common.{◌≡◌, ℕ, true, false, cond, List, [], ◌∷◌, ◌++◌, length, Some, None, Ok, sym, refl, ap, ◌∙◌, subst, inl, inr, arith}
use Rattle.std.proofs.lemmas.Bool.{cases_Bool, cond-true, cond-false}
use Rattle.model.specs.declared.ids.OpId.{OpId}
use Rattle.calls.specs.World as calls
use Rattle.calls.specs.World.{Pick}
use Rattle.calls.specs.Perform.{type_now}
use Rattle.law.specs.Lists.{add_all}
use Rattle.law.specs.Machine.{Mark, unmarked, queued, is_unmarked, Moment, put, kept, ask_along, newly, mark_new, lay_all, fresh, during, Reached}
use Rattle.law.specs.Machine as machine
use Rattle.law.specs.Law.{ever_of, queue_of, queues_of}
use Rattle.law.proofs.Marks.{un_q, is_unmarked_lem, cases_op, put_at, put_off, kept_live, newly_parts}
use Rattle.law.proofs.Moments.{each_two, each_ask_all, each_ask_along, ever_append, wait_queues}
use Rattle.law.proofs.Once.{good, marked}
use Rattle.law.proofs.Views.{count_wait, count_rewritten}
use Rattle.rules_next.specs.declared.interface.Failure.{Failure}
use Rattle.rules_next.specs.Meaning.{Meaning}
use Rattle.rules.specs.Setting.{Env, Good, same_op, definers_in, inserted, ops_among}
use Rattle.rules_next.specs.Setting.{real}
use Rattle.rules.specs.Driver.{Pending, model_of, mark_of, marks_of, argument}
use Rattle.rules_next.specs.Driver.{World}
use Rattle.rules.specs.Rules.{no_pick}
use Rattle.rules_next.specs.Rules.{Told, Step, keeps_type, same_type, new_type, stale, sets_aside, waits, rewrites, Fails, type_fault, type_batch, circle, no_room, rewrite_fault, rewrite_batch, retype, retyped_env, retyped_batch, state_in, ready_moments, RewrotesTo, rewritten_batch, rewrite_moments, left_env, due_definers, chain_of}
use Rattle.rules_next.specs.View.{view}
use Rattle.rules.proofs.Reals.{same_self}
use Rattle.rules_next.proofs.Reals.{laws}
use Rattle.rules.proofs.Marking.{Known, is_queued_lem}
use Rattle.rules.proofs.Batch.{new_ones}
use Rattle.rules_next.proofs.Batch.{quiet_batch}
use Rattle.rules.proofs.Agreeing.{quiet_records, quiet_inserted}
use Rattle.rules_next.proofs.Follow.{rewrite_lays, as_rewrite}
use Rattle.rules.proofs.Counting.{other_op}

module _ {C : Type 0} (M : Meaning C) where
  -- of what a batch lays, all get their first mark but x, which had one
  laid_fresh : (e : Env C) (x : OpId) (is : List OpId) (st kt : OpId → Mark) → ((y : OpId) → (x ≡ y → ⊥) → st y ≡ kt y) → (kt x ≡ unmarked → ⊥)
      → fresh (real M) kt (lay_all (real M) e st is) ≡ new_ones (Some x) (lay_all (real M) e st is)
  laid_fresh e x [] st kt a n = refl
  laid_fresh e x (y ∷ ys) st kt a n = elim (cases_Bool (newly (real M) e st y)) [
    | inr h ↦
        let lay : lay_all (real M) e st (y ∷ ys) ≡ lay_all (real M) e st ys =
        ap (λ z. z ++ lay_all (real M) e (mark_new (real M) e st y) ys) (cond-false (newly (real M) e st y) (y ∷ []) [] h) ∙ ap (λ f. lay_all (real M) e f ys) (cond-false (newly (real M) e st y) (put (real M) st y queued) st h) in
        ap (fresh (real M) kt) lay ∙ laid_fresh e x ys st kt a n ∙ ap (new_ones (Some x)) (sym lay)
    | inl h ↦
        let st' = put (real M) st y queued in
        let kt' = put (real M) kt y queued in
        let lay : lay_all (real M) e st (y ∷ ys) ≡ y ∷ lay_all (real M) e st' ys =
        ap (λ z. z ++ lay_all (real M) e (mark_new (real M) e st y) ys) (cond-true (newly (real M) e st y) (y ∷ []) [] h) ∙ ap (λ f. y ∷ lay_all (real M) e f ys) (cond-true (newly (real M) e st y) (put (real M) st y queued) st h) in
        let u = (newly_parts (real M) (laws M) e st y h).1 in
        let one : ◌≡◌ {A = ℕ} (cond (is_unmarked (kt y)) 1 0) (cond (same_op x y) 0 1) = elim (cases_op (real M) (laws M) x y) [
          | inl q ↦ cond-false (is_unmarked (kt y)) 1 0 (elim (cases_Bool (is_unmarked (kt y))) [ inl z ↦ absurd (n (ap kt q ∙ is_unmarked_lem (kt y) z)) | inr z ↦ z ]) ∙ sym (cond-true (same_op x y) 0 1 (subst (λ z. same_op x z ≡ true) q (same_self x)))
          | inr ne ↦ cond-true (is_unmarked (kt y)) 1 0 (ap is_unmarked (sym (a y ne) ∙ u)) ∙ sym (cond-false (same_op x y) 0 1 (other_op x y ne))
        ] in
        let rest = laid_fresh e x ys st' kt'
        (λ z ne. elim (cases_op (real M) (laws M) y z) [
          | inl q ↦ put_at (real M) (laws M) st y queued z q ∙ sym (put_at (real M) (laws M) kt y queued z q)
          | inr d ↦ put_off (real M) (laws M) st y queued z d ∙ a z ne ∙ sym (put_off (real M) (laws M) kt y queued z d)
        ])
        (λ z. elim (cases_op (real M) (laws M) y x) [
          | inl q ↦ un_q _ z (put_at (real M) (laws M) kt y queued x q)
          | inr d ↦ n (sym (put_off (real M) (laws M) kt y queued x d) ∙ z)
        ]) in
        ap (fresh (real M) kt) lay ∙ omega (arith, one, rest) ∙ ap (new_ones (Some x)) (sym lay)
  ]

  -- nothing is queued
  still : (ms ns : List (Moment (real M))) → queues_of {S = real M} ns ≡ [] → length (ever_of {S = real M} (ms ++ ns)) ≡ length (ever_of {S = real M} ms)
  still ms ns q = ap length (ever_append (real M) ms ns ∙ ap (add_all same_op (ever_of {S = real M} ms)) q)

  -- what is counted after a batch is the number of those ever queued, however the batch ends
  retype_counted : (ms : List (Moment (real M))) (w : World C) (p : Pending) (i u : ℕ) → Good w.env → w.counts.queued ≡ length (ever_of {S = real M} ms)
      → (retyped_batch M w p i u).load.queued ≡ length (ever_of {S = real M} (ms ++ (retyped_batch M w p i u).load.moments))
  retype_counted ms w p i u ok n =
      let es = (retype M w p u).world.records in
      let quiet = quiet_inserted es (argument p) (type_now (model_of w.env) (argument p)) u (quiet_records w.env.world (argument p) u no_pick ok.clear) in
      let z = quiet_batch M (retyped_env M w p i u) w.room None es (record { memory = w.memory; queued = w.counts.queued; moments = [] }) quiet in
      z.0 ∙ n ∙ sym (still ms (retyped_batch M w p i u).load.moments (ap (λ a. queues_of {S = real M} a) z.1))

  rewrite_counted : (ms : List (Moment (real M))) (w : World C) → Reached (real M) ms (view M w) → Known (model_of w.env) w.memory.states → w.counts.queued ≡ length (ever_of {S = real M} ms)
      → (x : OpId) (rest : List OpId) (us : List Pick) (c : C) (v : calls.World) → state_in M w x ≡ true → RewrotesTo M w x us c v (Ok tt)
      → (rewritten_batch M w x rest c v).load.queued ≡ length (ever_of {S = real M} (ms ++ rewrite_moments M w x rest c v))
  rewrite_counted ms w r k n x rest us c v q s =
      let st = marks_of w.memory.states in
      let lx = is_queued_lem (model_of w.env) w.memory.states x q in
      let ok = good (real M) (laws M) ms (view M w) r in
      let e = left_env M c v in
      let B = during (real M) w.env st x in
      let z = rewrite_lays M w x rest us c v ok k lx.0 lx.1 s in
      let new = (rewritten_batch M w x rest c v).load.moments in
      let L = lay_all (real M) e B z.part in
      let kx : kept (real M) w.env st x ≡ queued = kept_live (real M) (laws M) w.env st x lx.0 ∙ ap mark_of lx.1 in
      let same : fresh (real M) (kept (real M) w.env st) L ≡ new_ones (Some x) L =
      laid_fresh e x z.part B (kept (real M) w.env st) (λ y ne. put_off (real M) (laws M) (kept (real M) w.env st) x unmarked y ne) (λ u. un_q _ u kx) in
      let told : queues_of {S = real M} (ready_moments M w x ++ machine.rewrote x ∷ new) ≡ L =
      each_two (real M) queue_of (ready_moments M w x) (machine.rewrote x ∷ new) [] L (each_ask_all (real M) queue_of (λ x b. refl) w.env st (definers_in (model_of w.env) x)) z.queues in
      let ever = ever_append (real M) ms (rewrite_moments M w x rest c v) ∙ ap (add_all same_op (ever_of {S = real M} ms)) told in
      omega (arith, n, z.queued, same, ap length ever, count_rewritten (real M) (laws M) ms (view M w) (marked (real M) (laws M) ms (view M w) r) x e (λ y. (laws M).rewrite_gone w.env x e (ops_among (inserted v.records)) ok (as_rewrite M w x us c v s) y) z.part)

  module _ (ms : List (Moment (real M))) (w : World C) (r : Reached (real M) ms (view M w)) (k : Known (model_of w.env) w.memory.states) (n : w.counts.queued ≡ length (ever_of {S = real M} ms)) where
    -- what is told and left
    same_count : (t u : Told M) (w' v : World C) → t ≡ u → w' ≡ v → v.counts.queued ≡ length (ever_of {S = real M} (ms ++ u.moments)) → w'.counts.queued ≡ length (ever_of {S = real M} (ms ++ t.moments))
    same_count t u w' v tq wq h = ap (λ (z : World C). z.counts.queued) wq ∙ h ∙ sym (ap (λ (z : Told M). length (ever_of {S = real M} (ms ++ z.moments))) tq)

    none_counted : (ns : List (Moment (real M))) → queues_of {S = real M} ns ≡ [] → w.counts.queued ≡ length (ever_of {S = real M} (ms ++ ns))
    none_counted ns q = n ∙ sym (still ms ns q)

    chain_counted : (x : OpId) → w.counts.queued ≡ length (ever_of {S = real M} (ms ++ machine.asked x true ∷ ask_along (real M) w.env (marks_of w.memory.states) (x ∷ chain_of M w x)))
    chain_counted x = none_counted _ (each_ask_along (real M) queue_of (λ x b. refl) w.env (marks_of w.memory.states) (x ∷ chain_of M w x))

    pub counted_step : (t : Told M) (w' : World C) → Step M w t w' → w'.counts.queued ≡ length (ever_of {S = real M} (ms ++ t.moments))
    counted_step t w' (keeps_type p rest i a c tq wq) = same_count t _ w' _ tq wq (none_counted [] refl)
    counted_step t w' (same_type p rest i u a c s d tq wq) = same_count t _ w' _ tq wq (none_counted [] refl)
    counted_step t w' (new_type p rest i u a c s d f h tq wq) = same_count t _ w' _ tq wq (retype_counted ms w p i u (good (real M) (laws M) ms (view M w) r) n)
    counted_step t w' (stale x rest a q tq wq) = same_count t _ w' _ tq wq (none_counted [] refl)
    counted_step t w' (sets_aside x rest a q c tq wq) = same_count t _ w' _ tq wq (none_counted (machine.asked x false ∷ []) refl)
    counted_step t w' (waits x d rest a q c f b room tq wq) =
        let st = marks_of w.memory.states in
        let L = due_definers M w x ++ x ∷ [] in
        let lx = is_queued_lem (model_of w.env) w.memory.states x q in
        let e = ever_append (real M) ms t.moments ∙ ap (add_all same_op (ever_of {S = real M} ms)) (ap (λ (z : Told M). queues_of {S = real M} z.moments) tq ∙ wait_queues (real M) w.env st x (x ∷ chain_of M w x) L) in
        omega (arith, ap (λ (z : World C). z.counts.queued) wq, n, ap length e, count_wait (real M) (laws M) ms (view M w) (marked (real M) (laws M) ms (view M w) r) x lx.0)
    counted_step t w' (rewrites x rest us c v a q cv f s h tq wq) = same_count t _ w' _ tq wq (rewrite_counted ms w r k n x rest us c v q s)

    pub counted_fault : (f : Failure) (t : Told M) (w' : World C) → Fails M w f t w' → w'.counts.queued ≡ length (ever_of {S = real M} (ms ++ t.moments))
    counted_fault g t w' (type_fault p rest i f a c s gq tq wq) = same_count t _ w' _ tq wq (none_counted [] refl)
    counted_fault g t w' (type_batch p rest i u f a c s d h j gq tq wq) = same_count t _ w' _ tq wq (retype_counted ms w p i u (good (real M) (laws M) ms (view M w) r) n)
    counted_fault g t w' (circle x d rest a q c b gq tq wq) = same_count t _ w' _ tq wq (chain_counted x)
    counted_fault g t w' (no_room x d rest a q c f b room gq tq wq) = same_count t _ w' _ tq wq (chain_counted x)
    counted_fault g t w' (rewrite_fault x rest us c v f a q cv fo s gq tq wq) =
        same_count t _ w' _ tq wq (none_counted _ (each_two (real M) queue_of (ready_moments M w x) (machine.rewrote x ∷ []) [] [] (each_ask_all (real M) queue_of (λ x b. refl) w.env (marks_of w.memory.states) (definers_in (model_of w.env) x)) refl))
    counted_fault g t w' (rewrite_batch x rest us c v f a q cv fo s h gq tq wq) = same_count t _ w' _ tq wq (rewrite_counted ms w r k n x rest us c v q s)
