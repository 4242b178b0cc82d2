-- The driver counts the different operations that were ever queued.
use Rattle.std.proofs.Common.{◌≡◌, ℕ, true, false, cond, List, [], ◌∷◌, ◌++◌, length, Some, None, sym, refl, ap, ◌∙◌, subst, inl, inr, arith}
use Rattle.std.proofs.lemmas.Bool.{cases_Bool, cond-true, cond-false}
use Rattle.model.specs.declared.ids.OpId.{OpId}
use Rattle.law.specs.Lists.{add_all}
use Rattle.law.specs.Machine.{Mark, unmarked, queued, is_unmarked, Moment, put, kept, newly, mark_new, lay_all, fresh, during, Reached}
use Rattle.law.specs.Machine as machine
use Rattle.law.specs.Law.{ever_of, queues_of}
use Rattle.law.proofs.Marks.{un_q, is_unmarked_lem, cases_op, put_at, put_off, kept_live, newly_parts}
use Rattle.law.proofs.Moments.{ever_append, wait_queues, rewrite_queues}
use Rattle.law.proofs.Once.{good, marked}
use Rattle.law.proofs.Views.{count_wait, count_rewrite}
use Rattle.rules.specs.Meaning.{Meaning}
use Rattle.rules.specs.Setting.{Env, real, same_op, definers_in, inserted, ops_among}
use Rattle.rules.specs.Driver.{World, model_of, mark_of, marks_of}
use Rattle.rules.specs.Rules.{Told, Step, keeps_type, same_type, new_type, stale, sets_aside, waits, rewrites, ready_moments, left_env, due_definers, chain_of}
use Rattle.rules.specs.View.{view}
use Rattle.rules.proofs.Reals.{laws, same_is, same_self}
use Rattle.rules.proofs.Marking.{Known, is_queued_lem}
use Rattle.rules.proofs.Batch.{new_ones}
use Rattle.rules.proofs.Follow.{retype_meets, rewrite_meets, as_rewrite}

pub new_all : (os : List OpId) → new_ones None os ≡ length os
new_all [] = refl
new_all (o ∷ os) = omega (arith, new_all os)

pub other_op : (x y : OpId) → (x ≡ y → ⊥) → same_op x y ≡ false
other_op x y ne = elim (cases_Bool (same_op x y)) [ inl h ↦ absurd (ne (same_is x y h)) | inr h ↦ h ]

module _ {C : Type 0} (M : Meaning C) where
  -- of what a batch lays, all get their first mark but x, which had one
  laid_fresh : (e : Env C) (x : OpId) (is : List OpId) (st kt : OpId → Mark) → ((y : OpId) → (x ≡ y → ⊥) → st y ≡ kt y) → (kt x ≡ unmarked → ⊥)
      → fresh (real M) kt (lay_all (real M) e st is) ≡ new_ones (Some x) (lay_all (real M) e st is)
  laid_fresh e x [] st kt a n = refl
  laid_fresh e x (y ∷ ys) st kt a n = elim (cases_Bool (newly (real M) e st y)) [
    | inr h ↦
        let lay : lay_all (real M) e st (y ∷ ys) ≡ lay_all (real M) e st ys =
        ap (λ z. z ++ lay_all (real M) e (mark_new (real M) e st y) ys) (cond-false (newly (real M) e st y) (y ∷ []) [] h) ∙ ap (λ f. lay_all (real M) e f ys) (cond-false (newly (real M) e st y) (put (real M) st y queued) st h) in
        ap (fresh (real M) kt) lay ∙ laid_fresh e x ys st kt a n ∙ ap (new_ones (Some x)) (sym lay)
    | inl h ↦
        let st' = put (real M) st y queued in
        let kt' = put (real M) kt y queued in
        let lay : lay_all (real M) e st (y ∷ ys) ≡ y ∷ lay_all (real M) e st' ys =
        ap (λ z. z ++ lay_all (real M) e (mark_new (real M) e st y) ys) (cond-true (newly (real M) e st y) (y ∷ []) [] h) ∙ ap (λ f. y ∷ lay_all (real M) e f ys) (cond-true (newly (real M) e st y) (put (real M) st y queued) st h) in
        let u = (newly_parts (real M) (laws M) e st y h).1 in
        let one : ◌≡◌ {A = ℕ} (cond (is_unmarked (kt y)) 1 0) (cond (same_op x y) 0 1) = elim (cases_op (real M) (laws M) x y) [
          | inl q ↦ cond-false (is_unmarked (kt y)) 1 0 (elim (cases_Bool (is_unmarked (kt y))) [ inl z ↦ absurd (n (ap kt q ∙ is_unmarked_lem (kt y) z)) | inr z ↦ z ]) ∙ sym (cond-true (same_op x y) 0 1 (subst (λ z. same_op x z ≡ true) q (same_self x)))
          | inr ne ↦ cond-true (is_unmarked (kt y)) 1 0 (ap is_unmarked (sym (a y ne) ∙ u)) ∙ sym (cond-false (same_op x y) 0 1 (other_op x y ne))
        ] in
        let rest = laid_fresh e x ys st' kt'
        (λ z ne. elim (cases_op (real M) (laws M) y z) [
          | inl q ↦ put_at (real M) (laws M) st y queued z q ∙ sym (put_at (real M) (laws M) kt y queued z q)
          | inr d ↦ put_off (real M) (laws M) st y queued z d ∙ a z ne ∙ sym (put_off (real M) (laws M) kt y queued z d)
        ])
        (λ z. elim (cases_op (real M) (laws M) y x) [
          | inl q ↦ un_q _ z (put_at (real M) (laws M) kt y queued x q)
          | inr d ↦ n (sym (put_off (real M) (laws M) kt y queued x d) ∙ z)
        ]) in
        ap (fresh (real M) kt) lay ∙ omega (arith, one, rest) ∙ ap (new_ones (Some x)) (sym lay)
  ]

  -- nothing is queued
  still : (ms ns : List (Moment (real M))) → queues_of {S = real M} ns ≡ [] → length (ever_of {S = real M} (ms ++ ns)) ≡ length (ever_of {S = real M} ms)
  still ms ns q = ap length (ever_append (real M) ms ns ∙ ap (add_all same_op (ever_of {S = real M} ms)) q)

  pub counted_step : (ms : List (Moment (real M))) (w : World C) (t : Told M) (w' : World C) → Reached (real M) ms (view M w) → Known (model_of w.env) w.memory.states → w.counts.queued ≡ length (ever_of {S = real M} ms)
      → Step M w t w' → w'.counts.queued ≡ length (ever_of {S = real M} (ms ++ t.moments))
  counted_step ms w t w' r k n (keeps_type p rest i a c tq wq) = ap (λ (z : World C). z.counts.queued) wq ∙ n ∙ sym (still ms t.moments (ap (λ (z : Told M). queues_of {S = real M} z.moments) tq))
  counted_step ms w t w' r k n (same_type p rest i u a c s d tq wq) = ap (λ (z : World C). z.counts.queued) wq ∙ n ∙ sym (still ms t.moments (ap (λ (z : Told M). queues_of {S = real M} z.moments) tq))
  counted_step ms w t w' r k n (new_type p rest i u a c s d f h tq wq) =
      let z = retype_meets M w p i u (good (real M) (laws M) ms (view M w) r) k h in
      omega (arith, ap (λ (z : World C). z.counts.queued) wq, n, z.queued, still ms t.moments (ap (λ (z : Told M). queues_of {S = real M} z.moments) tq ∙ ap (λ a. queues_of {S = real M} a) z.moments))
  counted_step ms w t w' r k n (stale x rest a q tq wq) = ap (λ (z : World C). z.counts.queued) wq ∙ n ∙ sym (still ms t.moments (ap (λ (z : Told M). queues_of {S = real M} z.moments) tq))
  counted_step ms w t w' r k n (sets_aside x rest a q c tq wq) = ap (λ (z : World C). z.counts.queued) wq ∙ n ∙ sym (still ms t.moments (ap (λ (z : Told M). queues_of {S = real M} z.moments) tq))
  counted_step ms w t w' r k n (waits x d rest a q c f b room tq wq) =
      let st = marks_of w.memory.states in
      let L = due_definers M w x ++ x ∷ [] in
      let lx = is_queued_lem (model_of w.env) w.memory.states x q in
      let e = ever_append (real M) ms t.moments ∙ ap (add_all same_op (ever_of {S = real M} ms)) (ap (λ (z : Told M). queues_of {S = real M} z.moments) tq ∙ wait_queues (real M) w.env st x (x ∷ chain_of M w x) L) in
      omega (arith, ap (λ (z : World C). z.counts.queued) wq, n, ap length e, count_wait (real M) (laws M) ms (view M w) (marked (real M) (laws M) ms (view M w) r) x lx.0)
  counted_step ms w t w' r k n (rewrites x rest us c v a q cv f s h tq wq) =
      let st = marks_of w.memory.states in
      let lx = is_queued_lem (model_of w.env) w.memory.states x q in
      let ok = good (real M) (laws M) ms (view M w) r in
      let e = left_env M c v in
      let is = ops_among (inserted v.records) in
      let B = during (real M) w.env st x in
      let z = rewrite_meets M w x rest us c v ok k lx.0 lx.1 s h in
      let R = as_rewrite M w x us c v s in
      let kx : kept (real M) w.env st x ≡ queued = kept_live (real M) (laws M) w.env st x lx.0 ∙ ap mark_of lx.1 in
      let same : fresh (real M) (kept (real M) w.env st) (lay_all (real M) e B is) ≡ new_ones (Some x) (lay_all (real M) e B is) =
      laid_fresh e x is B (kept (real M) w.env st) (λ y ne. put_off (real M) (laws M) (kept (real M) w.env st) x unmarked y ne) (λ u. un_q _ u kx) in
      let told : queues_of {S = real M} t.moments ≡ lay_all (real M) e B is =
      ap (λ (y : Told M). queues_of {S = real M} y.moments) tq ∙ ap (λ y. queues_of {S = real M} (ready_moments M w x ++ machine.rewrote x ∷ y)) z.moments ∙ rewrite_queues (real M) w.env e st B x (definers_in (model_of w.env) x) is in
      let ever = ever_append (real M) ms t.moments ∙ ap (add_all same_op (ever_of {S = real M} ms)) told in
      omega (arith, ap (λ (y : World C). y.counts.queued) wq, n, z.queued, same, ap length ever, count_rewrite (real M) (laws M) ms (view M w) (marked (real M) (laws M) ms (view M w) r) ok x e is R)
