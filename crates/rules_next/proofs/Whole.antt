-- The whole law of the driver.
use Rattle.std.proofs.Common.{◌≡◌, ℕ, ◌-◌, ◌*◌, ◌≤◌, true, false, ◌&&◌, eqb, List, [], ◌∷◌, ◌++◌, length, Some, None, Ok, Err, Option, sym, refl, ap, ◌∙◌, subst, inl, inr, append_assoc, append-nil, arith}
use Rattle.std.proofs.lemmas.Bool.{both_ways, and_parts, or_parts}
use Rattle.model.specs.declared.ids.OpId.{OpId}
use Rattle.model.specs.Walk.{walk}
use Rattle.calls.specs.World.{Pick}
use Rattle.calls.specs.World as calls
use Rattle.law.specs.Lists.{In, Apart}
use Rattle.law.specs.Machine.{Moment, rewrote, during}
use Rattle.law.specs.Law.{rewrites_of, mets_of}
use Rattle.law.proofs.Moments.{wait_rewrites, rewrite_mets}
use Rattle.law.proofs.Once.{good}
use Rattle.law.proofs.Lawful.{lawful}
use Rattle.rules.specs.declared.interface.IRStatus.{IRStatus}
use Rattle.rules.specs.declared.interface.Answer.TheVariants as answer
use Rattle.rules_next.specs.declared.interface.Failure.{Failure}
use Rattle.rules_next.specs.declared.interface.Report.{Report}
use Rattle.rules_next.specs.Meaning.{Meaning}
use Rattle.rules.specs.Setting.{Good, definers_in, inserted, ops_among}
use Rattle.rules_next.specs.Setting.{real}
use Rattle.rules.specs.Driver.{Room, model_of, marks_of, shed}
use Rattle.rules_next.specs.Driver.{World}
use Rattle.rules.specs.Rules.{some_record}
use Rattle.rules_next.specs.Rules.{Told, Step, keeps_type, same_type, new_type, stale, sets_aside, waits, rewrites, Fails, type_fault, type_batch, circle, no_room, rewrite_fault, rewrite_batch, Ran, not_open, is_done, stopped, closes, Begun, not_live, unfinished, is_full, begins, tidied, is_begun, runs, clear_env, walked, done_world, chain_of, due_definers, ready_moments, left_env}
use Rattle.rules_next.specs.View.{view}
use Rattle.rules_next.specs.Called.{Called, is_new, is_touched, begin_refused, begin_accepted, run_answered, Amid, amid}
use Rattle.rules_next.specs.Law.{Moves, Ready, Few, Settled, left_by, DriverLaw}
use Rattle.rules_next.proofs.Reals.{laws}
use Rattle.rules_next.proofs.Follow.{follow, rewrite_meets}
use Rattle.rules.proofs.Marking.{is_queued_lem}
use Rattle.rules_next.proofs.Rejecting.{ok_err, stopped_done, R, told, retype_rewrites, batch_rewrites}
use Rattle.rules_next.proofs.Held.{shed_again, Held, held_begun, held_tidied, held_done, held_run, walk_mets}
use Rattle.rules_next.proofs.Closing.{shut, shut_few}
use Rattle.rules_next.proofs.Circles.{circle_exact}

none_some : {A X : Type 0} (x : X) → ◌≡◌ {A = Option X} None (Some x) → A
none_some x e = let z : ◌≡◌ {A = ℕ} 0 1 = cc in absurd (omega arith)

same_some : {X : Type 0} (x y : X) → ◌≡◌ {A = Option X} (Some x) (Some y) → x ≡ y
same_some x y e = cc

-- no block is pending and no entry is there
no_work : {X : Type 0} (xs : List X) → some_record xs ≡ false → xs ≡ []
no_work [] e = refl
no_work (x ∷ xs) e = absurd (both_ways true e refl)

module _ {C : Type 0} (M : Meaning C) where
  -- what stays from call to call; once closed, the machine no longer goes along
  record Kept (ms : List (Moment (real M))) (w : World C) : Type 0 where
    once : Apart (rewrites_of ms)
    few : Few M ms w.counts
    goes : is_begun w.phase ≡ true → Held M ms w

  held_kept : (ms : List (Moment (real M))) (w : World C) → Held M ms w → Kept ms w
  held_kept ms w h =
      let r = lawful (real M) (laws M) ms (view M w) h.reached in
      let n = sym h.counted in
      record {
        once = r.0.once;
        few = record {
          counted = h.counted;
          waits_few = subst (λ k. 2 * w.counts.waits ≤ k * (k - 1)) n r.2.waits_few;
          taken_few = omega (arith, r.2.taken_few, n);
        };
        goes = λ _. h;
      }

  closed_phase : (w : World C) (f : Failure) (t : Told M) (w' : World C) → Fails M w f t w' → is_begun w'.phase ≡ false
  closed_phase w f t w' (type_fault p rest n c a y r gq tq wq) = ap (λ (z : World C). is_begun z.phase) wq
  closed_phase w f t w' (type_batch p rest n u c a y r s d g gq tq wq) = ap (λ (z : World C). is_begun z.phase) wq
  closed_phase w f t w' (circle x d rest a q c b gq tq wq) = ap (λ (z : World C). is_begun z.phase) wq
  closed_phase w f t w' (no_room x d rest a q c o b room gq tq wq) = ap (λ (z : World C). is_begun z.phase) wq
  closed_phase w f t w' (rewrite_fault x rest ks c v g a q cv fo r gq tq wq) = ap (λ (z : World C). is_begun z.phase) wq
  closed_phase w f t w' (rewrite_batch x rest ks c v g a q cv fo r k gq tq wq) = ap (λ (z : World C). is_begun z.phase) wq

  began : (w : World C) (room : Room) → runs M w room ≡ true → is_begun w.phase ≡ true
  began w room g = (and_parts (is_begun w.phase) (eqb room.entries w.room.entries && eqb room.blocks w.room.blocks) g).0

  ran_kept : (ms : List (Moment (real M))) (w : World C) → Kept ms w → (budget size : ℕ) (room : Room) (r : Report) (t : Told M) (w' : World C) → Ran M w budget size room r t w'
      → Kept (ms ++ t.moments) w' × (r.counts ≡ w'.counts)
  ran_kept ms w k budget size room r t w' (not_open g q e d) = (
    subst (λ a. Kept a w') (sym (ap (λ (z : Told M). ms ++ z.moments) e ∙ append-nil ms)) (subst (Kept ms) (sym d) k),
    ap (λ (z : Report). z.counts) q ∙ ap (λ (z : World C). z.counts) (sym d),
  )
  ran_kept ms w k budget size room r t w' (is_done n v g x hw q d) =
      let h = held_run M ms w (k.goes (began w room g)) budget size t n v x in
      let z = held_done M (ms ++ t.moments) (tidied M v) (held_tidied M (ms ++ t.moments) v h) in
      (subst (Kept (ms ++ t.moments)) (sym d) (held_kept (ms ++ t.moments) (done_world M (tidied M v)) z), ap (λ (z : Report). z.counts) q ∙ ap (λ (z : World C). z.counts) (sym d))
  ran_kept ms w k budget size room r t w' (stopped n v g x hw m q d) =
      let h = held_run M ms w (k.goes (began w room g)) budget size t n v x in
      (subst (Kept (ms ++ t.moments)) (sym d) (held_kept (ms ++ t.moments) (tidied M v) (held_tidied M (ms ++ t.moments) v h)), ap (λ (z : Report). z.counts) q ∙ ap (λ (z : World C). z.counts) (sym d))
  ran_kept ms w k budget size room r t w' (closes b a n v f g x hw m s q d) =
      let ns = ms ++ b.moments in
      let h = held_tidied M ns v (held_run M ms w (k.goes (began w room g)) budget size b n v x) in
      let all : ns ++ a.moments ≡ ms ++ t.moments = append_assoc ms b.moments a.moments ∙ ap (λ (z : Told M). ms ++ z.moments) (sym d) in
      let z : Kept (ns ++ a.moments) w' = record {
        once = (shut M ns (tidied M v) h f a w' s).once;
        few = shut_few M ns (tidied M v) h f a w' s;
        goes = λ o. absurd (both_ways _ (closed_phase (tidied M v) f a w' s) o);
      } in
      (subst (λ c. Kept c w') all z, ap (λ (z : Report). z.counts) q)

  begun_kept : (w : World C) (root : OpId) (room : Room) (n : ℕ) (t : Told M) (w' : World C) → Good (clear_env M w) → Begun M w root room (Ok n) t w'
      → Held M t.moments w' × (n ≡ w'.counts.queued)
  begun_kept w root room n t w' ok (not_live l r e d) = ok_err n _ r
  begun_kept w root room n t w' ok (unfinished l o r e d) = ok_err n _ r
  begun_kept w root room n t w' ok (is_full f l o h r e d) = ok_err n _ r
  begun_kept w root room n t w' ok (begins l o h r e d) =
      let q = ap (λ (z : Told M). z.moments) e in (
        subst (λ a. Held M a w') (sym q) (subst (Held M (walked M w root room).load.moments) (sym d) (held_begun M w root room ok l h)),
        (let same : n ≡ (walked M w root room).load.queued = cc in same) ∙ ap (λ (z : World C). z.counts.queued) (sym d),
      )

  walks : (w : World C) (root : OpId) (room : Room) (n : ℕ) (t : Told M) (w' : World C) → Begun M w root room (Ok n) t w' → mets_of {S = real M} t.moments ≡ ops_among (walk (model_of w.env) root.slot)
  walks w root room n t w' (not_live l r e d) = ok_err n _ r
  walks w root room n t w' (unfinished l o r e d) = ok_err n _ r
  walks w root room n t w' (is_full f l o h r e d) = ok_err n _ r
  walks w root room n t w' (begins l o h r e d) = ap (λ (z : Told M). mets_of {S = real M} z.moments) e ∙ walk_mets M w root room h

  refused_same : (w : World C) (root : OpId) (room : Room) (f : Failure) (t : Told M) (w' : World C) → Begun M w root room (Err f) t w' → w' ≡ w
  refused_same w root room f t w' (not_live l r e d) = d
  refused_same w root room f t w' (unfinished l o r e d) = d
  refused_same w root room f t w' (is_full g l o h r e d) = d
  refused_same w root room f t w' (begins l o h r e d) = ok_err _ f (sym r)

  kept : (o : Option (List (Moment (real M)))) (w : World C) → Called M o w → (ms : List (Moment (real M))) → o ≡ Some ms → Kept ms w
  kept o w (is_new e y room q d) ms p = none_some ms (sym q ∙ p)
  kept o w (is_touched before v e os ps c q d) ms p = none_some ms (sym q ∙ p)
  kept o w (begin_refused v root room f t c b) ms p = subst (Kept ms) (sym (refused_same v root room f t w b)) (kept o v c ms p)
  kept o w (begin_accepted before v root room n t c ok b q) ms p = subst (λ a. Kept a w) (same_some t.moments ms (sym q ∙ p)) (held_kept t.moments w (begun_kept v root room n t w ok b).0)
  kept o w (run_answered None v budget size room r t c x q) ms p = none_some ms (sym q ∙ p)
  kept o w (run_answered (Some ns) v budget size room r t c x q) ms p = subst (λ a. Kept a w) (same_some (ns ++ t.moments) ms (sym q ∙ p)) (ran_kept ns v (kept (Some ns) v c ns refl) budget size room r t w x).0

  -- before a step
  record Stepping (ms : List (Moment (real M))) (w : World C) : Type 0 where
    held : Held M ms w
    tidy : shed (model_of w.env) w.memory.pending ≡ w.memory.pending

  stepping : (ms : List (Moment (real M))) (w : World C) → Amid M ms w → Stepping ms w
  stepping ms w (amid before u v budget size n room t c g x q d) =
      let h = held_tidied M (before ++ t.moments) v (held_run M before u ((kept (Some before) u c before refl).goes (began u room g)) budget size t n v x) in
      subst (λ a. Stepping a w) (sym q) (subst (Stepping (before ++ t.moments)) (sym d) (record { held = h; tidy = shed_again (model_of v.env) v.memory.pending }))

  ready : (ms : List (Moment (real M))) (w : World C) → Amid M ms w → (t : Told M) (w' : World C) → Moves M w t w' → (x : OpId) → In x (rewrites_of {S = real M} t.moments) → Ready M w x
  ready ms w a t w' (inl s) x i =
      let k = stepping ms w a in
      let h = k.held in
      let g = good (real M) (laws M) ms (view M w) h.reached in
      let z = (lawful (real M) (laws M) ms (view M w) h.reached).0.ready t.moments (view M w') (follow M w g h.known k.tidy t w' s).step x i in
      record { live = z.0; can_convert = z.1; none_due = z.2 }
  ready ms w a t w' (inr s) x i = (shut M ms w (stepping ms w a).held s.0 t w' s.1).ready x i

  none_rewritten : {A : Type 0} (t : Told M) (x : OpId) → R M t ≡ [] → In x (R M t) → A
  none_rewritten t x e i = absurd (subst (In x) e i)

  inserts : (ms : List (Moment (real M))) (w : World C) → Held M ms w → (t : Told M) (w' : World C) → Step M w t w' → (x : OpId) (ks : List Pick) → In x (R M t) → t.picks ≡ ks ∷ []
      → mets_of {S = real M} t.moments ≡ ops_among (inserted (left_by M w x ks).records)
  inserts ms w h t w' (keeps_type p rest n a c tq wq) x ks i e = none_rewritten t x (told M t _ tq) i
  inserts ms w h t w' (same_type p rest n u a c r s tq wq) x ks i e = none_rewritten t x (told M t _ tq) i
  inserts ms w h t w' (new_type p rest n u a c r s d f tq wq) x ks i e = none_rewritten t x (told M t _ tq ∙ retype_rewrites M w p n u) i
  inserts ms w h t w' (stale y rest a q tq wq) x ks i e = none_rewritten t x (told M t _ tq) i
  inserts ms w h t w' (sets_aside y rest a q c tq wq) x ks i e = none_rewritten t x (told M t _ tq) i
  inserts ms w h t w' (waits y d rest a q c f b room tq wq) x ks i e =
      none_rewritten t x (told M t _ tq ∙ wait_rewrites (real M) w.env (marks_of w.memory.states) y (y ∷ chain_of M w y) (due_definers M w y ++ y ∷ [])) i
  inserts ms w h t w' (rewrites y rest us c v a q cv f s k tq wq) x ks i e =
      let lx = is_queued_lem (model_of w.env) w.memory.states y q in
      let z = rewrite_meets M w y rest us c v (good (real M) (laws M) ms (view M w) h.reached) h.known lx.0 lx.1 s k in
      let picked : us ∷ [] ≡ ks ∷ [] = ap (λ (z : Told M). z.picks) (sym tq) ∙ e in
      let same : us ≡ ks = cc in
      let it : y ≡ x = elim (subst (In x) (told M t _ tq ∙ batch_rewrites M w y rest c v) i) [ inl d ↦ sym d | inr j ↦ absurd j ] in
      ap (λ (z : Told M). mets_of {S = real M} z.moments) tq ∙ ap (λ b. mets_of {S = real M} (ready_moments M w y ++ rewrote y ∷ b)) z.moments
      ∙ rewrite_mets (real M) w.env (left_env M c v) (marks_of w.memory.states) (during (real M) w.env (marks_of w.memory.states) y) y (definers_in (model_of w.env) y) (ops_among (inserted v.records))
      ∙ ap (λ (z : calls.World). ops_among (inserted z.records)) s.leaves ∙ (λ i. ops_among (inserted (left_by M w (it i) (same i)).records))

  settled : (ms : List (Moment (real M))) (w : World C) → Kept ms w → (budget size : ℕ) (room : Room) (r : Report) (s : IRStatus) (t : Told M) (w' : World C) → Ran M w budget size room r t w'
      → r.answer ≡ Ok (answer.Done s) → (y : OpId) → In y (mets_of {S = real M} (ms ++ t.moments)) → Settled M (ms ++ t.moments) w' y
  settled ms w k budget size room r s t w' (not_open g q e d) ok y i = ok_err (answer.Done s) _ (sym ok ∙ ap (λ (z : Report). z.answer) q)
  settled ms w k budget size room r s t w' (is_done n v g x hw q d) ok y i =
      let h = held_run M ms w (k.goes (began w room g)) budget size t n v x in
      let both = or_parts (some_record (tidied M v).memory.pending) (some_record v.memory.worklist) hw in
      subst (λ z. Settled M (ms ++ t.moments) z y) (sym d)
      ((lawful (real M) (laws M) (ms ++ t.moments) (view M v) h.reached).1.complete (no_work v.memory.worklist both.1) (ap length (no_work (shed (model_of v.env) v.memory.pending) both.0)) y i)
  settled ms w k budget size room r s t w' (stopped n v g x hw m q d) ok y i =
      stopped_done s (sym ok ∙ ap (λ (z : Report). z.answer) q)
  settled ms w k budget size room r s t w' (closes b a n v f g x hw m h q d) ok y i = ok_err (answer.Done s) f (sym ok ∙ ap (λ (z : Report). z.answer) q)

pub driver_law : (C : Type 0) → DriverLaw C
driver_law C M = record {
  once = λ ms w c. (kept M (Some ms) w c ms refl).once;
  ready = ready M;
  complete = λ ms w c. settled M ms w (kept M (Some ms) w c ms refl);
  walks = walks M;
  inserts = λ ms w a. inserts M ms w (stepping M ms w a).held;
  circle = λ ms w a. circle_exact M ms w (stepping M ms w a).held;
  few = λ ms w c budget size room r t w' x. let z = ran_kept M ms w (kept M (Some ms) w c ms refl) budget size room r t w' x in subst (Few M (ms ++ t.moments)) (sym z.1) z.0.few;
  begun = λ w root room n t w' ok b. let z = begun_kept M w root room n t w' ok b in z.1 ∙ z.0.counted;
}
