-- The law where a fault ends the run.
use Rattle.std.proofs.Common.{◌≡◌, suc, ◌+◌, ◌-◌, ◌*◌, ◌≤◌, Bool, true, false, cond, ltb, ◌⊎◌, List, [], ◌∷◌, ◌++◌, length, Some, None, Option, sym, refl, ap, ◌∙◌, subst, inl, inr, append-nil, arith}
use mathlib.Core.Option.{none}
use Rattle.model.specs.declared.ids.OpId.{OpId}
use Rattle.model.specs.declared.ids.IRNode.{IRNode}
use Rattle.model.specs.declared.ids.IRNode.TheVariants as node
use Rattle.calls.specs.declared.events.RecorderEvent.{RecorderEvent}
use Rattle.law.specs.Machine.{Moment, met, asked, queues, rewrote, ask, ask_along, newly}
use Rattle.law.specs.Law.{rewrite_of, rewrites_of, ever_of, Closes}
use Rattle.law.proofs.Moments.{each_append, each_two, each_ask, each_ask_all, each_ask_along}
use Rattle.law.specs.Lists.{In, Apart}
use Rattle.law.proofs.Moments.{ever_grows}
use Rattle.law.proofs.Taken.{taken_few}
use Rattle.law.proofs.Waits.{waits_few, halves}
use Rattle.law.proofs.Closed.{room_grows}
use Rattle.law.proofs.Lawful.{lawful}
use Rattle.rules_next.specs.declared.interface.Fault.{Fault}
use Rattle.rules_next.specs.declared.interface.Fault.TheVariants as fault
use Rattle.rules_next.specs.declared.interface.Failure.{Failure}
use Rattle.rules_next.specs.Meaning.{Meaning}
use Rattle.rules.specs.Setting.{Env, definers_in, inserted}
use Rattle.rules_next.specs.Setting.{real}
use Rattle.rules.specs.Driver.{Room, model_of, marks_of, mark_of, shed, with_states}
use Rattle.rules_next.specs.Driver.{World, Load, Handled, mark_all_erased, fine, stops, onward, and_then, laid, unlaid, record_types, meet_op, meet_node, meet_nodes, forget_dead, handle}
use Rattle.rules.specs.Rules.{with_lists}
use Rattle.rules_next.specs.Rules.{Told, Fails, type_fault, type_batch, circle, no_room, rewrite_fault, rewrite_batch, ready_moments, rewritten_batch, retype, chain_of, first_one, Takes, state_in, convertible, retyped_env, left_env, states_taken}
use Rattle.rules_next.specs.View.{view}
use Rattle.rules_next.specs.Law.{Ready, Few}
use Rattle.rules_next.proofs.Reals.{laws}
use Rattle.rules.proofs.Marking.{is_queued_lem}
use Rattle.rules_next.proofs.Batch.{types_kept}
use Rattle.rules_next.proofs.Counting.{counted_fault}
use Rattle.rules_next.proofs.Held.{Held}

module _ {C : Type 0} (M : Meaning C) where
  abbrev R : List (Moment (real M)) → List OpId
  R ms = rewrites_of {S = real M} ms

  -- a batch rewrites nothing, however it ends
  abbrev Quiet : Load M → Load M → Type 0
  Quiet l k = R k.moments ≡ R l.moments

  asks_quiet : (e : Env C) (l : Load M) (o : OpId) → Quiet l (unlaid M e l o)
  asks_quiet e l o = each_append (real M) rewrite_of l.moments (met o ∷ ask (real M) e (marks_of l.memory.states) o) ∙ ap (λ z. R l.moments ++ z) (each_ask (real M) rewrite_of (λ x b. refl) e (marks_of l.memory.states) o) ∙ append-nil (R l.moments)

  laid_quiet : (e : Env C) (hand : Option OpId) (l : Load M) (o : OpId) → Quiet l (laid M e hand l o)
  laid_quiet e hand l o = each_append (real M) rewrite_of (unlaid M e l o).moments (queues o ∷ []) ∙ append-nil (R (unlaid M e l o).moments) ∙ asks_quiet e l o

  op_quiet : (e : Env C) (room : Room) (hand : Option OpId) (l : Load M) (o : OpId) → Quiet l (meet_op M e room hand l o).load
  op_quiet e room hand l o = at (newly (real M) e (marks_of l.memory.states) o) (ltb (length l.memory.worklist) room.entries)
    where
      at : (b c : Bool) → Quiet l (cond b (cond c (fine M (laid M e hand l o)) (stops M (unlaid M e l o) fault.Full)) (fine M (unlaid M e l o))).load
      at true true = laid_quiet e hand l o
      at true false = asks_quiet e l o
      at false c = asks_quiet e l o

  node_quiet : (e : Env C) (room : Room) (hand : Option OpId) (l : Load M) (n : IRNode) → Quiet l (meet_node M e room hand l n).load
  node_quiet e room hand l (node.Operation o) = op_quiet e room hand l o
  node_quiet e room hand l (node.BasicBlock b) = at (ltb (length l.memory.pending) room.blocks)
    where
      at : (c : Bool) → Quiet l (cond c (fine M (record { memory = record { worklist = l.memory.worklist; pending = l.memory.pending ++ record { block = b; next = 0 } ∷ []; states = l.memory.states; histories = l.memory.histories }; queued = l.queued; moments = l.moments })) (stops M l fault.Full)).load
      at true = refl
      at false = refl
  node_quiet e room hand l (node.Region r) = refl

  then_quiet : (l : Load M) (q : Option Fault) (k : Load M) (f : Load M → Handled M) → Quiet l k → Quiet k (f k).load → Quiet l (onward M q k f).load
  then_quiet l None k f one more = more ∙ one
  then_quiet l (Some e) k f one more = one

  nodes_quiet : (e : Env C) (room : Room) (hand : Option OpId) (l : Load M) (ns : List IRNode) → Quiet l (meet_nodes M e room hand l ns).load
  nodes_quiet e room hand l [] = refl
  nodes_quiet e room hand l (n ∷ ns) =
      let k = meet_node M e room hand l n in
      then_quiet l k.fault k.load (λ j. meet_nodes M e room hand j ns) (node_quiet e room hand l n) (nodes_quiet e room hand k.load ns)

  pub batch_quiet : (e : Env C) (room : Room) (hand : Option OpId) (l : Load M) (es : List RecorderEvent) → Quiet l (handle M e room hand l es).load
  batch_quiet e room hand l es =
      let l1 : Load M = record { memory = with_states l.memory (mark_all_erased (model_of e) l.memory.states es); queued = l.queued; moments = l.moments } in
      let h = record_types M l1 es in
      let k = meet_nodes M e room hand h.load (inserted es) in
      then_quiet l h.fault h.load (λ k. and_then M (meet_nodes M e room hand k (inserted es)) (λ j. fine M (forget_dead M (model_of e) j))) (ap R (types_kept M l1 es).moments)
      (then_quiet h.load k.fault k.load (λ j. fine M (forget_dead M (model_of e) j)) (nodes_quiet e room hand h.load (inserted es)) refl)

  -- what holds after a step that closes
  pub record Shut (ms : List (Moment (real M))) (w : World C) (t : Told M) (w' : World C) : Type 0 where
    pub once : Apart (R (ms ++ t.moments))
    pub ready : (x : OpId) → In x (R t.moments) → Ready M w x
    pub waits_few : 2 * w'.counts.waits ≤ length (ever_of {S = real M} (ms ++ t.moments)) * (length (ever_of {S = real M} (ms ++ t.moments)) - 1)
    pub taken_few : w'.counts.taken ≤ 2 * length (ever_of {S = real M} (ms ++ t.moments)) + 9 * w'.counts.waits

  -- a fault about a type: no entry is taken
  on_type_lem : (ms : List (Moment (real M))) (w w' : World C) (t : Told M) → Held M ms w → R t.moments ≡ [] → w'.counts.waits ≡ w.counts.waits → w'.counts.taken ≡ w.counts.taken → Shut ms w t w'
  on_type_lem ms w w' t h q a b =
      let s = view M w in
      let n = length (ever_of {S = real M} (ms ++ t.moments)) in
      let grows = ever_grows (real M) (laws M) ms t.moments in
      record {
        once = subst Apart (sym (each_append (real M) rewrite_of ms t.moments ∙ ap (λ z. R ms ++ z) q ∙ append-nil (R ms))) (lawful (real M) (laws M) ms s h.reached).0.once;
        ready = λ x i. absurd (subst (In x) q i);
        waits_few = halves w'.counts.waits n (subst (λ k. 2 * k + n ≤ n * n) (sym a) (room_grows (real M) (laws M) w.counts.waits (length (ever_of {S = real M} ms)) n grows (waits_few (real M) (laws M) ms s h.reached)));
        taken_few = omega (arith, taken_few (real M) (laws M) ms s h.reached, grows, a, b);
      }

  -- a fault with the front entry in hand
  on_front_lem : (ms : List (Moment (real M))) (w w' : World C) (t : Told M) (x : OpId) (rest : List OpId) → Held M ms w → Takes M w x rest → state_in M w x ≡ true
      → (R t.moments ≡ []) ⊎ ((R t.moments ≡ x ∷ []) × (convertible M w x ≡ true) × (first_one M w x ≡ none))
      → w'.counts.waits ≡ w.counts.waits → w'.counts.taken ≡ suc w.counts.taken → Shut ms w t w'
  on_front_lem ms w w' t x rest h a q at a' b =
      let lx = is_queued_lem (model_of w.env) w.memory.states x q in
      let c : Closes (real M) (view M w) t.moments (view M w') = record {
        front = x;
        rest = rest;
        calm = ap (λ ps. length (shed (model_of w.env) ps)) a.calm;
        is_front = a.front;
        at_most_it = elim at [ inl e ↦ inl e | inr e ↦ inr (e.0, lx.0, ap mark_of lx.1, e.1, e.2) ];
        taken_one = b;
        no_wait = a';
      } in
      let r = (lawful (real M) (laws M) ms (view M w) h.reached).4 in
      record {
        once = r.closed_once t.moments (view M w') c;
        ready = λ y i. let z = r.closed_ready t.moments (view M w') c y i in record { live = z.0; can_convert = z.1; none_due = z.2 };
        waits_few = r.closed_waits t.moments (view M w') c;
        taken_few = r.closed_taken t.moments (view M w') c;
      }

  -- a rewrite is one, and the questions before it are none
  pub rewrites_one : (w : World C) (x : OpId) (new : List (Moment (real M))) → R new ≡ [] → R (ready_moments M w x ++ rewrote x ∷ new) ≡ x ∷ []
  rewrites_one w x new e =
      each_two (real M) rewrite_of (ready_moments M w x) (rewrote x ∷ new) [] (x ∷ []) (each_ask_all (real M) rewrite_of (λ x b. refl) w.env (marks_of w.memory.states) (definers_in (model_of w.env) x)) (ap (λ zs. x ∷ zs) e)

  pub chain_none : (w : World C) (x : OpId) → R (asked x true ∷ ask_along (real M) w.env (marks_of w.memory.states) (x ∷ chain_of M w x)) ≡ []
  chain_none w x = each_ask_along (real M) rewrite_of (λ x b. refl) w.env (marks_of w.memory.states) (x ∷ chain_of M w x)

  told_none : (t u : Told M) → t ≡ u → R u.moments ≡ [] → R t.moments ≡ []
  told_none t u e h = ap (λ (z : Told M). R z.moments) e ∙ h

  pub shut : (ms : List (Moment (real M))) (w : World C) → Held M ms w → (f : Failure) (t : Told M) (w' : World C) → Fails M w f t w' → Shut ms w t w'
  shut ms w h f t w' (type_fault p rest n c a y r gq tq wq) =
      on_type_lem ms w w' t h (told_none t _ tq refl) (ap (λ (z : World C). z.counts.waits) wq) (ap (λ (z : World C). z.counts.taken) wq)
  shut ms w h f t w' (type_batch p rest n u c a y r s d g gq tq wq) =
      on_type_lem ms w w' t h (told_none t _ tq (batch_quiet (retyped_env M w p n u) w.room None (record { memory = w.memory; queued = w.counts.queued; moments = [] }) (retype M w p u).world.records)) (ap (λ (z : World C). z.counts.waits) wq) (ap (λ (z : World C). z.counts.taken) wq)
  shut ms w h f t w' (circle x d rest a q c b gq tq wq) =
      on_front_lem ms w w' t x rest h a q (inl (told_none t _ tq (chain_none w x))) (ap (λ (z : World C). z.counts.waits) wq) (ap (λ (z : World C). z.counts.taken) wq)
  shut ms w h f t w' (no_room x d rest a q c o b room gq tq wq) =
      on_front_lem ms w w' t x rest h a q (inl (told_none t _ tq (chain_none w x))) (ap (λ (z : World C). z.counts.waits) wq) (ap (λ (z : World C). z.counts.taken) wq)
  shut ms w h f t w' (rewrite_fault x rest ks c v g a q cv fo r gq tq wq) =
      on_front_lem ms w w' t x rest h a q (inr (ap (λ (z : Told M). R z.moments) tq ∙ rewrites_one w x [] refl, cv, fo)) (ap (λ (z : World C). z.counts.waits) wq) (ap (λ (z : World C). z.counts.taken) wq)
  shut ms w h f t w' (rewrite_batch x rest ks c v g a q cv fo r k gq tq wq) =
      let new = (rewritten_batch M w x rest c v).load.moments in
      on_front_lem ms w w' t x rest h a q
      (inr (ap (λ (z : Told M). R z.moments) tq ∙ rewrites_one w x new (batch_quiet (left_env M c v) w.room (Some x) (record { memory = with_lists w.memory rest (states_taken M w x); queued = w.counts.queued; moments = [] }) v.records), cv, fo))
      (ap (λ (z : World C). z.counts.waits) wq) (ap (λ (z : World C). z.counts.taken) wq)

  pub shut_few : (ms : List (Moment (real M))) (w : World C) → Held M ms w → (f : Failure) (t : Told M) (w' : World C) → Fails M w f t w' → Few M (ms ++ t.moments) w'.counts
  shut_few ms w h f t w' x =
      let z = shut ms w h f t w' x in
      let n = counted_fault M ms w h.reached h.known h.counted f t w' x in
      record {
        counted = n;
        waits_few = subst (λ k. 2 * w'.counts.waits ≤ k * (k - 1)) (sym n) z.waits_few;
        taken_few = subst (λ k. w'.counts.taken ≤ 2 * k + 9 * w'.counts.waits) (sym n) z.taken_few;
      }
