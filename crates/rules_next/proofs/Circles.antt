-- Circle ends just the steps whose chain of first due definers never ends.
use Rattle.std.proofs.Common.{◌≡◌, ℕ, Bool, true, false, cond, ltb, List, [], ◌∷◌, ◌++◌, length, Some, None, Option, sym, refl, ap, ◌∙◌, arith}
use mathlib.Core.Option.{some}
use Rattle.model.specs.declared.ids.OpId.{OpId}
use Rattle.model.specs.declared.ids.IRNode.{IRNode}
use Rattle.model.specs.declared.ids.IRNode.TheVariants as node
use Rattle.calls.specs.declared.events.RecorderEvent.{RecorderEvent}
use Rattle.law.specs.Machine.{Moment, newly}
use Rattle.law.proofs.Lawful.{lawful}
use Rattle.rules.specs.declared.interface.ConversionFault.{ConversionFault}
use Rattle.rules_next.specs.declared.interface.Fault.{Fault}
use Rattle.rules_next.specs.declared.interface.Fault.TheVariants as fault
use Rattle.rules_next.specs.declared.interface.Failure.{Failure}
use Rattle.rules_next.specs.Meaning.{Meaning}
use Rattle.rules.specs.Histories.{History, recorded}
use Rattle.rules.specs.Setting.{Env, inserted}
use Rattle.rules_next.specs.Setting.{real}
use Rattle.rules.specs.Driver.{Room, model_of, marks_of, with_states}
use Rattle.rules_next.specs.Driver.{World, Load, Handled, mark_all_erased, fine, stops, onward, and_then, keep_types, record_types, laid, unlaid, meet_node, meet_nodes, forget_dead, handle}
use Rattle.rules.specs.Rules.{with_lists}
use Rattle.rules_next.specs.Rules.{Told, Step, Fails, type_fault, type_batch, circle, no_room, rewrite_fault, rewrite_batch, at_op, beyond, retype, retyped_env, left_env, states_taken}
use Rattle.rules_next.specs.View.{view}
use Rattle.rules_next.specs.Law.{Tries, Endless, CircleExact}
use Rattle.rules_next.proofs.Reals.{laws}
use Rattle.rules.proofs.Marking.{is_queued_lem}
use Rattle.rules_next.proofs.Deciding.{Ended, fell, picks_of, decide, step_decides, fault_decides}
use Rattle.rules_next.proofs.Held.{Held}

-- a fault that is not Circle
abbrev Other : Option Fault → Type 0
Other None = Unit {0}
Other (Some f) = f ≡ fault.Circle → ⊥

full_other : fault.Full ≡ fault.Circle → ⊥
full_other e = let z : ◌≡◌ {A = ℕ} 0 1 = cc in omega arith

history_other : fault.HistoryFull ≡ fault.Circle → ⊥
history_other e = let z : ◌≡◌ {A = ℕ} 0 1 = cc in omega arith

conversion_other : (f : ConversionFault) → fault.Conversion f ≡ fault.Circle → ⊥
conversion_other f e = let z : ◌≡◌ {A = ℕ} 0 1 = cc in omega arith

module _ {C : Type 0} (M : Meaning C) where
  -- no batch ends in Circle
  then_other : (q : Option Fault) (l : Load M) (f : Load M → Handled M) → Other q → Other (f l).fault → Other (onward M q l f).fault
  then_other None l f one more = more
  then_other (Some e) l f one more = one

  kept_other : (l : Load M) (q : Option (List History)) → Other (keep_types M l q).fault
  kept_other l None = history_other
  kept_other l (Some hs) = tt

  types_other : (l : Load M) (es : List RecorderEvent) → Other (record_types M l es).fault
  types_other l [] = tt
  types_other l (e ∷ es) =
      let k = keep_types M l (recorded l.memory.histories e) in
      then_other k.fault k.load (λ k. record_types M k es) (kept_other l (recorded l.memory.histories e)) (types_other k.load es)

  op_other : (b c : Bool) (j k i : Load M) → Other (cond b (cond c (fine M j) (stops M k fault.Full)) (fine M i)).fault
  op_other true true j k i = tt
  op_other true false j k i = full_other
  op_other false c j k i = tt

  block_other : (c : Bool) (j k : Load M) → Other (cond c (fine M j) (stops M k fault.Full)).fault
  block_other true j k = tt
  block_other false j k = full_other

  node_other : (e : Env C) (room : Room) (hand : Option OpId) (l : Load M) (n : IRNode) → Other (meet_node M e room hand l n).fault
  node_other e room hand l (node.Operation o) = op_other (newly (real M) e (marks_of l.memory.states) o) (ltb (length l.memory.worklist) room.entries) (laid M e hand l o) (unlaid M e l o) (unlaid M e l o)
  node_other e room hand l (node.BasicBlock b) = block_other (ltb (length l.memory.pending) room.blocks) _ l
  node_other e room hand l (node.Region r) = tt

  nodes_other : (e : Env C) (room : Room) (hand : Option OpId) (l : Load M) (ns : List IRNode) → Other (meet_nodes M e room hand l ns).fault
  nodes_other e room hand l [] = tt
  nodes_other e room hand l (n ∷ ns) =
      let k = meet_node M e room hand l n in
      then_other k.fault k.load (λ k. meet_nodes M e room hand k ns) (node_other e room hand l n) (nodes_other e room hand k.load ns)

  batch_other : (e : Env C) (room : Room) (hand : Option OpId) (l : Load M) (es : List RecorderEvent) → Other (handle M e room hand l es).fault
  batch_other e room hand l es =
      let l1 : Load M = record { memory = with_states l.memory (mark_all_erased (model_of e) l.memory.states es); queued = l.queued; moments = l.moments } in
      let h = record_types M l1 es in
      let k = meet_nodes M e room hand h.load (inserted es) in
      then_other h.fault h.load (λ k. and_then M (meet_nodes M e room hand k (inserted es)) (λ j. fine M (forget_dead M (model_of e) j))) (types_other l1 es)
      (then_other k.fault k.load (λ j. fine M (forget_dead M (model_of e) j)) (nodes_other e room hand h.load (inserted es)) tt)

  batch_some : (q : Option Fault) (f : Fault) → Other q → q ≡ Some f → f ≡ fault.Circle → ⊥
  batch_some None f o e c = let z : ◌≡◌ {A = ℕ} 0 1 = cc in omega arith
  batch_some (Some g) f o e c = let same : f ≡ g = cc in o (sym same ∙ c)

  -- where the chain has a member 512, the step can only end in Circle
  module _ (w : World C) (x : OpId) (y : Tries M w x) (n : Endless M w x) where
    abbrev at_circle : (t : Told M) × (w' : World C) × Fails M w (at_op M x fault.Circle) t w'
    at_circle = (_, _, circle x (n 512).0 y.rest y.takes y.queued y.can_convert (n 512).1 refl refl refl)

    circle_decides : (z : List (List _)) → decide M w (picks_of M z) ≡ fell M (at_op M x fault.Circle) at_circle.0 at_circle.1
    circle_decides z = fault_decides M w (at_op M x fault.Circle) at_circle.0 at_circle.1 z at_circle.2

    no_step : (t : Told M) (w' : World C) → Step M w t w' → ⊥
    no_step t w' s =
        let e : ◌≡◌ {A = Option Failure} (Some (at_op M x fault.Circle)) None = ap (λ (z : Ended M). z.failure) (sym (circle_decides (t.picks ++ [])) ∙ step_decides M w t w' [] s) in
        let z : ◌≡◌ {A = ℕ} 0 1 = cc in omega arith

    no_other : (f : Failure) (t : Told M) (w' : World C) → Fails M w f t w' → f ≡ at_op M x fault.Circle
    no_other f t w' s =
        let e : ◌≡◌ {A = Option Failure} (Some (at_op M x fault.Circle)) (Some f) = ap (λ (z : Ended M). z.failure) (sym (circle_decides (t.picks ++ [])) ∙ fault_decides M w f t w' [] s) in
        cc

  -- and only with such a chain does one
  pub only_with : (w : World C) (f : Failure) (t : Told M) (w' : World C) → Fails M w f t w' → f.fault ≡ fault.Circle
      → (x : OpId) × (f ≡ at_op M x fault.Circle) × Tries M w x × (d : OpId) × (beyond M w x ≡ some d)
  only_with w f t w' (type_fault p rest n g a y r gq tq wq) e = absurd (conversion_other g (ap (λ (z : Failure). z.fault) (sym gq) ∙ e))
  only_with w f t w' (type_batch p rest n u g a y r s d j gq tq wq) e =
      absurd (batch_some _ g (batch_other (retyped_env M w p n u) w.room None (record { memory = w.memory; queued = w.counts.queued; moments = [] }) (retype M w p u).world.records) j (ap (λ (z : Failure). z.fault) (sym gq) ∙ e))
  only_with w f t w' (circle x d rest a q c b gq tq wq) e = (
    x,
    gq,
    record { rest = rest; takes = a; queued = q; can_convert = c },
    d,
    b,
  )
  only_with w f t w' (no_room x d rest a q c o b room gq tq wq) e = absurd (full_other (ap (λ (z : Failure). z.fault) (sym gq) ∙ e))
  only_with w f t w' (rewrite_fault x rest ks c v g a q cv fo r gq tq wq) e = absurd (conversion_other g (ap (λ (z : Failure). z.fault) (sym gq) ∙ e))
  only_with w f t w' (rewrite_batch x rest ks c v g a q cv fo r j gq tq wq) e =
      absurd (batch_some _ g (batch_other (left_env M c v) w.room (Some x) (record { memory = with_lists w.memory rest (states_taken M w x); queued = w.counts.queued; moments = [] }) v.records) j (ap (λ (z : Failure). z.fault) (sym gq) ∙ e))

  pub circle_exact : (ms : List (Moment (real M))) (w : World C) → Held M ms w → CircleExact M w
  circle_exact ms w h = record {
    only_then = λ f t w' s e.
        let z = only_with w f t w' s e in
        (z.0, z.1, z.2, (lawful (real M) (laws M) ms (view M w) h.reached).3.never z.0 z.3 (is_queued_lem (model_of w.env) w.memory.states z.0 z.2.queued).0 z.4);
    no_step = no_step w;
    no_other = no_other w;
    always_then = at_circle w;
  }
