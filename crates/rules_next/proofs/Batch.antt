-- Handling a batch does what the law says of the operations that are met.
use Rattle.std.proofs.Common.{◌≡◌, ℕ, ◌+◌, Bool, true, false, cond, ◌&&◌, ltb, List, [], ◌∷◌, ◌++◌, length, is_some, Some, None, Option, sym, refl, ap, ◌∙◌, subst, inl, inr, append_assoc, append-nil, arith}
use Rattle.std.proofs.lemmas.Bool.{cases_Bool, cond-true, cond-false}
use Rattle.model.specs.declared.ids.OpId.{OpId}
use Rattle.model.specs.declared.ids.BlockId.{BlockId}
use Rattle.model.specs.declared.ids.IRNode.{IRNode}
use Rattle.model.specs.declared.ids.IRNode.TheVariants as node
use Rattle.model.specs.Model.{Model, find_op}
use Rattle.calls.specs.declared.events.RecorderEvent.{RecorderEvent}
use Rattle.law.specs.Machine.{Mark, unmarked, queued, asking, is_unmarked, met, asked, queues, Agree, put, ask, askable, newly, queue_each, mark_new, lay_new, mark_all, lay_all, meet_all}
use Rattle.law.specs.Law.{queue_of, queues_of}
use Rattle.law.proofs.Marks.{cases_op, put_at, put_off, newly_parts}
use Rattle.law.proofs.Moments.{each_append, each_ask, queues_meet_all}
use Rattle.rules.specs.declared.interface.OpEvent.TheVariants as happens
use Rattle.rules.specs.declared.interface.StateEntry.{StateEntry}
use Rattle.rules_next.specs.declared.interface.Fault.{Fault}
use Rattle.rules_next.specs.declared.interface.Fault.TheVariants as fault
use Rattle.rules.specs.States.{moved}
use Rattle.rules_next.specs.Meaning.{Meaning}
use Rattle.rules.specs.Histories.{History, recorded}
use Rattle.rules.specs.Setting.{Env, inserted, ops_among}
use Rattle.rules_next.specs.Setting.{real}
use Rattle.rules.specs.Driver.{Room, model_of, kept_state, mark_of, marks_of, with_states}
use Rattle.rules_next.specs.Driver.{Load, Handled, noted, mark_all_erased, fine, stops, onward, and_then, keep_types, record_types, unlaid, laid, meet_op, meet_block, meet_nodes, forget_dead, handle}
use Rattle.rules.proofs.Marking.{Alive, Known, unmarked_state}
use Rattle.rules_next.proofs.Marking.{noted_at, noted_off, known_noted}
use Rattle.rules_next.proofs.Reals.{laws}
use Rattle.rules.proofs.Batch.{new_ones}

none_some : {A : Type 0} (f : Fault) → Some f ≡ None → A
none_some f e = let z : ◌≡◌ {A = ℕ} 0 1 = cc in absurd (omega arith)

module _ {C : Type 0} (M : Meaning C) where
  -- what comes after a part that went well
  pub record Onto (q : Option Fault) (l : Load M) (f : Load M → Handled M) : Type 0 where
    pub went : q ≡ None
    pub goes : (f l).fault ≡ None
    pub is : onward M q l f ≡ f l

  pub onto : (q : Option Fault) (l : Load M) (f : Load M → Handled M) → (onward M q l f).fault ≡ None → Onto q l f
  onto None l f h = record { went = refl; goes = h; is = refl }
  onto (Some e) l f h = none_some e h

  -- the histories alone change
  pub record Typed (l k : Load M) : Type 0 where
    pub worklist : k.memory.worklist ≡ l.memory.worklist
    pub pending : k.memory.pending ≡ l.memory.pending
    pub states : k.memory.states ≡ l.memory.states
    pub queued : k.queued ≡ l.queued
    pub moments : k.moments ≡ l.moments

  typed_one : (l : Load M) (q : Option (List History)) → Typed l (keep_types M l q).load
  typed_one l None = record { worklist = refl; pending = refl; states = refl; queued = refl; moments = refl }
  typed_one l (Some hs) = record { worklist = refl; pending = refl; states = refl; queued = refl; moments = refl }

  typed_trans : (l k j : Load M) → Typed l k → Typed k j → Typed l j
  typed_trans l k j p q = record { worklist = q.worklist ∙ p.worklist; pending = q.pending ∙ p.pending; states = q.states ∙ p.states; queued = q.queued ∙ p.queued; moments = q.moments ∙ p.moments }

  pub types_kept : (l : Load M) (es : List RecorderEvent) → Typed l (record_types M l es).load
  types_kept l [] = record { worklist = refl; pending = refl; states = refl; queued = refl; moments = refl }
  types_kept l (e ∷ es) =
      let h = keep_types M l (recorded l.memory.histories e) in
      go h.fault h.load (typed_one l (recorded l.memory.histories e)) (types_kept h.load es)
    where
      go : (q : Option Fault) (k : Load M) → Typed l k → Typed k (record_types M k es).load → Typed l (onward M q k (λ k. record_types M k es)).load
      go None k one more = typed_trans l k (record_types M k es).load one more
      go (Some f) k one more = one

module _ {C : Type 0} (M : Meaning C) (e : Env C) (room : Room) (hand : Option OpId) where
  abbrev m : Model
  m = model_of e

  same_newly : (st st' : OpId → Mark) → Agree (real M) e st st' → (o : OpId) → newly (real M) e st o ≡ newly (real M) e st' o
  same_newly st st' a o = elim (cases_Bool (is_some (find_op m o))) [
    | inl l ↦ ap (λ k. is_some (find_op m o) && is_unmarked k && M.can_op e.value m o) (a o l)
    | inr d ↦ ap (λ b. b && is_unmarked (st o) && M.can_op e.value m o) d ∙ sym (ap (λ b. b && is_unmarked (st' o) && M.can_op e.value m o) d)
  ]

  same_askable : (st st' : OpId → Mark) → Agree (real M) e st st' → (o : OpId) → askable (real M) e st o ≡ askable (real M) e st' o
  same_askable st st' a o = elim (cases_Bool (is_some (find_op m o))) [
    | inl l ↦ ap (λ k. is_some (find_op m o) && asking k) (a o l)
    | inr d ↦ ap (λ b. b && asking (st o)) d ∙ sym (ap (λ b. b && asking (st' o)) d)
  ]

  same_ask : (st st' : OpId → Mark) → Agree (real M) e st st' → (o : OpId) → ask (real M) e st o ≡ ask (real M) e st' o
  same_ask st st' a o = ap (λ b. cond b (asked o (M.can_op e.value m o) ∷ []) []) (same_askable st st' a o)

  -- an operation is noted as queued
  agree_queued : (ks : ℕ → StateEntry) (st : OpId → Mark) (o : OpId) → Agree (real M) e (marks_of ks) st → Alive m o → marks_of ks o ≡ unmarked
      → Agree (real M) e (marks_of (noted m ks o happens.Queued)) (put (real M) st o queued)
  agree_queued ks st o a lo u y l = elim (cases_op (real M) (laws M) o y) [
    | inl q ↦ subst (λ z. marks_of (noted m ks o happens.Queued) z ≡ queued) q
        (ap mark_of (noted_at m ks o happens.Queued lo ∙ ap (λ s. moved s happens.Queued) (unmarked_state (kept_state ks o) u)))
        ∙ sym (put_at (real M) (laws M) st o queued y q)
    | inr ne ↦ ap mark_of (noted_off m ks o happens.Queued y l ne) ∙ a y l ∙ sym (put_off (real M) (laws M) st o queued y ne)
  ]

  -- from the load l to k, the operations os were met, where l has the marks st
  pub record Meets (st : OpId → Mark) (os : List OpId) (l k : Load M) : Type 0 where
    pub worklist : k.memory.worklist ≡ l.memory.worklist ++ lay_all (real M) e st os
    pub marks : Agree (real M) e (marks_of k.memory.states) (mark_all (real M) e st os)
    pub moments : k.moments ≡ l.moments ++ meet_all (real M) e st os
    pub queued : k.queued ≡ l.queued + new_ones hand (lay_all (real M) e st os)
    pub known : Known m k.memory.states

  pub meets_none : (st : OpId → Mark) (l k : Load M) → k.memory.worklist ≡ l.memory.worklist → k.memory.states ≡ l.memory.states → k.moments ≡ l.moments → k.queued ≡ l.queued
      → Agree (real M) e (marks_of l.memory.states) st → Known m l.memory.states → Meets st [] l k
  meets_none st l k w s p q a n = record {
    worklist = w ∙ sym (append-nil l.memory.worklist);
    marks = subst (λ ks. Agree (real M) e (marks_of ks) st) (sym s) a;
    moments = p ∙ sym (append-nil l.moments);
    queued = omega (arith, q);
    known = subst (Known m) (sym s) n;
  }

  new_append : (us vs : List OpId) → new_ones hand (us ++ vs) ≡ new_ones hand us + new_ones hand vs
  new_append [] vs = omega arith
  new_append (u ∷ us) vs = omega (arith, new_append us vs)

  -- one operation, and then others
  meets_more : (st : OpId → Mark) (o : OpId) (os : List OpId) (l k j : Load M) → Meets st (o ∷ []) l k → Meets (mark_new (real M) e st o) os k j → Meets st (o ∷ os) l j
  meets_more st o os l k j p q =
      let A = lay_new (real M) e st o in
      let B = lay_all (real M) e (mark_new (real M) e st o) os in
      let P = met o ∷ ask (real M) e st o ++ queue_each (real M) A in
      let Q = meet_all (real M) e (mark_new (real M) e st o) os in
      let one : lay_all (real M) e st (o ∷ []) ≡ A = append-nil A in
      record {
        worklist = q.worklist ∙ ap (λ w. w ++ B) (p.worklist ∙ ap (λ z. l.memory.worklist ++ z) one) ∙ append_assoc l.memory.worklist A B;
        marks = q.marks;
        moments = q.moments ∙ ap (λ w. w ++ Q) (p.moments ∙ ap (λ z. l.moments ++ z) (append-nil P)) ∙ append_assoc l.moments P Q;
        queued = omega (arith, q.queued, p.queued, ap (new_ones hand) one, new_append A B);
        known = q.known;
      }

  met_laid : (st : OpId → Mark) (o : OpId) (l : Load M) → Agree (real M) e (marks_of l.memory.states) st → Known m l.memory.states
      → newly (real M) e (marks_of l.memory.states) o ≡ true → Meets st (o ∷ []) l (laid M e hand l o)
  met_laid st o l a n h =
      let ks = l.memory.states in
      let h' : newly (real M) e st o ≡ true = sym (same_newly (marks_of ks) st a o) ∙ h in
      let ps = newly_parts (real M) (laws M) e (marks_of ks) o h in
      let lay : lay_new (real M) e st o ≡ o ∷ [] = cond-true (newly (real M) e st o) (o ∷ []) [] h' in
      let lays : lay_all (real M) e st (o ∷ []) ≡ o ∷ [] = append-nil (lay_new (real M) e st o) ∙ lay in
      record {
        worklist = ap (λ z. l.memory.worklist ++ z) (sym lays);
        marks = subst (λ f. Agree (real M) e (marks_of (noted m ks o happens.Queued)) f) (sym (cond-true (newly (real M) e st o) (put (real M) st o queued) st h')) (agree_queued ks st o a ps.0 ps.1);
        moments = append_assoc l.moments (met o ∷ ask (real M) e (marks_of ks) o) (queues o ∷ [])
            ∙ ap (λ z. l.moments ++ z) (ap (λ z. met o ∷ z ++ queues o ∷ []) (same_ask (marks_of ks) st a o) ∙ ap (λ z. met o ∷ ask (real M) e st o ++ queue_each (real M) z) (sym lay) ∙ sym (append-nil (met o ∷ ask (real M) e st o ++ queue_each (real M) (lay_new (real M) e st o))));
        queued = omega (arith, ap (new_ones hand) lays);
        known = known_noted m ks o happens.Queued (inl ps.0) n;
      }

  met_unlaid : (st : OpId → Mark) (o : OpId) (l : Load M) → Agree (real M) e (marks_of l.memory.states) st → Known m l.memory.states
      → newly (real M) e (marks_of l.memory.states) o ≡ false → Meets st (o ∷ []) l (unlaid M e l o)
  met_unlaid st o l a n h =
      let ks = l.memory.states in
      let h' : newly (real M) e st o ≡ false = sym (same_newly (marks_of ks) st a o) ∙ h in
      let lay : lay_new (real M) e st o ≡ [] = cond-false (newly (real M) e st o) (o ∷ []) [] h' in
      let lays : lay_all (real M) e st (o ∷ []) ≡ [] = append-nil (lay_new (real M) e st o) ∙ lay in
      record {
        worklist = sym (append-nil l.memory.worklist) ∙ ap (λ z. l.memory.worklist ++ z) (sym lays);
        marks = subst (λ f. Agree (real M) e (marks_of ks) f) (sym (cond-false (newly (real M) e st o) (put (real M) st o queued) st h')) a;
        moments = ap (λ z. l.moments ++ z)
            (ap (λ z. met o ∷ z) (same_ask (marks_of ks) st a o) ∙ sym (append-nil (met o ∷ ask (real M) e st o)) ∙ ap (λ z. met o ∷ ask (real M) e st o ++ queue_each (real M) z) (sym lay) ∙ sym (append-nil (met o ∷ ask (real M) e st o ++ queue_each (real M) (lay_new (real M) e st o))));
        queued = omega (arith, ap (new_ones hand) lays);
        known = n;
      }

  met_op : (st : OpId → Mark) (o : OpId) (l : Load M) → Agree (real M) e (marks_of l.memory.states) st → Known m l.memory.states
      → (meet_op M e room hand l o).fault ≡ None → Meets st (o ∷ []) l (meet_op M e room hand l o).load
  met_op st o l a n h = at (newly (real M) e (marks_of l.memory.states) o) (ltb (length l.memory.worklist) room.entries) refl h
    where
      at : (b c : Bool) → newly (real M) e (marks_of l.memory.states) o ≡ b
          → (cond b (cond c (fine M (laid M e hand l o)) (stops M (unlaid M e l o) fault.Full)) (fine M (unlaid M e l o))).fault ≡ None
          → Meets st (o ∷ []) l (cond b (cond c (fine M (laid M e hand l o)) (stops M (unlaid M e l o) fault.Full)) (fine M (unlaid M e l o))).load
      at true true d h = met_laid st o l a n d
      at true false d h = none_some fault.Full h
      at false c d h = met_unlaid st o l a n d

  met_block : (st : OpId → Mark) (b : BlockId) (l : Load M) → Agree (real M) e (marks_of l.memory.states) st → Known m l.memory.states → Meets st [] l (meet_block M room l b).load
  met_block st b l a n = at (ltb (length l.memory.pending) room.blocks)
    where
      at : (c : Bool) → Meets st [] l (cond c (fine M (record { memory = record { worklist = l.memory.worklist; pending = l.memory.pending ++ record { block = b; next = 0 } ∷ []; states = l.memory.states; histories = l.memory.histories }; queued = l.queued; moments = l.moments })) (stops M l fault.Full)).load
      at true = meets_none st l _ refl refl refl refl a n
      at false = meets_none st l l refl refl refl refl a n

  -- nothing met, and then others
  meets_then : (st : OpId → Mark) (os : List OpId) (l k j : Load M) → Meets st [] l k → Meets st os k j → Meets st os l j
  meets_then st os l k j p q = record {
    worklist = q.worklist ∙ ap (λ w. w ++ lay_all (real M) e st os) (p.worklist ∙ append-nil l.memory.worklist);
    marks = q.marks;
    moments = q.moments ∙ ap (λ w. w ++ meet_all (real M) e st os) (p.moments ∙ append-nil l.moments);
    queued = omega (arith, q.queued, p.queued);
    known = q.known;
  }

  pub met_nodes : (ns : List IRNode) (st : OpId → Mark) (l : Load M) → Agree (real M) e (marks_of l.memory.states) st → Known m l.memory.states
      → (meet_nodes M e room hand l ns).fault ≡ None → Meets st (ops_among ns) l (meet_nodes M e room hand l ns).load
  met_nodes [] st l a n h = meets_none st l l refl refl refl refl a n
  met_nodes (node.Operation o ∷ ns) st l a n h =
      let f : Load M → Handled M = λ k. meet_nodes M e room hand k ns in
      let k = (meet_op M e room hand l o).load in
      let w = onto M (meet_op M e room hand l o).fault k f h in
      let one = met_op st o l a n w.went in
      subst (λ (j : Handled M). Meets st (o ∷ ops_among ns) l j.load) (sym w.is)
      (meets_more st o (ops_among ns) l k (f k).load one (met_nodes ns (mark_new (real M) e st o) k one.marks one.known w.goes))
  met_nodes (node.BasicBlock b ∷ ns) st l a n h =
      let f : Load M → Handled M = λ k. meet_nodes M e room hand k ns in
      let k = (meet_block M room l b).load in
      let w = onto M (meet_block M room l b).fault k f h in
      let one = met_block st b l a n in
      subst (λ (j : Handled M). Meets st (ops_among ns) l j.load) (sym w.is) (meets_then st (ops_among ns) l k (f k).load one (met_nodes ns st k one.marks one.known w.goes))
  met_nodes (node.Region r ∷ ns) st l a n h = met_nodes ns st l a n h

  -- a whole batch, where the marks after the erasures are st
  pub handled : (es : List RecorderEvent) (st : OpId → Mark) (l : Load M) → Agree (real M) e (marks_of (mark_all_erased m l.memory.states es)) st → Known m (mark_all_erased m l.memory.states es)
      → (handle M e room hand l es).fault ≡ None → Meets st (ops_among (inserted es)) l (handle M e room hand l es).load
  handled es st l a n h =
      let l1 : Load M = record { memory = with_states l.memory (mark_all_erased m l.memory.states es); queued = l.queued; moments = l.moments } in
      let h2 = record_types M l1 es in
      let l2 = h2.load in
      let t = types_kept M l1 es in
      let g : Load M → Handled M = λ k. fine M (forget_dead M m k) in
      let f : Load M → Handled M = λ k. and_then M (meet_nodes M e room hand k (inserted es)) g in
      let w = onto M h2.fault l2 f h in
      let l3 = (meet_nodes M e room hand l2 (inserted es)).load in
      let v = onto M (meet_nodes M e room hand l2 (inserted es)).fault l3 g w.goes in
      let ms = met_nodes (inserted es) st l2 (subst (λ ks. Agree (real M) e (marks_of ks) st) (sym t.states) a) (subst (Known m) (sym t.states) n) v.went in
      subst (λ (j : Handled M). Meets st (ops_among (inserted es)) l j.load) (sym (w.is ∙ v.is)) (record {
        worklist = ms.worklist ∙ ap (λ z. z ++ lay_all (real M) e st (ops_among (inserted es))) t.worklist;
        marks = ms.marks;
        moments = ms.moments ∙ ap (λ z. z ++ meet_all (real M) e st (ops_among (inserted es))) t.moments;
        queued = omega (arith, ms.queued, t.queued);
        known = ms.known;
      })

  -- A batch may stop midway. Up to there it met these operations; one that found no room was met too, but not laid.
  pub record Lays (st : OpId → Mark) (l k : Load M) : Type 0 where
    pub part : List OpId
    pub queues : queues_of {S = real M} k.moments ≡ queues_of {S = real M} l.moments ++ lay_all (real M) e st part
    pub queued : k.queued ≡ l.queued + new_ones hand (lay_all (real M) e st part)

  lays_none : (st : OpId → Mark) (l k : Load M) → queues_of {S = real M} k.moments ≡ queues_of {S = real M} l.moments → k.queued ≡ l.queued → Lays st l k
  lays_none st l k q n = record { part = []; queues = q ∙ sym (append-nil (queues_of {S = real M} l.moments)); queued = omega (arith, n) }

  unlaid_none : (l : Load M) (o : OpId) → queues_of {S = real M} (unlaid M e l o).moments ≡ queues_of {S = real M} l.moments
  unlaid_none l o =
      each_append (real M) queue_of l.moments (met o ∷ ask (real M) e (marks_of l.memory.states) o)
      ∙ ap (λ z. queues_of {S = real M} l.moments ++ z) (each_ask (real M) queue_of (λ x b. refl) e (marks_of l.memory.states) o) ∙ append-nil (queues_of {S = real M} l.moments)

  queues_met : (st : OpId → Mark) (os : List OpId) (l k : Load M) → Meets st os l k → queues_of {S = real M} k.moments ≡ queues_of {S = real M} l.moments ++ lay_all (real M) e st os
  queues_met st os l k p =
      ap (λ z. queues_of {S = real M} z) p.moments ∙ each_append (real M) queue_of l.moments (meet_all (real M) e st os) ∙ ap (λ z. queues_of {S = real M} l.moments ++ z) (queues_meet_all (real M) e st os)

  lays_more : (st : OpId → Mark) (o : OpId) (l k j : Load M) → Meets st (o ∷ []) l k → Lays (mark_new (real M) e st o) k j → Lays st l j
  lays_more st o l k j p q =
      let A = lay_new (real M) e st o in
      let B = lay_all (real M) e (mark_new (real M) e st o) q.part in
      let one : lay_all (real M) e st (o ∷ []) ≡ A = append-nil A in
      record {
        part = o ∷ q.part;
        queues = q.queues ∙ ap (λ z. z ++ B) (queues_met st (o ∷ []) l k p ∙ ap (λ z. queues_of {S = real M} l.moments ++ z) one) ∙ append_assoc (queues_of {S = real M} l.moments) A B;
        queued = omega (arith, q.queued, p.queued, ap (new_ones hand) one, new_append A B);
      }

  lays_then : (st : OpId → Mark) (l k j : Load M) → k.moments ≡ l.moments → k.queued ≡ l.queued → Lays st k j → Lays st l j
  lays_then st l k j m n q = record { part = q.part; queues = q.queues ∙ ap (λ z. queues_of {S = real M} z ++ lay_all (real M) e st q.part) m; queued = omega (arith, q.queued, n) }

  laid_nodes : (ns : List IRNode) (st : OpId → Mark) (l : Load M) → Agree (real M) e (marks_of l.memory.states) st → Known m l.memory.states → Lays st l (meet_nodes M e room hand l ns).load
  laid_nodes [] st l a n = lays_none st l l refl refl
  laid_nodes (node.Operation o ∷ ns) st l a n = at (newly (real M) e (marks_of l.memory.states) o) (ltb (length l.memory.worklist) room.entries) refl (laid_nodes ns)
    where
      rest : Load M → Handled M
      rest k = meet_nodes M e room hand k ns

      at : (b c : Bool) → newly (real M) e (marks_of l.memory.states) o ≡ b
          → ((st : OpId → Mark) (l : Load M) → Agree (real M) e (marks_of l.memory.states) st → Known m l.memory.states → Lays st l (rest l).load)
          → Lays st l (and_then M (cond b (cond c (fine M (laid M e hand l o)) (stops M (unlaid M e l o) fault.Full)) (fine M (unlaid M e l o))) rest).load
      at true true d more = let one = met_laid st o l a n d in lays_more st o l (laid M e hand l o) (rest (laid M e hand l o)).load one (more (mark_new (real M) e st o) (laid M e hand l o) one.marks one.known)
      at true false d more = lays_none st l (unlaid M e l o) (unlaid_none l o) refl
      at false c d more = let one = met_unlaid st o l a n d in lays_more st o l (unlaid M e l o) (rest (unlaid M e l o)).load one (more (mark_new (real M) e st o) (unlaid M e l o) one.marks one.known)
  laid_nodes (node.BasicBlock b ∷ ns) st l a n = at (ltb (length l.memory.pending) room.blocks) (laid_nodes ns)
    where
      rest : Load M → Handled M
      rest k = meet_nodes M e room hand k ns

      next : Load M
      next = record { memory = record { worklist = l.memory.worklist; pending = l.memory.pending ++ record { block = b; next = 0 } ∷ []; states = l.memory.states; histories = l.memory.histories }; queued = l.queued; moments = l.moments }

      at : (c : Bool) → ((st : OpId → Mark) (l : Load M) → Agree (real M) e (marks_of l.memory.states) st → Known m l.memory.states → Lays st l (rest l).load)
          → Lays st l (and_then M (cond c (fine M next) (stops M l fault.Full)) rest).load
      at true more = lays_then st l next (rest next).load refl refl (more st next a n)
      at false more = lays_none st l l refl refl
  laid_nodes (node.Region r ∷ ns) st l a n = laid_nodes ns st l a n

  -- a whole batch, however it ends
  pub laid_batch : (es : List RecorderEvent) (st : OpId → Mark) (l : Load M) → Agree (real M) e (marks_of (mark_all_erased m l.memory.states es)) st → Known m (mark_all_erased m l.memory.states es)
      → Lays st l (handle M e room hand l es).load
  laid_batch es st l a n =
      let l1 : Load M = record { memory = with_states l.memory (mark_all_erased m l.memory.states es); queued = l.queued; moments = l.moments } in
      let h = record_types M l1 es in
      let t = types_kept M l1 es in
      go h.fault h.load t.moments t.queued (laid_nodes (inserted es) st h.load (subst (λ ks. Agree (real M) e (marks_of ks) st) (sym t.states) a) (subst (Known m) (sym t.states) n))
    where
      end : (k : Load M) (q : Option Fault) (j : Load M) → Lays st k j → Lays st k (onward M q j (λ j. fine M (forget_dead M m j))).load
      end k None j h = record { part = h.part; queues = h.queues; queued = h.queued }
      end k (Some f) j h = h

      go : (q : Option Fault) (k : Load M) → k.moments ≡ l.moments → k.queued ≡ l.queued → Lays st k (meet_nodes M e room hand k (inserted es)).load
          → Lays st l (onward M q k (λ k. and_then M (meet_nodes M e room hand k (inserted es)) (λ j. fine M (forget_dead M m j)))).load
      go None k p q h = lays_then st l k _ p q (end k (meet_nodes M e room hand k (inserted es)).fault (meet_nodes M e room hand k (inserted es)).load h)
      go (Some f) k p q h = lays_none st l k (ap (λ z. queues_of {S = real M} z) p) q

  -- a batch that inserts nothing lays nothing
  pub quiet_batch : (es : List RecorderEvent) (l : Load M) → inserted es ≡ [] → ((handle M e room hand l es).load.queued ≡ l.queued) × ((handle M e room hand l es).load.moments ≡ l.moments)
  quiet_batch es l z =
      let l1 : Load M = record { memory = with_states l.memory (mark_all_erased m l.memory.states es); queued = l.queued; moments = l.moments } in
      let t = types_kept M l1 es in
      go (record_types M l1 es).fault (record_types M l1 es).load (inserted es) z t.queued t.moments
    where
      go : (q : Option Fault) (k : Load M) (ns : List IRNode) → ns ≡ [] → k.queued ≡ l.queued → k.moments ≡ l.moments
          → ((onward M q k (λ k. and_then M (meet_nodes M e room hand k ns) (λ j. fine M (forget_dead M m j)))).load.queued ≡ l.queued) × ((onward M q k (λ k. and_then M (meet_nodes M e room hand k ns) (λ j. fine M (forget_dead M m j)))).load.moments ≡ l.moments)
      go (Some f) k ns d p q = (p, q)
      go None k ns d p q = (ap (λ z. (and_then M (meet_nodes M e room hand k z) (λ j. fine M (forget_dead M m j))).load.queued) d ∙ p, ap (λ z. (and_then M (meet_nodes M e room hand k z) (λ j. fine M (forget_dead M m j))).load.moments) d ∙ q)
