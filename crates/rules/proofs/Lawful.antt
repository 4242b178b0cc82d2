-- The law holds of the driver.
use Rattle.std.proofs.Common.{◌≡◌, ℕ, Bool, true, false, cond, ◌||◌, eqb, List, [], ◌∷◌, ◌++◌, length, None, Ok, Err, Result, sym, refl, ap, ◌∙◌, subst, inl, inr, append_assoc, append-nil, arith}
use Rattle.std.proofs.lemmas.Bool.{both_ways, cond-true, or_parts}
use Rattle.slots.proofs.CellLaws.{found_is_live}
use Rattle.model.specs.declared.ids.OpId.{OpId}
use Rattle.model.specs.declared.ids.IRNode.{IRNode}
use Rattle.model.specs.declared.ids.IRNode.TheVariants as node
use Rattle.model.specs.Model.{Model, is_value}
use Rattle.model.specs.Sound.{Among}
use Rattle.model.specs.Walk.{walk}
use Rattle.model.proofs.Meeting.{walk_alive}
use Rattle.law.specs.Lists.{In}
use Rattle.law.specs.Machine.{unmarked, Moment, lay_all, meet_all, Reached}
use Rattle.law.specs.Machine as machine
use Rattle.law.specs.Law.{ever_of}
use Rattle.law.proofs.Once.{good}
use Rattle.law.proofs.Views.{same_state, count_begun}
use Rattle.law.proofs.Lawful.{lawful}
use Rattle.rules.specs.declared.interface.OpState.TheVariants as state
use Rattle.rules.specs.declared.interface.IRStatus.{IRStatus}
use Rattle.rules.specs.declared.interface.Answer.{Answer}
use Rattle.rules.specs.declared.interface.Answer.TheVariants as answer
use Rattle.rules.specs.declared.interface.Failure.{Failure}
use Rattle.rules.specs.Meaning.{Meaning}
use Rattle.rules.specs.Setting.{real, Good, ops_among}
use Rattle.rules.specs.Driver.{Pending, World, Room, model_of, kept_state, mark_of, marks_of, argument, shed}
use Rattle.rules.specs.Rules.{Told, Run, start, more, Ran, not_open, is_done, stopped, closes, not_live, unfinished, is_full, begins, tidied, done_world, has_work, some_record, clear_env, no_memory, begun_world}
use Rattle.rules.specs.Rules as rules
use Rattle.rules.specs.View.{view}
use Rattle.rules.specs.Law as law
use Rattle.rules.specs.Law.{Reaches, goes, tidies, rests, Lawfully}
use Rattle.rules.proofs.Reals.{laws}
use Rattle.rules.proofs.Marking.{Alive, Known}
use Rattle.rules.proofs.Batch.{met_nodes}
use Rattle.rules.proofs.Follow.{follow}
use Rattle.rules.proofs.Counting.{new_all, counted_step}

-- dropping pending blocks twice is dropping them once
pub shed_again : (m : Model) (ps : List Pending) → shed m (shed m ps) ≡ shed m ps
shed_again m [] = refl
shed_again m (p ∷ ps) = at (is_value m (argument p)) refl (shed_again m ps)
  where
    at : (b : Bool) → is_value m (argument p) ≡ b → shed m (shed m ps) ≡ shed m ps → shed m (cond b (p ∷ ps) (shed m ps)) ≡ cond b (p ∷ ps) (shed m ps)
    at true e h = cond-true (is_value m (argument p)) (p ∷ ps) (shed m ps) e
    at false e h = h

ok_err : {A X : Type 0} (n : X) (f : Failure) → ◌≡◌ {A = Result X Failure} (Ok n) (Err f) → A
ok_err n f e = let z : ◌≡◌ {A = ℕ} 0 1 = cc in absurd (omega arith)

blank : (y : OpId) → kept_state (λ _. record { generation = 0; state = state.Unmarked }) y ≡ state.Unmarked
blank y = at (eqb 0 y.generation)
  where
    at : (b : Bool) → cond b state.Unmarked state.Unmarked ≡ state.Unmarked
    at true = refl
    at false = refl

-- an operation among nodes
op_among : (y : OpId) (ns : List IRNode) → In y (ops_among ns) → Among (node.Operation y) ns
op_among y [] i = absurd i
op_among y (node.Operation o ∷ ns) (inl q) = inl (ap node.Operation q)
op_among y (node.Operation o ∷ ns) (inr i) = inr (op_among y ns i)
op_among y (node.BasicBlock b ∷ ns) i = inr (op_among y ns i)
op_among y (node.Region r ∷ ns) i = inr (op_among y ns i)

-- no block is pending and no entry is there
no_work : {X : Type 0} (xs : List X) → some_record xs ≡ false → xs ≡ []
no_work [] e = refl
no_work (x ∷ xs) e = absurd (both_ways true e refl)

module _ {C : Type 0} (M : Meaning C) where
  pub record Held (ms : List (Moment (real M))) (w : World C) : Type 0 where
    pub reached : Reached (real M) ms (view M w)
    pub known : Known (model_of w.env) w.memory.states
    pub counted : w.counts.queued ≡ length (ever_of {S = real M} ms)

  held_view : (ms : List (Moment (real M))) (v w : World C) → view M v ≡ view M w → Known (model_of w.env) w.memory.states → w.counts.queued ≡ v.counts.queued → Held ms v → Held ms w
  held_view ms v w e k q h = record { reached = subst (Reached (real M) ms) e h.reached; known = k; counted = q ∙ h.counted }

  tidy_view : (v : World C) → view M v ≡ view M (tidied M v)
  tidy_view v = same_state (real M) (view M v) (view M (tidied M v)) refl refl refl (ap length (sym (shed_again (model_of v.env) v.memory.pending))) refl refl refl

  pub held_tidied : (ms : List (Moment (real M))) (v : World C) → Held ms v → Held ms (tidied M v)
  held_tidied ms v h = held_view ms v (tidied M v) (tidy_view v) h.known refl h

  -- the walk
  held_begun : (w : World C) (root : OpId) (room : Room) → Good (clear_env M w) → Alive (model_of w.env) root → (rules.walked M w root room).fault ≡ None → Held (rules.walked M w root room).load.moments (begun_world M w root room)
  held_begun w root room ok l h =
      let e = clear_env M w in
      let m = model_of w.env in
      let ns = walk m root.slot in
      let ws = ops_among ns in
      let ks = (no_memory M).states in
      let z = met_nodes M e room None ns (λ y. unmarked) (record { memory = no_memory M; queued = 0; moments = [] }) (λ y _. ap mark_of (blank y)) (λ y. inr (blank y)) h in
      let W = begun_world M w root room in
      let lives : (y : OpId) → In y ws → Alive m y = λ y i. walk_alive m ok.sound root.slot (found_is_live m.ops root.slot root.generation l) (node.Operation y) (op_among y ns i) in
      let first : machine.State (real M) = record { env = e; worklist = lay_all (real M) e (λ y. unmarked) ws; marks = marks_of W.memory.states; pending = (view M W).pending; taken = 0; rewrites = 0; waits = 0 } in
      let start : Reached (real M) (meet_all (real M) e (λ y. unmarked) ws) first = machine.begun e ws (marks_of W.memory.states) (view M W).pending ok lives z.marks in
      record {
        reached = subst (λ a. Reached (real M) a (view M W)) (sym z.moments) (subst (Reached (real M) (meet_all (real M) e (λ y. unmarked) ws)) (same_state (real M) first (view M W) refl (sym z.worklist) refl refl refl refl refl) start);
        known = z.known;
        counted = omega (arith, z.queued, new_all (lay_all (real M) e (λ y. unmarked) ws), count_begun (real M) (laws M) e ws, ap (λ a. length (ever_of {S = real M} a)) z.moments);
      }

  pub held : (ms : List (Moment (real M))) (w : World C) → Reaches M ms w → Held ms w
  held ms w (law.begins v root room n t ok (not_live l r e d) q) = ok_err n _ r
  held ms w (law.begins v root room n t ok (unfinished l o r e d) q) = ok_err n _ r
  held ms w (law.begins v root room n t ok (is_full f l o h r e d) q) = ok_err n _ r
  held ms w (law.begins v root room n t ok (begins l o h r e d) q) =
      subst (λ a. Held a w) (sym (q ∙ ap (λ (z : Told M). z.moments) e)) (subst (Held (rules.walked M v root room).load.moments) (sym d) (held_begun v root room ok l h))
  held ms w (goes ns v t h s q) =
      let k = held_tidied ns v (held ns v h) in
      let g = good (real M) (laws M) ns (view M (tidied M v)) k.reached in
      let f = follow M (tidied M v) g k.known (shed_again (model_of v.env) v.memory.pending) t w s in
      subst (λ a. Held a w) (sym q) (record { reached = machine.more k.reached f.step; known = f.known; counted = counted_step M ns (tidied M v) t w k.reached k.known k.counted s })
  held ms w (tidies v h d) = subst (Held ms) (sym d) (held_tidied ms v (held ms v h))
  held ms w (rests v h d) = let k = held ms v h in subst (Held ms) (sym d) (held_view ms v (done_world M v) refl k.known refl k)

  pub lawfully : (ms : List (Moment (real M))) (w : World C) → Reaches M ms w → Lawfully M ms w
  lawfully ms w h =
      let k = held ms w h in
      let kt = held_tidied ms w k in
      let r = lawful (real M) (laws M) ms (view M w) k.reached in
      let rt = lawful (real M) (laws M) ms (view M (tidied M w)) kt.reached in
      let g = good (real M) (laws M) ms (view M (tidied M w)) kt.reached in
      let n = sym k.counted in
      record {
        once = r.0.once;
        ready = λ t w' s x i. rt.0.ready t.moments (view M w') (follow M (tidied M w) g kt.known (shed_again (model_of w.env) w.memory.pending) t w' s).step x i;
        complete = λ e y i.
            let both = or_parts (some_record (tidied M w).memory.pending) (some_record w.memory.worklist) e in
            r.1.complete (no_work w.memory.worklist both.1) (ap length (no_work (shed (model_of w.env) w.memory.pending) both.0)) y i;
        counted = k.counted;
        waits_few = rw n at r.2.waits_few;
        taken_few = rw n at r.2.taken_few;
        circle = λ x z l b. r.3.never x z l b;
        no_circle = λ x l b en. let s = r.3.ends x l b in r.3.not_both x s.0 s.1 en;
      }

  run_reaches : (ms : List (Moment (real M))) (w : World C) → Reaches M ms w → (budget size : ℕ) (t : Told M) (n : ℕ) (v : World C) → Run M w budget size t n v → Reaches M (ms ++ t.moments) v
  run_reaches ms w h budget size t n v (start e q d) =
      subst (λ a. Reaches M a v) (sym (ap (λ (z : Told M). ms ++ z.moments) e ∙ append-nil ms)) (subst (Reaches M ms) (sym d) h)
  run_reaches ms w h budget size t n v (more b a k u r g m s e q) =
      goes (ms ++ b.moments) u a (run_reaches ms w h budget size b k u r) s (ap (λ (z : Told M). ms ++ z.moments) e ∙ sym (append_assoc ms b.moments a.moments))

  pub ran_reaches : (ms : List (Moment (real M))) (w : World C) → Reaches M ms w → (budget size : ℕ) (room : Room) (o : Answer) (t : Told M) (w' : World C) → Ran M w budget size room (Ok o) t w' → Reaches M (ms ++ t.moments) w'
  ran_reaches ms w h budget size room o t w' (not_open g r e d) = ok_err o _ r
  ran_reaches ms w h budget size room o t w' (is_done n v g r k q d) = rests (tidied M v) (tidies v (run_reaches ms w h budget size t n v r) refl) d
  ran_reaches ms w h budget size room o t w' (stopped n v g r k m q d) = tidies v (run_reaches ms w h budget size t n v r) d
  ran_reaches ms w h budget size room o t w' (closes b a n v f g r k m s q d) = ok_err o f q

  pub done_over : (w : World C) (budget size : ℕ) (room : Room) (s : IRStatus) (t : Told M) (w' : World C) → Ran M w budget size room (Ok (answer.Done s)) t w' → has_work M (tidied M w') ≡ false
  done_over w budget size room s t w' (not_open g r e d) = ok_err (answer.Done s) _ r
  done_over w budget size room s t w' (is_done n v g r k q d) =
      ap (λ (z : World C). has_work M (tidied M z)) d ∙ ap (λ ps. some_record ps || some_record v.memory.worklist) (shed_again (model_of v.env) v.memory.pending) ∙ k
  done_over w budget size room s t w' (stopped n v g r k m q d) = let z : ◌≡◌ {A = ℕ} 0 1 = cc in absurd (omega arith)
  done_over w budget size room s t w' (closes b a n v f g r k m h q d) = ok_err (answer.Done s) f q
