-- From an accepted beginning on, the law's machine goes along with the driver.
use Rattle.std.proofs.Common.{◌≡◌, ℕ, Bool, true, false, cond, eqb, List, [], ◌∷◌, ◌++◌, length, None, sym, refl, ap, ◌∙◌, subst, inl, inr, append_assoc, append-nil, arith}
use Rattle.std.proofs.lemmas.Bool.{cond-true}
use Rattle.slots.proofs.CellLaws.{found_is_live}
use Rattle.model.specs.declared.ids.OpId.{OpId}
use Rattle.model.specs.declared.ids.IRNode.{IRNode}
use Rattle.model.specs.declared.ids.IRNode.TheVariants as node
use Rattle.model.specs.Model.{Model, is_value}
use Rattle.model.specs.Sound.{Among}
use Rattle.model.specs.Walk.{walk}
use Rattle.model.proofs.Meeting.{walk_alive}
use Rattle.law.specs.Lists.{In}
use Rattle.law.specs.Machine.{unmarked, Moment, lay_all, meet_all, Reached}
use Rattle.law.specs.Machine as machine
use Rattle.law.specs.Law.{mets_of, ever_of}
use Rattle.law.proofs.Moments.{mets_meet_all}
use Rattle.law.proofs.Once.{good}
use Rattle.law.proofs.Views.{same_state, count_begun}
use Rattle.rules.specs.declared.interface.OpState.TheVariants as state
use Rattle.rules_next.specs.Meaning.{Meaning}
use Rattle.rules.specs.Setting.{Good, ops_among}
use Rattle.rules_next.specs.Setting.{real}
use Rattle.rules.specs.Driver.{Pending, Room, model_of, kept_state, mark_of, marks_of, argument, shed}
use Rattle.rules_next.specs.Driver.{World}
use Rattle.rules_next.specs.Rules.{Step, Told, Run, start, more, tidied, done_world, clear_env, no_memory, begun_world}
use Rattle.rules_next.specs.Rules as rules
use Rattle.rules_next.specs.View.{view}
use Rattle.rules_next.proofs.Reals.{laws}
use Rattle.rules.proofs.Marking.{Alive, Known}
use Rattle.rules_next.proofs.Batch.{Meets, met_nodes}
use Rattle.rules_next.proofs.Follow.{follow}
use Rattle.rules.proofs.Counting.{new_all}
use Rattle.rules_next.proofs.Counting.{counted_step}

-- dropping pending blocks twice is dropping them once
pub shed_again : (m : Model) (ps : List Pending) → shed m (shed m ps) ≡ shed m ps
shed_again m [] = refl
shed_again m (p ∷ ps) = at (is_value m (argument p)) refl (shed_again m ps)
  where
    at : (b : Bool) → is_value m (argument p) ≡ b → shed m (shed m ps) ≡ shed m ps → shed m (cond b (p ∷ ps) (shed m ps)) ≡ cond b (p ∷ ps) (shed m ps)
    at true e h = cond-true (is_value m (argument p)) (p ∷ ps) (shed m ps) e
    at false e h = h

blank : (y : OpId) → kept_state (λ _. record { generation = 0; state = state.Unmarked }) y ≡ state.Unmarked
blank y = at (eqb 0 y.generation)
  where
    at : (b : Bool) → cond b state.Unmarked state.Unmarked ≡ state.Unmarked
    at true = refl
    at false = refl

-- an operation among nodes
op_among : (y : OpId) (ns : List IRNode) → In y (ops_among ns) → Among (node.Operation y) ns
op_among y [] i = absurd i
op_among y (node.Operation o ∷ ns) (inl q) = inl (ap node.Operation q)
op_among y (node.Operation o ∷ ns) (inr i) = inr (op_among y ns i)
op_among y (node.BasicBlock b ∷ ns) i = inr (op_among y ns i)
op_among y (node.Region r ∷ ns) i = inr (op_among y ns i)

module _ {C : Type 0} (M : Meaning C) where
  pub record Held (ms : List (Moment (real M))) (w : World C) : Type 0 where
    pub reached : Reached (real M) ms (view M w)
    pub known : Known (model_of w.env) w.memory.states
    pub counted : w.counts.queued ≡ length (ever_of {S = real M} ms)

  held_view : (ms : List (Moment (real M))) (v w : World C) → view M v ≡ view M w → Known (model_of w.env) w.memory.states → w.counts.queued ≡ v.counts.queued → Held ms v → Held ms w
  held_view ms v w e k q h = record { reached = subst (Reached (real M) ms) e h.reached; known = k; counted = q ∙ h.counted }

  tidy_view : (v : World C) → view M v ≡ view M (tidied M v)
  tidy_view v = same_state (real M) (view M v) (view M (tidied M v)) refl refl refl (ap length (sym (shed_again (model_of v.env) v.memory.pending))) refl refl refl

  pub held_tidied : (ms : List (Moment (real M))) (v : World C) → Held ms v → Held ms (tidied M v)
  held_tidied ms v h = held_view ms v (tidied M v) (tidy_view v) h.known refl h

  -- the walk
  walk_meets : (w : World C) (root : OpId) (room : Room) → (rules.walked M w root room).fault ≡ None
      → Meets M (clear_env M w) room None (λ y. unmarked) (ops_among (walk (model_of w.env) root.slot)) (record { memory = no_memory M; queued = 0; moments = [] }) (rules.walked M w root room).load
  walk_meets w root room h = met_nodes M (clear_env M w) room None (walk (model_of w.env) root.slot) (λ y. unmarked) (record { memory = no_memory M; queued = 0; moments = [] }) (λ y _. ap mark_of (blank y)) (λ y. inr (blank y)) h

  pub walk_mets : (w : World C) (root : OpId) (room : Room) → (rules.walked M w root room).fault ≡ None → mets_of {S = real M} (rules.walked M w root room).load.moments ≡ ops_among (walk (model_of w.env) root.slot)
  walk_mets w root room h = ap (λ a. mets_of {S = real M} a) (walk_meets w root room h).moments ∙ mets_meet_all (real M) (clear_env M w) (λ y. unmarked) (ops_among (walk (model_of w.env) root.slot))

  pub held_begun : (w : World C) (root : OpId) (room : Room) → Good (clear_env M w) → Alive (model_of w.env) root → (rules.walked M w root room).fault ≡ None → Held (rules.walked M w root room).load.moments (begun_world M w root room)
  held_begun w root room ok l h =
      let e = clear_env M w in
      let m = model_of w.env in
      let ns = walk m root.slot in
      let ws = ops_among ns in
      let z = walk_meets w root room h in
      let W = begun_world M w root room in
      let lives : (y : OpId) → In y ws → Alive m y = λ y i. walk_alive m ok.sound root.slot (found_is_live m.ops root.slot root.generation l) (node.Operation y) (op_among y ns i) in
      let first : machine.State (real M) = record { env = e; worklist = lay_all (real M) e (λ y. unmarked) ws; marks = marks_of W.memory.states; pending = (view M W).pending; taken = 0; rewrites = 0; waits = 0 } in
      let start : Reached (real M) (meet_all (real M) e (λ y. unmarked) ws) first = machine.begun e ws (marks_of W.memory.states) (view M W).pending ok lives z.marks in
      record {
        reached = subst (λ a. Reached (real M) a (view M W)) (sym z.moments) (subst (Reached (real M) (meet_all (real M) e (λ y. unmarked) ws)) (same_state (real M) first (view M W) refl (sym z.worklist) refl refl refl refl refl) start);
        known = z.known;
        counted = omega (arith, z.queued, new_all (lay_all (real M) e (λ y. unmarked) ws), count_begun (real M) (laws M) e ws, ap (λ a. length (ever_of {S = real M} a)) z.moments);
      }

  pub held_done : (ms : List (Moment (real M))) (v : World C) → Held ms v → Held ms (done_world M v)
  held_done ms v h = held_view ms v (done_world M v) refl h.known refl h

  held_step : (ms : List (Moment (real M))) (v : World C) → Held ms v → (t : Told M) (w : World C) → Step M (tidied M v) t w → Held (ms ++ t.moments) w
  held_step ms v h t w s =
      let k = held_tidied ms v h in
      let g = good (real M) (laws M) ms (view M (tidied M v)) k.reached in
      let f = follow M (tidied M v) g k.known (shed_again (model_of v.env) v.memory.pending) t w s in
      record { reached = machine.more k.reached f.step; known = f.known; counted = counted_step M ms (tidied M v) k.reached k.known k.counted t w s }

  pub held_run : (ms : List (Moment (real M))) (w : World C) → Held ms w → (budget size : ℕ) (t : Told M) (n : ℕ) (v : World C) → Run M w budget size t n v → Held (ms ++ t.moments) v
  held_run ms w h budget size t n v (start e q d) =
      subst (λ a. Held a v) (sym (ap (λ (z : Told M). ms ++ z.moments) e ∙ append-nil ms)) (subst (Held ms) (sym d) h)
  held_run ms w h budget size t n v (more b a k u r g m s e q) =
      subst (λ c. Held c v) (sym (ap (λ (z : Told M). ms ++ z.moments) e ∙ sym (append_assoc ms b.moments a.moments))) (held_step (ms ++ b.moments) u (held_run ms w h budget size b k u r) a v s)
