-- The rules of the driver: what one step does, and what the calls begin and run come to.
use Rattle.std.specs.Prelude.{◌≡◌, ℕ, suc, ◌+◌, Bool, true, false, ◌&&◌, ◌||◌, List, [], ◌∷◌, ◌++◌, map, length, is_some, Some, None, Ok, Err, Result, ◌==◌, nat_le, nat_lt}
use Rattle.std.proofs.Math.Option as mathlib_option
use Rattle.model.specs.declared.ids.OpId.{OpId}
use Rattle.model.specs.declared.ids.IRNode.TheVariants as node
use Rattle.model.specs.Model.{Model, find_op, type_of}
use Rattle.model.specs.Erasing.{operands_of}
use Rattle.model.specs.Walk.{walk}
use Rattle.calls.specs.World.{Pick, set_type, done}
use Rattle.calls.specs.Perform.{Outcome, perform}
use Rattle.calls.specs.World as calls
use Rattle.law.specs.Lists.{member}
use Rattle.law.specs.Machine.{Moment, asked, rewrote, dues, first_due, fresh, ask_all, ask_along, queue_each}
use Rattle.rules.specs.declared.interface.Phase.{Phase}
use Rattle.rules.specs.declared.interface.Phase.TheVariants as phase
use Rattle.rules.specs.declared.interface.OpEvent.{OpEvent}
use Rattle.rules.specs.declared.interface.OpEvent.TheVariants as happens
use Rattle.rules.specs.declared.interface.StateEntry.{StateEntry}
use Rattle.rules.specs.declared.interface.OpState.TheVariants as state
use Rattle.rules.specs.declared.interface.Fate.{Fate}
use Rattle.rules.specs.declared.interface.Fate.TheVariants as fate
use Rattle.rules.specs.declared.interface.TrailRecord.{TrailRecord}
use Rattle.rules.specs.declared.interface.IRStatus.{IRStatus}
use Rattle.rules.specs.declared.interface.IRStatus.TheVariants as status
use Rattle.rules.specs.declared.interface.Answer.{Answer}
use Rattle.rules.specs.declared.interface.Answer.TheVariants as answer
use Rattle.rules.specs.declared.interface.ConversionFault.{ConversionFault}
use Rattle.rules_next.specs.declared.interface.Fault.{Fault}
use Rattle.rules_next.specs.declared.interface.Fault.TheVariants as fault
use Rattle.rules_next.specs.declared.interface.Failure.{Failure}
use Rattle.rules_next.specs.declared.interface.Counts.{Counts}
use Rattle.rules_next.specs.declared.interface.Report.{Report}
use Rattle.rules.specs.Meaning.{Converted}
use Rattle.rules_next.specs.Meaning.{Meaning, Rewrote}
use Rattle.rules.specs.Histories.{History}
use Rattle.rules_next.specs.Histories.{history_of}
use Rattle.rules.specs.Setting.{Env, taken_out, aimed, definers_in}
use Rattle.rules_next.specs.Setting.{real}
use Rattle.rules.specs.Driver.{Pending, Memory, Room, model_of, state_of, marks_of, is_queued, chain, argument, shed}
use Rattle.rules_next.specs.Driver.{World, Handled, noted, handle, meet_nodes}
use Rattle.rules.specs.Rules.{some_record, no_pick, with_lists}

-- What happened: moments, records of the trail, and the slots that rewrites picked.
pub record Told {C : Type 0} (M : Meaning C) : Type 0 where
  pub moments : List (Moment (real M))
  pub trail : List TrailRecord
  pub picks : List (List Pick)

-- counts after an entry is taken, and after its fate is known; after a question; after more were queued
abbrev pub took_one : Counts → Counts
took_one c = record { queued = c.queued; taken = suc c.taken; rewritten = c.rewritten; aside = c.aside; waits = c.waits; stale = c.stale; questions = c.questions }

abbrev pub fated : Counts → Fate → Counts
fated c fate.Rewritten = record { queued = c.queued; taken = c.taken; rewritten = suc c.rewritten; aside = c.aside; waits = c.waits; stale = c.stale; questions = c.questions }
fated c fate.SetAside = record { queued = c.queued; taken = c.taken; rewritten = c.rewritten; aside = suc c.aside; waits = c.waits; stale = c.stale; questions = c.questions }
fated c fate.Waits = record { queued = c.queued; taken = c.taken; rewritten = c.rewritten; aside = c.aside; waits = suc c.waits; stale = c.stale; questions = c.questions }
fated c fate.Stale = record { queued = c.queued; taken = c.taken; rewritten = c.rewritten; aside = c.aside; waits = c.waits; stale = suc c.stale; questions = c.questions }

abbrev pub asked_one : Counts → Counts
asked_one c = record { queued = c.queued; taken = c.taken; rewritten = c.rewritten; aside = c.aside; waits = c.waits; stale = c.stale; questions = suc c.questions }

abbrev pub with_queued : Counts → ℕ → Counts
with_queued c n = record { queued = n; taken = c.taken; rewritten = c.rewritten; aside = c.aside; waits = c.waits; stale = c.stale; questions = c.questions }

abbrev pub no_counts : Counts
no_counts = record { queued = 0; taken = 0; rewritten = 0; aside = 0; waits = 0; stale = 0; questions = 0 }

-- each event happens to each operation
abbrev pub noted_all : Model → (ℕ → StateEntry) → List OpId → OpEvent → ℕ → StateEntry
noted_all m ks [] e = ks
noted_all m ks (o ∷ os) e = noted m (noted_all m ks os e) o e

-- begun, not closed, and with the memory of the beginning
abbrev pub is_begun : Phase → Bool
is_begun phase.NeverBegun = false
is_begun phase.Open = true
is_begun phase.Done = true
is_begun phase.Closed = false

abbrev pub is_open : Phase → Bool
is_open phase.NeverBegun = false
is_open phase.Open = true
is_open phase.Done = false
is_open phase.Closed = false

abbrev pub status_of : Bool → IRStatus
status_of true = status.Changed
status_of false = status.Unchanged

module _ {C : Type 0} (M : Meaning C) where
  abbrev pub nothing : Told M
  nothing = record { moments = []; trail = []; picks = [] }

  abbrev pub both : Told M → Told M → Told M
  both t u = record { moments = t.moments ++ u.moments; trail = t.trail ++ u.trail; picks = t.picks ++ u.picks }

  -- the world after a step, and after one that closes
  abbrev pub stepped : Phase → World C → Env C → Memory → Counts → Bool → World C
  stepped p w e y c b = record { env = e; memory = y; counts = c; steps = suc w.steps; phase = p; changed = b; room = w.room }

  abbrev pub valued : Env C → C → Env C
  valued e c = record { world = e.world; value = c }

  -- the argument of a pending block is finished
  abbrev pub finished : World C → Env C → Pending → List Pending → World C
  finished w e p rest =
      stepped w.phase w e (record { worklist = w.memory.worklist; pending = record { block = p.block; next = suc p.next } ∷ rest; states = w.memory.states; histories = w.memory.histories })
      (asked_one w.counts) w.changed

  -- a question about the type t, and the call that gives the argument the type u
  abbrev pub answered : World C → ℕ → Converted C
  answered w t = M.convert w.env.value (model_of w.env) t

  abbrev pub retype : World C → Pending → ℕ → Outcome
  retype w p u = perform true w.env.world (set_type (argument p) u) no_pick

  abbrev pub retyped_env : World C → Pending → ℕ → ℕ → Env C
  retyped_env w p t u = record { world = taken_out (retype w p u).world; value = (answered w t).next }

  abbrev pub retyped_batch : World C → Pending → ℕ → ℕ → Handled M
  retyped_batch w p t u = handle M (retyped_env w p t u) w.room None (record { memory = w.memory; queued = w.counts.queued; moments = [] }) (retype w p u).world.records

  abbrev pub retyped_world : Phase → World C → Pending → ℕ → ℕ → World C
  retyped_world f w p t u =
      stepped f w (retyped_env w p t u) (retyped_batch w p t u).load.memory (with_queued (asked_one w.counts) (retyped_batch w p t u).load.queued) (w.changed || some_record (retype w p u).world.records)

  -- a block is pending, and its next argument has the type t
  pub record Asks (w : World C) (p : Pending) (rest : List Pending) (t : ℕ) : Type 0 where
    pub pending : w.memory.pending ≡ p ∷ rest
    pub type : type_of (model_of w.env) (argument p) ≡ Some t

  -- no block is pending, and the operation x has the front entry
  pub record Takes (w : World C) (x : OpId) (rest : List OpId) : Type 0 where
    pub calm : w.memory.pending ≡ []
    pub front : w.memory.worklist ≡ x ∷ rest

  abbrev pub state_in : World C → OpId → Bool
  state_in w x = is_queued (state_of (model_of w.env) w.memory.states x)

  abbrev pub convertible : World C → OpId → Bool
  convertible w x = M.can_op w.env.value (model_of w.env) x

  -- the due definers of x, the first of them, and the chain of first ones
  abbrev pub due_definers : World C → OpId → List OpId
  due_definers w x = dues (real M) w.env (marks_of w.memory.states) x

  abbrev pub first_one : World C → OpId → mathlib_option.Option OpId
  first_one w x = first_due (real M) w.env (marks_of w.memory.states) x

  abbrev pub chain_of : World C → OpId → List OpId
  chain_of w x = chain (first_one w) 512 x

  abbrev pub beyond : World C → OpId → mathlib_option.Option OpId
  beyond w x = member (first_one w) 512 x

  -- the states after the front entry is taken
  abbrev pub states_taken : World C → OpId → ℕ → StateEntry
  states_taken w x = noted (model_of w.env) w.memory.states x happens.Taken

  abbrev pub one_record : OpId → Fate → List TrailRecord
  one_record x f = record { operation = x; fate = f } ∷ []

  abbrev pub stale_world : World C → List OpId → World C
  stale_world w rest = stepped w.phase w w.env (with_lists w.memory rest w.memory.states) (fated (took_one w.counts) fate.Stale) w.changed

  abbrev pub aside_world : World C → OpId → List OpId → World C
  aside_world w x rest =
      stepped w.phase w w.env (with_lists w.memory rest (noted (model_of w.env) (states_taken w x) x happens.SetAside)) (fated (took_one w.counts) fate.SetAside) w.changed

  -- x goes to the front, and before it an entry for each operand with a due definer
  abbrev pub wait_entries : World C → OpId → List OpId → List OpId
  wait_entries w x rest = due_definers w x ++ x ∷ rest

  abbrev pub wait_world : World C → OpId → List OpId → World C
  wait_world w x rest =
      stepped w.phase w w.env (with_lists w.memory (wait_entries w x rest) (noted_all (model_of w.env) (states_taken w x) (due_definers w x ++ x ∷ []) happens.Queued))
      (with_queued (fated (took_one w.counts) fate.Waits) (w.counts.queued + fresh (real M) (marks_of w.memory.states) (due_definers w x ++ x ∷ [])))
      w.changed

  abbrev pub wait_moments : World C → OpId → List (Moment (real M))
  wait_moments w x =
      asked x true ∷ ask_along (real M) w.env (marks_of w.memory.states) (x ∷ chain_of w x) ++ queue_each (real M) (due_definers w x ++ x ∷ [])

  -- the questions before x is rewritten
  abbrev pub ready_moments : World C → OpId → List (Moment (real M))
  ready_moments w x = asked x true ∷ ask_all (real M) w.env (marks_of w.memory.states) (definers_in (model_of w.env) x)

  -- the operands, each with the types that it had
  abbrev pub operand_types : World C → OpId → List History
  operand_types w x = map (history_of w.memory.histories) (operands_of (find_op (model_of w.env) x))

  -- x is rewritten, and leaves the value c and the rewriter's world v
  abbrev pub RewrotesTo : World C → OpId → List Pick → C → calls.World → Result (Unit {0}) ConversionFault → Type 0
  RewrotesTo w x ks c v r = Rewrote M w.env.value (aimed w.env.world x) x (operand_types w x) ks c v r

  abbrev pub left_env : C → calls.World → Env C
  left_env c v = record { world = taken_out v; value = c }

  abbrev pub rewritten_batch : World C → OpId → List OpId → C → calls.World → Handled M
  rewritten_batch w x rest c v =
      handle M (left_env c v) w.room (Some x) (record { memory = with_lists w.memory rest (states_taken w x); queued = w.counts.queued; moments = [] }) v.records

  abbrev pub rewritten_world : World C → OpId → List OpId → C → calls.World → World C
  rewritten_world w x rest c v =
      let l = (rewritten_batch w x rest c v).load in
      stepped w.phase w (left_env c v) (with_lists l.memory l.memory.worklist (noted v.model l.memory.states x happens.Rewritten))
      (with_queued (fated (took_one w.counts) fate.Rewritten) l.queued) (w.changed || some_record v.records)

  abbrev pub rewrite_moments : World C → OpId → List OpId → C → calls.World → List (Moment (real M))
  rewrite_moments w x rest c v = ready_moments w x ++ rewrote x ∷ (rewritten_batch w x rest c v).load.moments

  pub data Step (w : World C) : Told M → World C → Type 0 where
    -- the argument's type is not convertible
    keeps_type : {t : Told M} {w' : World C} (p : Pending) (rest : List Pending) (n : ℕ) → Asks w p rest n → M.can_type w.env.value (model_of w.env) n ≡ false
        → t ≡ nothing → w' ≡ finished w w.env p rest → Step w t w'
    -- it converts to itself
    same_type : {t : Told M} {w' : World C} (p : Pending) (rest : List Pending) (n u : ℕ) → Asks w p rest n → M.can_type w.env.value (model_of w.env) n ≡ true
        → (answered w n).answer ≡ Ok u → (u == n) ≡ true → t ≡ nothing → w' ≡ finished w (valued w.env (answered w n).next) p rest → Step w t w'
    -- it converts to another, and the argument is next again
    new_type : {t : Told M} {w' : World C} (p : Pending) (rest : List Pending) (n u : ℕ) → Asks w p rest n → M.can_type w.env.value (model_of w.env) n ≡ true
        → (answered w n).answer ≡ Ok u → (u == n) ≡ false → (retype w p u).reply ≡ done → (retyped_batch w p n u).fault ≡ None
        → t ≡ record { moments = (retyped_batch w p n u).load.moments; trail = []; picks = [] } → w' ≡ retyped_world w.phase w p n u → Step w t w'
    -- the front entry is stale
    stale : {t : Told M} {w' : World C} (x : OpId) (rest : List OpId) → Takes w x rest → state_in w x ≡ false
        → t ≡ record { moments = []; trail = one_record x fate.Stale; picks = [] } → w' ≡ stale_world w rest → Step w t w'
    -- it is not convertible
    sets_aside : {t : Told M} {w' : World C} (x : OpId) (rest : List OpId) → Takes w x rest → state_in w x ≡ true → convertible w x ≡ false
        → t ≡ record { moments = asked x false ∷ []; trail = one_record x fate.SetAside; picks = [] } → w' ≡ aside_world w x rest → Step w t w'
    -- it has due definers, and following the first ones ends
    waits : {t : Told M} {w' : World C} (x d : OpId) (rest : List OpId) → Takes w x rest → state_in w x ≡ true → convertible w x ≡ true
        → first_one w x ≡ mathlib_option.some d → beyond w x ≡ mathlib_option.none → nat_le (length (wait_entries w x rest)) w.room.entries ≡ true
        → t ≡ record { moments = wait_moments w x; trail = one_record x fate.Waits; picks = [] } → w' ≡ wait_world w x rest → Step w t w'
    -- it has none
    rewrites : {t : Told M} {w' : World C} (x : OpId) (rest : List OpId) (ks : List Pick) (c : C) (v : calls.World) → Takes w x rest → state_in w x ≡ true → convertible w x ≡ true
        → first_one w x ≡ mathlib_option.none → RewrotesTo w x ks c v (Ok tt) → (rewritten_batch w x rest c v).fault ≡ None
        → t ≡ record { moments = rewrite_moments w x rest c v; trail = one_record x fate.Rewritten; picks = ks ∷ [] } → w' ≡ rewritten_world w x rest c v → Step w t w'

  abbrev pub in_block : Pending → Fault → Failure
  in_block p f = record { fault = f; hand = Some (node.BasicBlock p.block) }

  abbrev pub at_op : OpId → Fault → Failure
  at_op x f = record { fault = f; hand = Some (node.Operation x) }

  -- the world closed with the front entry taken
  abbrev pub closed_taken_world : World C → Env C → Memory → ℕ → Bool → World C
  closed_taken_world w e y n b = stepped phase.Closed w e y (with_queued (took_one w.counts) n) b

  abbrev pub closed_waiting : World C → OpId → List OpId → World C
  closed_waiting w x rest = closed_taken_world w w.env (with_lists w.memory rest (states_taken w x)) w.counts.queued w.changed

  -- A step that closes the conversion.
  pub data Fails (w : World C) : Failure → Told M → World C → Type 0 where
    type_fault : {r : Failure} {t : Told M} {w' : World C} (p : Pending) (rest : List Pending) (n : ℕ) (f : ConversionFault) → Asks w p rest n → M.can_type w.env.value (model_of w.env) n ≡ true
        → (answered w n).answer ≡ Err f → r ≡ in_block p (fault.Conversion f) → t ≡ nothing
        → w' ≡ stepped phase.Closed w (valued w.env (answered w n).next) w.memory (asked_one w.counts) w.changed → Fails w r t w'
    -- in the handling of the type's change
    type_batch : {r : Failure} {t : Told M} {w' : World C} (p : Pending) (rest : List Pending) (n u : ℕ) (f : Fault) → Asks w p rest n → M.can_type w.env.value (model_of w.env) n ≡ true
        → (answered w n).answer ≡ Ok u → (u == n) ≡ false → (retype w p u).reply ≡ done → (retyped_batch w p n u).fault ≡ Some f → r ≡ in_block p f
        → t ≡ record { moments = (retyped_batch w p n u).load.moments; trail = []; picks = [] } → w' ≡ retyped_world phase.Closed w p n u → Fails w r t w'
    -- following the first due definers never ends
    circle : {r : Failure} {t : Told M} {w' : World C} (x d : OpId) (rest : List OpId) → Takes w x rest → state_in w x ≡ true → convertible w x ≡ true
        → beyond w x ≡ mathlib_option.some d → r ≡ at_op x fault.Circle
        → t ≡ record { moments = asked x true ∷ ask_along (real M) w.env (marks_of w.memory.states) (x ∷ chain_of w x); trail = []; picks = [] } → w' ≡ closed_waiting w x rest → Fails w r t w'
    -- the entries of a wait do not fit
    no_room : {r : Failure} {t : Told M} {w' : World C} (x d : OpId) (rest : List OpId) → Takes w x rest → state_in w x ≡ true → convertible w x ≡ true
        → first_one w x ≡ mathlib_option.some d → beyond w x ≡ mathlib_option.none → nat_le (length (wait_entries w x rest)) w.room.entries ≡ false → r ≡ at_op x fault.Full
        → t ≡ record { moments = asked x true ∷ ask_along (real M) w.env (marks_of w.memory.states) (x ∷ chain_of w x); trail = []; picks = [] } → w' ≡ closed_waiting w x rest → Fails w r t w'
    -- the rewrite ends in a fault, and its records stay
    rewrite_fault : {r : Failure} {t : Told M} {w' : World C} (x : OpId) (rest : List OpId) (ks : List Pick) (c : C) (v : calls.World) (f : ConversionFault) → Takes w x rest → state_in w x ≡ true → convertible w x ≡ true
        → first_one w x ≡ mathlib_option.none → RewrotesTo w x ks c v (Err f) → r ≡ at_op x (fault.Conversion f)
        → t ≡ record { moments = ready_moments w x ++ rewrote x ∷ []; trail = []; picks = ks ∷ [] }
        → w' ≡ closed_taken_world w (record { world = v; value = c }) (with_lists w.memory rest (states_taken w x)) w.counts.queued (w.changed || some_record v.records) → Fails w r t w'
    -- in the handling of its records
    rewrite_batch : {r : Failure} {t : Told M} {w' : World C} (x : OpId) (rest : List OpId) (ks : List Pick) (c : C) (v : calls.World) (f : Fault) → Takes w x rest → state_in w x ≡ true → convertible w x ≡ true
        → first_one w x ≡ mathlib_option.none → RewrotesTo w x ks c v (Ok tt) → (rewritten_batch w x rest c v).fault ≡ Some f → r ≡ at_op x f
        → t ≡ record { moments = rewrite_moments w x rest c v; trail = []; picks = ks ∷ [] }
        → w' ≡ closed_taken_world w (left_env c v) (rewritten_batch w x rest c v).load.memory (rewritten_batch w x rest c v).load.queued (w.changed || some_record v.records) → Fails w r t w'

  -- front pending blocks with nothing to ask are dropped, at no cost
  abbrev pub tidied : World C → World C
  tidied w = record { env = w.env; memory = record { worklist = w.memory.worklist; pending = shed (model_of w.env) w.memory.pending; states = w.memory.states; histories = w.memory.histories }; counts = w.counts; steps = w.steps; phase = w.phase; changed = w.changed; room = w.room }

  abbrev pub has_work : World C → Bool
  has_work w = some_record w.memory.pending || some_record w.memory.worklist

  -- the budget of n steps, or of 2^40 since the beginning, is not spent, and the trail of s records is not full
  abbrev pub may_go : ℕ → ℕ → ℕ → Told M → World C → Bool
  may_go budget size n t w = nat_lt n budget && (nat_lt w.steps 1099511627776 && nat_lt (length t.trail) size)

  -- so many steps, one after another, as long as there is work and none of the limits is reached
  pub data Run (w : World C) (budget size : ℕ) : Told M → ℕ → World C → Type 0 where
    start : {t : Told M} {n : ℕ} {w' : World C} → t ≡ nothing → n ≡ 0 → w' ≡ w → Run w budget size t n w'
    more : {t : Told M} {n : ℕ} {w' : World C} (b a : Told M) (k : ℕ) (v : World C) → Run w budget size b k v → has_work (tidied v) ≡ true → may_go budget size k b v ≡ true
        → Step (tidied v) a w' → t ≡ both b a → n ≡ suc k → Run w budget size t n w'

  abbrev pub runs : World C → Room → Bool
  runs w room = is_begun w.phase && (room.entries == w.room.entries && room.blocks == w.room.blocks)

  -- an answer goes with the counts
  abbrev pub report : Result Answer Failure → World C → Report
  report a w = record { answer = a; counts = w.counts }

  abbrev pub done_world : World C → World C
  done_world w = record { env = w.env; memory = w.memory; counts = w.counts; steps = w.steps; phase = phase.Done; changed = w.changed; room = w.room }

  -- what a run comes to
  pub data Ran (w : World C) (budget size : ℕ) (room : Room) : Report → Told M → World C → Type 0 where
    not_open : {r : Report} {t : Told M} {w' : World C} → runs w room ≡ false
        → r ≡ report (Err (record { fault = fault.NotOpen; hand = None })) w → t ≡ nothing → w' ≡ w → Ran w budget size room r t w'
    is_done : {r : Report} {t : Told M} {w' : World C} (n : ℕ) (v : World C) → runs w room ≡ true → Run w budget size t n v
        → has_work (tidied v) ≡ false → r ≡ report (Ok (answer.Done (status_of v.changed))) v → w' ≡ done_world (tidied v) → Ran w budget size room r t w'
    stopped : {r : Report} {t : Told M} {w' : World C} (n : ℕ) (v : World C) → runs w room ≡ true → Run w budget size t n v
        → has_work (tidied v) ≡ true → may_go budget size n t v ≡ false → r ≡ report (Ok answer.Stopped) v → w' ≡ tidied v → Ran w budget size room r t w'
    closes : {r : Report} {t : Told M} {w' : World C} (b a : Told M) (n : ℕ) (v : World C) (f : Failure) → runs w room ≡ true → Run w budget size b n v
        → has_work (tidied v) ≡ true → may_go budget size n b v ≡ true → Fails (tidied v) f a w' → r ≡ report (Err f) w' → t ≡ both b a → Ran w budget size room r t w'

  -- the beginning: the walk from the root, with nothing kept from before
  abbrev pub clear_env : World C → Env C
  clear_env w = record { world = taken_out w.env.world; value = w.env.value }

  abbrev pub no_memory : Memory
  no_memory = record { worklist = []; pending = []; states = λ _. record { generation = 0; state = state.Unmarked }; histories = [] }

  abbrev pub walked : World C → OpId → Room → Handled M
  walked w root room = meet_nodes M (clear_env w) room None (record { memory = no_memory; queued = 0; moments = [] }) (walk (model_of w.env) root.slot)

  abbrev pub begun_world : World C → OpId → Room → World C
  begun_world w root room =
      record { env = clear_env w; memory = (walked w root room).load.memory; counts = with_queued no_counts (walked w root room).load.queued; steps = 0; phase = phase.Open; changed = false; room = room }

  pub data Begun (w : World C) (root : OpId) (room : Room) : Result ℕ Failure → Told M → World C → Type 0 where
    not_live : {r : Result ℕ Failure} {t : Told M} {w' : World C} → is_some (find_op (model_of w.env) root) ≡ false
        → r ≡ Err (at_op root fault.NotLive) → t ≡ nothing → w' ≡ w → Begun w root room r t w'
    unfinished : {r : Result ℕ Failure} {t : Told M} {w' : World C} → is_some (find_op (model_of w.env) root) ≡ true → is_open w.phase ≡ true
        → r ≡ Err (at_op root fault.Unfinished) → t ≡ nothing → w' ≡ w → Begun w root room r t w'
    is_full : {r : Result ℕ Failure} {t : Told M} {w' : World C} (f : Fault) → is_some (find_op (model_of w.env) root) ≡ true → is_open w.phase ≡ false
        → (walked w root room).fault ≡ Some f → r ≡ Err (at_op root f) → t ≡ nothing → w' ≡ w → Begun w root room r t w'
    begins : {r : Result ℕ Failure} {t : Told M} {w' : World C} → is_some (find_op (model_of w.env) root) ≡ true → is_open w.phase ≡ false
        → (walked w root room).fault ≡ None → r ≡ Ok (walked w root room).load.queued
        → t ≡ record { moments = (walked w root room).load.moments; trail = []; picks = [] } → w' ≡ begun_world w root room → Begun w root room r t w'
