-- What the driver keeps, and how it handles a batch of records.
use Rattle.std.specs.Prelude.{ℕ, ◌+◌, Bool, cond, ◌&&◌, ◌||◌, List, [], ◌∷◌, ◌++◌, length, is_some, Some, None, Option, ◌==◌, nat_lt}
use Rattle.model.specs.declared.ids.OpId.{OpId}
use Rattle.model.specs.declared.ids.BlockId.{BlockId}
use Rattle.model.specs.declared.ids.IRNode.{IRNode}
use Rattle.model.specs.declared.ids.IRNode.TheVariants as node
use Rattle.model.specs.Model.{Model, find_op, put}
use Rattle.calls.specs.declared.events.RecorderEvent.{RecorderEvent}
use Rattle.calls.specs.declared.events.RecorderEvent.TheVariants as event
use Rattle.law.specs.Machine.{Moment, met, queues, ask, newly}
use Rattle.rules.specs.declared.interface.Phase.{Phase}
use Rattle.rules_next.specs.declared.interface.Counts.{Counts}
use Rattle.rules.specs.declared.interface.OpEvent.{OpEvent}
use Rattle.rules.specs.declared.interface.OpEvent.TheVariants as happens
use Rattle.rules.specs.declared.interface.StateEntry.{StateEntry}
use Rattle.rules_next.specs.declared.interface.Fault.{Fault}
use Rattle.rules_next.specs.declared.interface.Fault.TheVariants as fault
use Rattle.rules.specs.States.{moved}
use Rattle.rules_next.specs.Meaning.{Meaning}
use Rattle.rules.specs.Histories.{History, recorded, live_only}
use Rattle.rules.specs.Setting.{Env, inserted}
use Rattle.rules_next.specs.Setting.{real}
use Rattle.rules.specs.Driver.{Memory, Room, model_of, kept_state, marks_of, with_states, with_histories, with_pending, is_hand}

pub record World (C : Type 0) : Type 0 where
  pub env : Env C
  pub memory : Memory
  pub counts : Counts
  -- since the beginning
  pub steps : ℕ
  pub phase : Phase
  -- was a record made since the beginning?
  pub changed : Bool
  pub room : Room

-- Each of the 512 slots keeps the state of what lives there; one that is dead is noted only where its slot still keeps its state.
abbrev pub notable : Model → (ℕ → StateEntry) → OpId → Bool
notable m ks o = is_some (find_op m o) || ((ks o.slot).generation == o.generation && nat_lt o.slot 512)

abbrev pub noted : Model → (ℕ → StateEntry) → OpId → OpEvent → ℕ → StateEntry
noted m ks o e = cond (notable m ks o) (put ks o.slot (record { generation = o.generation; state = moved (kept_state ks o) e })) ks

-- A batch at work: what the driver keeps, how many it queued, and what happened; and why it ended, if it did.
pub record Load {C : Type 0} (M : Meaning C) : Type 0 where
  pub memory : Memory
  pub queued : ℕ
  pub moments : List (Moment (real M))

pub record Handled {C : Type 0} (M : Meaning C) : Type 0 where
  pub load : Load M
  pub fault : Option Fault

-- every operation recorded as erased is marked so
abbrev pub mark_erased : Model → (ℕ → StateEntry) → RecorderEvent → ℕ → StateEntry
mark_erased m ks (event.InsertedOperation o) = ks
mark_erased m ks (event.InsertedBlock b) = ks
mark_erased m ks (event.ErasedOperation o) = noted m ks o happens.Erased
mark_erased m ks (event.ErasedBlock b) = ks
mark_erased m ks (event.ErasedRegion r) = ks
mark_erased m ks (event.ReplacedValueUses v t u) = ks
mark_erased m ks (event.ValueTypeChanged v t u) = ks
mark_erased m ks (event.UnlinkedOperation o p) = ks

abbrev pub mark_all_erased : Model → (ℕ → StateEntry) → List RecorderEvent → ℕ → StateEntry
mark_all_erased m ks [] = ks
mark_all_erased m ks (e ∷ es) = mark_all_erased m (mark_erased m ks e) es

module _ {C : Type 0} (M : Meaning C) where
  abbrev pub fine : Load M → Handled M
  fine l = record { load = l; fault = None }

  abbrev pub stops : Load M → Fault → Handled M
  stops l f = record { load = l; fault = Some f }

  -- on with what is left, where nothing has stopped it
  abbrev pub onward : Option Fault → Load M → (Load M → Handled M) → Handled M
  onward None l f = f l
  onward (Some e) l f = stops l e

  abbrev pub and_then : Handled M → (Load M → Handled M) → Handled M
  and_then h f = onward h.fault h.load f

  -- replacements and type changes, in order
  abbrev pub keep_types : Load M → Option (List History) → Handled M
  keep_types l None = stops l fault.HistoryFull
  keep_types l (Some hs) = fine (record { memory = with_histories l.memory hs; queued = l.queued; moments = l.moments })

  abbrev pub record_types : Load M → List RecorderEvent → Handled M
  record_types l [] = fine l
  record_types l (e ∷ es) = and_then (keep_types l (recorded l.memory.histories e)) (λ k. record_types k es)

  -- An operation is met: it is asked, and where it is due and not queued, it goes to the back of the worklist.
  abbrev pub asks_of : Env C → Load M → OpId → List (Moment (real M))
  asks_of e l o = l.moments ++ met o ∷ ask (real M) e (marks_of l.memory.states) o

  abbrev pub unlaid : Env C → Load M → OpId → Load M
  unlaid e l o = record { memory = l.memory; queued = l.queued; moments = asks_of e l o }

  abbrev pub laid : Env C → Option OpId → Load M → OpId → Load M
  laid e hand l o = record {
    memory = record { worklist = l.memory.worklist ++ o ∷ []; pending = l.memory.pending; states = noted (model_of e) l.memory.states o happens.Queued; histories = l.memory.histories };
    queued = l.queued + cond (is_hand hand o) 0 1;
    moments = asks_of e l o ++ queues o ∷ [];
  }

  abbrev pub meet_op : Env C → Room → Option OpId → Load M → OpId → Handled M
  meet_op e room hand l o =
      cond (newly (real M) e (marks_of l.memory.states) o)
      (cond (nat_lt (length l.memory.worklist) room.entries) (fine (laid e hand l o)) (stops (unlaid e l o) fault.Full))
      (fine (unlaid e l o))

  -- a block that is met becomes pending
  abbrev pub meet_block : Room → Load M → BlockId → Handled M
  meet_block room l b =
      cond (nat_lt (length l.memory.pending) room.blocks)
      (fine (record { memory = with_pending l.memory (l.memory.pending ++ record { block = b; next = 0 } ∷ []); queued = l.queued; moments = l.moments }))
      (stops l fault.Full)

  abbrev pub meet_node : Env C → Room → Option OpId → Load M → IRNode → Handled M
  meet_node e room hand l (node.Operation o) = meet_op e room hand l o
  meet_node e room hand l (node.BasicBlock b) = meet_block room l b
  meet_node e room hand l (node.Region r) = fine l

  abbrev pub meet_nodes : Env C → Room → Option OpId → Load M → List IRNode → Handled M
  meet_nodes e room hand l [] = fine l
  meet_nodes e room hand l (n ∷ ns) = and_then (meet_node e room hand l n) (λ k. meet_nodes e room hand k ns)

  -- the histories of dead values go when a batch ends
  abbrev pub forget_dead : Model → Load M → Load M
  forget_dead m l = record { memory = with_histories l.memory (live_only m l.memory.histories); queued = l.queued; moments = l.moments }

  -- First every erased operation is marked, then types are kept, then what was inserted is met.
  abbrev pub handle : Env C → Room → Option OpId → Load M → List RecorderEvent → Handled M
  handle e room hand l es =
      and_then (record_types (record { memory = with_states l.memory (mark_all_erased (model_of e) l.memory.states es); queued = l.queued; moments = l.moments }) es)
      (λ k. and_then (meet_nodes e room hand k (inserted es))
      (λ j. fine (forget_dead (model_of e) j)))
