-- What a rewriter sees and changes, and what it is asked.
use Rattle.std.specs.Prelude.{ℕ, ◌+◌, Bool, true, false, List, [], length, nat_le}
use Rattle.model.specs.declared.ids.OpId.{OpId}
use Rattle.model.specs.declared.ids.BlockId.{BlockId}
use Rattle.model.specs.declared.ids.Value.{Value}
use Rattle.model.specs.declared.ids.IRNode.{IRNode}
use Rattle.model.specs.declared.points.OpInsertionPoint.{OpInsertionPoint}
use Rattle.model.specs.declared.points.BlockInsertionPoint.{BlockInsertionPoint}
use Rattle.model.specs.declared.refusal.Refusal.{Refusal}
use Rattle.model.specs.Model.{Model}
use Rattle.calls.specs.declared.events.RecorderEvent.{RecorderEvent}

-- the store's meaning, the rewriter's insertion point, and the records kept so far
pub record World : Type 0 where
  pub model : Model
  pub point : OpInsertionPoint
  pub records : List RecorderEvent

-- the calls of a rewriter, and making
pub data Call : Type 0 where
  -- kind, note, operands, result types, and a mark for each region
  make : ℕ → ℕ → List Value → List ℕ → List Bool → Call
  set_point : OpInsertionPoint → Call
  insert : OpId → Call
  append : OpId → Call
  create : BlockInsertionPoint → List ℕ → Call
  unlink : OpId → Call
  move : OpId → OpInsertionPoint → Call
  set_type : Value → ℕ → Call
  replace_uses : Value → Value → Call
  replace_with : OpId → List Value → Call
  replace_by : OpId → OpId → Call
  erase : IRNode → Call

-- the slots that a call which makes something uses
pub record Pick : Type 0 where
  pub op : ℕ
  pub regions : List ℕ
  pub block : ℕ

pub data Reply : Type 0 where
  done : Reply
  made : OpId → Reply
  created : BlockId → Reply
  refused : Refusal → Reply

-- a listener keeps every record, or none; one that keeps them has room for 1024
abbrev pub kept : Bool → List RecorderEvent → List RecorderEvent
kept true es = es
kept false es = []

abbrev pub fits : Bool → List RecorderEvent → ℕ → Bool
fits true es n = nat_le (length es + n) 1024
fits false es n = true
