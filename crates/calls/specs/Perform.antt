-- What a call does: the world after it, and the reply.
use Rattle.std.specs.Prelude.{◌≡◌, ℕ, Bool, true, cond, List, [], ◌∷◌, ◌++◌, map, length, Some, None, Option, ◌==◌}
use Rattle.model.specs.declared.ids.OpId.{OpId}
use Rattle.model.specs.declared.ids.Value.{Value}
use Rattle.model.specs.declared.ids.IRNode.{IRNode}
use Rattle.model.specs.declared.ids.IRNode.TheVariants as node
use Rattle.model.specs.declared.points.OpInsertionPoint.{OpInsertionPoint}
use Rattle.model.specs.declared.points.OpInsertionPoint.TheVariants as point
use Rattle.model.specs.declared.refusal.Refusal.{Refusal}
use Rattle.model.specs.declared.refusal.Refusal.TheVariants.{RecordsFull}
use Rattle.model.specs.Model.{Model, type_of}
use Rattle.model.specs.Calls.{make_at, next_op, next_block, unlink_at, typed_at, replace_all, same_value, result_values, replace_each, Usable}
use Rattle.model.specs.Points.{inserted_at, created_at}
use Rattle.model.specs.Moving.{old_place}
use Rattle.model.specs.Erasing.{part_of, erased}
use Rattle.slots.specs.Cells.{cell_at, is_free}
use Rattle.calls.specs.declared.events.RecorderEvent.{RecorderEvent}
use Rattle.calls.specs.declared.events.RecorderEvent.TheVariants as event
use Rattle.calls.specs.World.{World, Call, make, set_point, insert, append, create, unlink, move, set_type, replace_uses, replace_with, replace_by, erase, Pick, Reply, done, made, created, refused, kept, fits}
use Rattle.calls.specs.Refusing.{refusal}

-- the type of a value, 0 where it is not live
abbrev pub type_from : Option ℕ → ℕ
type_from None = 0
type_from (Some t) = t

abbrev pub type_now : Model → Value → ℕ
type_now m v = type_from (type_of m v)

abbrev pub erasing : IRNode → RecorderEvent
erasing (node.Operation o) = event.ErasedOperation o
erasing (node.BasicBlock b) = event.ErasedBlock b
erasing (node.Region r) = event.ErasedRegion r

-- a record for each value that takes another's place
abbrev pub replacing : Model → List Value → List Value → List RecorderEvent
replacing m [] ws = []
replacing m (v ∷ vs) [] = []
replacing m (v ∷ vs) (w ∷ ws) = event.ReplacedValueUses v (type_now m v) w ∷ replacing m vs ws

abbrev pub exchanged : Model → OpId → List Value → Model
exchanged m o ws = erased (replace_each m (result_values m o) ws) (part_of m (node.Operation o))

abbrev pub exchanging : Model → OpId → List Value → List RecorderEvent
exchanging m o ws = replacing m (result_values m o) ws ++ map erasing (part_of m (node.Operation o))

-- the records that an accepted call makes
abbrev pub events : World → Call → Pick → List RecorderEvent
events w (make kind note vs ts gs) k = []
events w (set_point p) k = []
events w (insert o) k = event.InsertedOperation o ∷ []
events w (append o) k = event.InsertedOperation o ∷ []
events w (create p ts) k = event.InsertedBlock (next_block w.model k.block) ∷ []
events w (unlink o) k = event.UnlinkedOperation o (old_place w.model o) ∷ []
events w (move o p) k = event.UnlinkedOperation o (old_place w.model o) ∷ event.InsertedOperation o ∷ []
events w (set_type v t) k = cond (type_now w.model v == t) [] (event.ValueTypeChanged v (type_now w.model v) t ∷ [])
events w (replace_uses v u) k = cond (same_value v u) [] (event.ReplacedValueUses v (type_now w.model v) u ∷ [])
events w (replace_with o ws) k = exchanging w.model o ws
events w (replace_by o q) k = exchanging w.model o (result_values w.model q)
events w (erase n) k = map erasing (part_of w.model n)

-- the store after an accepted call
abbrev pub changed : World → Call → Pick → Model
changed w (make kind note vs ts gs) k = make_at w.model k.op k.regions kind note vs ts gs
changed w (set_point p) k = w.model
changed w (insert o) k = inserted_at w.model w.point o.slot
changed w (append o) k = inserted_at w.model w.point o.slot
changed w (create p ts) k = created_at w.model p k.block ts
changed w (unlink o) k = unlink_at w.model o.slot (w.model.home_of o.slot)
changed w (move o p) k = inserted_at (unlink_at w.model o.slot (w.model.home_of o.slot)) p o.slot
changed w (set_type v t) k = cond (type_now w.model v == t) w.model (typed_at w.model v.definer v.index t)
changed w (replace_uses v u) k = cond (same_value v u) w.model (replace_all w.model v u)
changed w (replace_with o ws) k = exchanged w.model o ws
changed w (replace_by o q) k = exchanged w.model o (result_values w.model q)
changed w (erase n) k = erased w.model (part_of w.model n)

-- the insertion point after an accepted call
abbrev pub pointed : World → Call → Pick → OpInsertionPoint
pointed w (make kind note vs ts gs) k = w.point
pointed w (set_point p) k = p
pointed w (insert o) k = w.point
pointed w (append o) k = point.AfterOperation o
pointed w (create p ts) k = point.AtBlockEnd (next_block w.model k.block)
pointed w (unlink o) k = w.point
pointed w (move o p) k = w.point
pointed w (set_type v t) k = w.point
pointed w (replace_uses v u) k = w.point
pointed w (replace_with o ws) k = w.point
pointed w (replace_by o q) k = w.point
pointed w (erase n) k = w.point

abbrev pub replied : World → Call → Pick → Reply
replied w (make kind note vs ts gs) k = made (next_op w.model k.op)
replied w (set_point p) k = done
replied w (insert o) k = done
replied w (append o) k = done
replied w (create p ts) k = created (next_block w.model k.block)
replied w (unlink o) k = done
replied w (move o p) k = done
replied w (set_type v t) k = done
replied w (replace_uses v u) k = done
replied w (replace_with o ws) k = done
replied w (replace_by o q) k = done
replied w (erase n) k = done

pub record Outcome : Type 0 where
  pub world : World
  pub reply : Reply

-- refused for want of room comes last
abbrev pub allowing : Bool → World → List RecorderEvent → Option Refusal → Option Refusal
allowing keeps w es (Some e) = Some e
allowing keeps w es None = cond (fits keeps w.records (length es)) None (Some RecordsFull)

abbrev pub settle : Bool → World → Call → Pick → Option Refusal → Outcome
settle keeps w c k (Some e) = record { world = w; reply = refused e }
settle keeps w c k None = record {
  world = record { model = changed w c k; point = pointed w c k; records = w.records ++ kept keeps (events w c k) };
  reply = replied w c k;
}

-- what the call does, where the listener keeps records or not, and the slots picked are k
abbrev pub perform : Bool → World → Call → Pick → Outcome
perform keeps w c k = settle keeps w c k (allowing keeps w (events w c k) (refusal w c))

-- the slots picked can be used by the call
abbrev pub Could : Model → Call → Pick → Type 0
Could m (make kind note vs ts gs) k = Usable m k.op k.regions gs
Could m (set_point p) k = Unit {0}
Could m (insert o) k = Unit {0}
Could m (append o) k = Unit {0}
Could m (create p ts) k = is_free (cell_at m.blocks k.block) ≡ true
Could m (unlink o) k = Unit {0}
Could m (move o p) k = Unit {0}
Could m (set_type v t) k = Unit {0}
Could m (replace_uses v u) k = Unit {0}
Could m (replace_with o ws) k = Unit {0}
Could m (replace_by o q) k = Unit {0}
Could m (erase n) k = Unit {0}

-- for some slots, the call leads from the world w to v with this reply; where it is accepted, they could be used
pub record Performed (keeps : Bool) (w : World) (c : Call) (v : World) (r : Reply) : Type 0 where
  pub pick : Pick
  pub could : allowing keeps w (events w c pick) (refusal w c) ≡ None → Could w.model c pick
  pub does : perform keeps w c pick ≡ record { world = v; reply = r }
