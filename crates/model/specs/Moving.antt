-- An operation is moved: when that is refused, and where it was.
use Rattle.std.specs.Prelude.{ℕ, Bool, false, cond, not, ◌&&◌, is_some, Some, None, Option, ◌==◌}
use Rattle.lists.specs.Walk.{first_of, last_of}
use Rattle.model.specs.declared.ids.OpId.{OpId}
use Rattle.model.specs.declared.points.OpInsertionPoint.{OpInsertionPoint}
use Rattle.model.specs.declared.points.OpInsertionPoint.TheVariants as point
use Rattle.model.specs.declared.refusal.Refusal.{Refusal}
use Rattle.model.specs.declared.refusal.Refusal.TheVariants.{NotLive, PointUnset, NoBlock, Inside}
use Rattle.model.specs.Model.{Model, find_op, inside, op_id, block_id, prev_slot}
use Rattle.model.specs.Points.{is_unset, block_at, point_live}

-- does the point name this operation?
abbrev pub names : OpInsertionPoint → OpId → Bool
names point.Unset o = false
names (point.AtBlockStart b) o = false
names (point.AtBlockEnd b) o = false
names (point.AfterOperation k) o = k.slot == o.slot
names (point.BeforeOperation k) o = k.slot == o.slot

-- where there is no block to go to, or it lies inside the operation
abbrev pub target_refusal : Model → OpId → Option ℕ → Option Refusal
target_refusal m o None = Some NoBlock
target_refusal m o (Some b) = cond (inside m o.slot b) (Some Inside) None

abbrev pub move_refusal : Model → OpId → OpInsertionPoint → Option Refusal
move_refusal m o p =
    cond (is_some (find_op m o) && point_live m p)
    (cond (is_unset p) (Some PointUnset)
    (cond (is_some (m.home_of o.slot) && not (names p o)) (target_refusal m o (block_at m p))
    (Some NoBlock)))
    (Some NotLive)

-- where an operation stands: at its block's start, else at its end, else behind the one before it
abbrev pub same_slot : Option ℕ → ℕ → Bool
same_slot None s = false
same_slot (Some t) s = t == s

abbrev pub behind : Model → Option ℕ → OpInsertionPoint
behind m None = point.Unset
behind m (Some t) = point.AfterOperation (op_id m t)

abbrev pub place_in : Model → ℕ → Option ℕ → OpInsertionPoint
place_in m s None = point.Unset
place_in m s (Some b) =
    cond (same_slot (first_of (m.ops_of b)) s) (point.AtBlockStart (block_id m b))
    (cond (same_slot (last_of None (m.ops_of b)) s) (point.AtBlockEnd (block_id m b))
    (behind m (prev_slot m s)))

abbrev pub old_place : Model → OpId → OpInsertionPoint
old_place m o = place_in m o.slot (m.home_of o.slot)
