-- When a call is refused, but for want of room for its records: the first reason of the table that applies.
use Rattle.std.specs.Prelude.{cond, ◌&&◌, List, length, is_some, Some, None, Option, ◌==◌}
use Rattle.model.specs.declared.ids.OpId.{OpId}
use Rattle.model.specs.declared.ids.Value.{Value}
use Rattle.model.specs.declared.ids.IRNode.TheVariants as node
use Rattle.model.specs.declared.refusal.Refusal.{Refusal}
use Rattle.model.specs.declared.refusal.Refusal.TheVariants.{NotLive, CountsDiffer, StillUsed, OwnValue}
use Rattle.model.specs.Model.{Model, find_op, are_values, results_of}
use Rattle.model.specs.Calls.{make_refusal, unlink_refusal, type_refusal, replace_refusal, result_values, replace_each}
use Rattle.model.specs.Points.{insert_refusal, create_refusal}
use Rattle.model.specs.Moving.{move_refusal}
use Rattle.model.specs.Erasing.{part_of, used_outside, some_defined, erase_refusal}
use Rattle.calls.specs.World.{World, Call, make, set_point, insert, append, create, unlink, move, set_type, replace_uses, replace_with, replace_by, erase}

-- the operation o is replaced by the values ws, which are live as o is
abbrev pub exchange_refusal : Model → OpId → List Value → Option Refusal
exchange_refusal m o ws =
    cond (length (results_of (find_op m o)) == length ws)
    (cond (used_outside (replace_each m (result_values m o) ws) (part_of m (node.Operation o))) (Some StillUsed)
    (cond (some_defined (part_of m (node.Operation o)) ws) (Some OwnValue) None))
    (Some CountsDiffer)

abbrev pub with_refusal : Model → OpId → List Value → Option Refusal
with_refusal m o ws = cond (is_some (find_op m o) && are_values m ws) (exchange_refusal m o ws) (Some NotLive)

abbrev pub by_refusal : Model → OpId → OpId → Option Refusal
by_refusal m o q = cond (is_some (find_op m o) && is_some (find_op m q)) (exchange_refusal m o (result_values m q)) (Some NotLive)

abbrev pub refusal : World → Call → Option Refusal
refusal w (make kind note vs ts gs) = make_refusal w.model vs ts gs
refusal w (set_point p) = None
refusal w (insert o) = insert_refusal w.model w.point o
refusal w (append o) = insert_refusal w.model w.point o
refusal w (create p ts) = create_refusal w.model p ts
refusal w (unlink o) = unlink_refusal w.model o
refusal w (move o p) = move_refusal w.model o p
refusal w (set_type v t) = type_refusal w.model v
refusal w (replace_uses v u) = replace_refusal w.model v u
refusal w (replace_with o ws) = with_refusal w.model o ws
refusal w (replace_by o q) = by_refusal w.model o q
refusal w (erase n) = erase_refusal w.model n
