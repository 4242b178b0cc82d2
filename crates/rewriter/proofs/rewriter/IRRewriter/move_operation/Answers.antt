use Rattle.std.proofs.Common.{refl, ap, rules}
use Rattle.calls.specs.World.{move}
use Rattle.calls.proofs.Outcomes.{performed_full}
use Rattle.model.proofs.Refusals.{passes}
use Rattle.rewriter.proofs.Ways.{none_picked, handed, checked}
use Rattle.rewriter.proofs.Moves.{out_taken, moved}
use Rattle.rewriter.proofs.rewriter.IRRewriter.move_operation.Goals as goal

pub returns-in_err-check_move : goal.returns-in_err-check_move
returns-in_err-check_move g c = checked _ _ (move c.args.op c.args.point) _ _ c.from_residual.result c.from_residual.ensures.1 c.in_err-check_move.ensures

pub returns-in_err-room : goal.returns-in_err-room
returns-in_err-room g c =
    handed _ _ (move c.args.op c.args.point) _ _ _ _ c.from_residual-in_err-room.result c.from_residual-in_err-room.ensures.1 c.in_err-room.ensures.0
    (performed_full _ _ (move c.args.op c.args.point) (passes _ c.in_ok-check_move.ensures) none_picked c.in_err-room.ensures.1)

pub returns-in_err-unlink_operation : goal.returns-in_err-unlink_operation
returns-in_err-unlink_operation g c =
    out_taken _ _ _ c.args.op c.args.point (passes _ c.in_ok-check_move.ensures) (c.in_ok-room.ensures) _ c.in_err-unlink_operation.ensures

pub returns : goal.returns
returns g c =
    let log = g.L.RewriteListener.log in
    let new = c.new-scoped.ensures in
    moved _ _ _ c.args.op c.args.point (passes _ c.in_ok-check_move.ensures) (c.in_ok-room.ensures) c.in_ok-unlink_operation.ensures
    _ refl new.point (ap log new.listener) _ _ c.insert_operation.ensures.call _ refl (search rules) (search rules)
