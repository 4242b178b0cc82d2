use Rattle.std.proofs.Common.{refl}
use Rattle.calls.specs.World.{insert, done}
use Rattle.calls.proofs.Outcomes.{performed_full, performed_done}
use Rattle.model.proofs.Refusals.{passes}
use Rattle.rewriter.proofs.Ways.{none_picked, handed, checked}
use Rattle.rewriter.proofs.rewriter.IRRewriter.insert_operation.Goals as goal

pub returns-in_err-check_insert : goal.returns-in_err-check_insert
returns-in_err-check_insert g c = checked _ _ (insert c.args.op) _ _ c.from_residual.result c.from_residual.ensures.1 c.in_err-check_insert.ensures

pub returns-in_err-room : goal.returns-in_err-room
returns-in_err-room g c =
    handed _ _ (insert c.args.op) _ _ _ _ c.from_residual-in_err-room.result c.from_residual-in_err-room.ensures.1 c.in_err-room.ensures.0
    (performed_full _ _ (insert c.args.op) (passes _ c.in_ok-check_insert.ensures) none_picked c.in_err-room.ensures.1)

pub returns : goal.returns
returns g c = performed_done _ _ (insert c.args.op) (passes _ c.in_ok-check_insert.ensures) none_picked (c.in_ok-room.ensures) tt _ c.link_operation.ensures refl c.notify.ensures done refl
