use Rattle.std.proofs.Common.{refl}
use Rattle.calls.specs.World.{append}
use Rattle.rewriter.proofs.Ways.{handed, appended, append_refused}
use Rattle.rewriter.proofs.rewriter.IRRewriter.append_operation.Goals as goal

pub returns-in_err-insert_operation : goal.returns-in_err-insert_operation
returns-in_err-insert_operation g c =
    handed _ _ (append c.args.op) _ _ _ _ c.from_residual.result c.from_residual.ensures.1 refl (append_refused _ _ _ c.args.op _ c.in_err-insert_operation.ensures)

pub returns : goal.returns
returns g c = appended _ _ _ c.args.op c.in_ok-insert_operation.ensures
