use Rattle.std.proofs.Common.{[], ◌∷◌, ◌++◌, refl, ap, ◌∙◌}
use Rattle.calls.specs.declared.events.RecorderEvent.TheVariants.{UnlinkedOperation}
use Rattle.calls.specs.World.{unlink, kept}
use Rattle.calls.proofs.Outcomes.{performed_full}
use Rattle.model.proofs.Refusals.{passes}
use Rattle.rewriter.proofs.Ways.{none_picked, handed, checked}
use Rattle.rewriter.proofs.Moves.{unlink_done}
use Rattle.rewriter.proofs.rewriter.IRRewriter.unlink_operation.Goals as goal

pub returns-in_err-check_unlink : goal.returns-in_err-check_unlink
returns-in_err-check_unlink g c = checked _ _ (unlink c.args.op) _ _ c.from_residual.result c.from_residual.ensures.1 c.in_err-check_unlink.ensures

pub returns-in_err-room : goal.returns-in_err-room
returns-in_err-room g c =
    handed _ _ (unlink c.args.op) _ _ _ _ c.from_residual-in_err-room.result c.from_residual-in_err-room.ensures.1 c.in_err-room.ensures.0
    (performed_full _ _ (unlink c.args.op) (passes _ c.in_ok-check_unlink.ensures) none_picked c.in_err-room.ensures.1)

pub returns : goal.returns
returns g c =
    unlink_done _ _ c.args.op (passes _ c.in_ok-check_unlink.ensures) (c.in_ok-room.ensures) _ refl
    (c.notify.ensures ∙ ap (λ p. g.L.RewriteListener.log c.args.self.now.listener ++ kept g.L.RewriteListener.keeps (UnlinkedOperation c.args.op p ∷ [])) c.old_place-old_place.ensures)
    c.unlink_operation.result c.unlink_operation.ensures.answer
