use Rattle.std.proofs.Common.{[], ◌∷◌, ◌++◌, ap, ◌∙◌}
use Rattle.model.specs.declared.points.OpInsertionPoint.TheVariants.{AtBlockEnd}
use Rattle.calls.specs.declared.events.RecorderEvent.TheVariants.{InsertedBlock}
use Rattle.calls.specs.World.{create, created, kept}
use Rattle.calls.proofs.Outcomes.{performed_full, performed_done}
use Rattle.model.proofs.Refusals.{passes}
use Rattle.rewriter.proofs.Ways.{none_picked, handed, checked}
use Rattle.rewriter.proofs.rewriter.IRRewriter.create_block.Goals as goal

pub returns-in_err-check_create : goal.returns-in_err-check_create
returns-in_err-check_create g c = checked _ _ (create c.args.point c.args.arg_types.now) _ _ c.from_residual.result c.from_residual.ensures.1 c.in_err-check_create.ensures

pub returns-in_err-room : goal.returns-in_err-room
returns-in_err-room g c =
    handed _ _ (create c.args.point c.args.arg_types.now) _ _ _ _ c.from_residual-in_err-room.result c.from_residual-in_err-room.ensures.1 c.in_err-room.ensures.0
    (performed_full _ _ (create c.args.point c.args.arg_types.now) (passes _ c.in_ok-check_create.ensures) none_picked c.in_err-room.ensures.1)

pub returns : goal.returns
returns g c =
    let b = c.place_block-block.result in
    let h = c.place_block-block.ensures in
    let keeps = g.L.RewriteListener.keeps in
    performed_done keeps _ (create c.args.point c.args.arg_types.now) h.allowed (record { op = 0; regions = []; block = b.slot }) (c.in_ok-room.ensures) h.usable _ h.after (ap AtBlockEnd h.is)
    (c.notify.ensures ∙ ap (λ x. g.L.RewriteListener.log c.args.self.now.listener ++ kept keeps (InsertedBlock x ∷ [])) h.is) (created b) (ap created h.is)
