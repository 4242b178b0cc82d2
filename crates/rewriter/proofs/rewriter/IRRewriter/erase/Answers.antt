use Rattle.std.proofs.Common.{◌++◌, map, sym, refl, ap, ◌∙◌}
use Rattle.model.specs.declared.refusal.Refusal.TheVariants.{NotLive}
use Rattle.store.specs.Meaning.{meaning}
use Rattle.walkers.specs.Listed.{nodes_in}
use Rattle.calls.specs.World.{erase, kept, fits}
use Rattle.calls.specs.Perform.{erasing}
use Rattle.calls.proofs.Outcomes.{performed_refused}
use Rattle.rewriter.proofs.Ways.{handed}
use Rattle.rewriter.proofs.Erasures.{erase_refused, erase_used, erase_full, erase_done}
use Rattle.rewriter.proofs.rewriter.IRRewriter.erase.Goals as goal

pub returns-in_err-list_part : goal.returns-in_err-list_part
returns-in_err-list_part g c =
    let h = c.in_err-list_part.ensures in
    handed _ _ (erase c.args.node) _ _ _ _ c.from_residual.result c.from_residual.ensures.1 h.1 (performed_refused _ _ (erase c.args.node) NotLive (erase_refused (meaning c.args.store.now) c.args.node h.0))

pub returns-then-used_outside : goal.returns-then-used_outside
returns-then-used_outside g c = erase_used _ _ c.args.node (nodes_in c.list_part.new.part) c.in_ok-list_part.ensures c.if-used_outside.ensures

pub returns-in_err-room : goal.returns-in_err-room
returns-in_err-room g c =
    handed _ _ (erase c.args.node) _ _ _ _ c.from_residual-in_err-room.result c.from_residual-in_err-room.ensures.1 c.in_err-room.ensures.0
    (erase_full _ _ c.args.node (nodes_in c.list_part.new.part) c.in_ok-list_part.ensures c.if-used_outside.ensures
    (ap (fits g.L.RewriteListener.keeps (g.L.RewriteListener.log c.args.self.now.listener)) (sym c.len.ensures.value) ∙ c.in_err-room.ensures.1))

pub returns : goal.returns
returns g c =
    let keeps = g.L.RewriteListener.keeps in
    let es = g.L.RewriteListener.log c.args.self.now.listener in
    erase_done _ _ c.args.node (nodes_in c.list_part.new.part) c.in_ok-list_part.ensures c.if-used_outside.ensures
    (ap (fits keeps es) (sym c.len.ensures.value) ∙ c.in_ok-room.ensures) _ c.erase_part.ensures refl
    (c.notify_erasures.ensures ∙ ap (λ ns. es ++ kept keeps (map erasing ns)) c.as_slice.ensures)
