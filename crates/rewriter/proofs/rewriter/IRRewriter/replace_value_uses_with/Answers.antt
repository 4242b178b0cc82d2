use Rattle.std.proofs.Common.{is_some, sym, refl, ap, ◌∙◌}
use Rattle.model.specs.declared.refusal.Refusal.TheVariants.{NotLive}
use Rattle.store.specs.Meaning.{meaning}
use Rattle.calls.specs.World.{replace_uses}
use Rattle.calls.proofs.Outcomes.{performed_refused}
use Rattle.model.proofs.Equal.{value_eq}
use Rattle.rewriter.proofs.Ways.{handed}
use Rattle.rewriter.proofs.Values.{old_refused, new_refused, uses_same, uses_full, uses_done}
use Rattle.rewriter.proofs.rewriter.IRRewriter.replace_value_uses_with.Goals as goal

pub returns-in_default : goal.returns-in_default
returns-in_default g c = performed_refused _ _ (replace_uses c.args.old c.args.new) NotLive (old_refused (meaning c.args.store.now) c.args.old c.args.new c.in_default.ensures)

pub returns-then-is_none : goal.returns-then-is_none
returns-then-is_none g c =
    performed_refused _ _ (replace_uses c.args.old c.args.new) NotLive
    (new_refused (meaning c.args.store.now) c.args.old c.args.new c.in-Some.from c.in-Some.ensures (ap is_some (sym c.value_type-2.ensures) ∙ c.if-is_none.ensures))

pub returns-then-eq : goal.returns-then-eq
returns-then-eq g c =
    uses_same _ _ c.args.old c.args.new c.in-Some.from c.in-Some.ensures (ap is_some (sym c.value_type-2.ensures) ∙ c.if-is_none.ensures) (c.if-eq.ensures ∙ value_eq c.args.old c.args.new)
    (g.met.L.RewriteListener.within c.args.self.now.listener)

pub returns-in_err-room : goal.returns-in_err-room
returns-in_err-room g c =
    handed _ _ (replace_uses c.args.old c.args.new) _ _ _ _ c.from_residual.result c.from_residual.ensures.1 c.in_err-room.ensures.0
    (uses_full _ _ c.args.old c.args.new c.in-Some.from c.in-Some.ensures (ap is_some (sym c.value_type-2.ensures) ∙ c.if-is_none.ensures) (c.if-eq.ensures ∙ value_eq c.args.old c.args.new)
    c.in_err-room.ensures.1)

pub returns : goal.returns
returns g c =
    uses_done _ _ c.args.old c.args.new c.in-Some.from c.in-Some.ensures (ap is_some (sym c.value_type-2.ensures) ∙ c.if-is_none.ensures) (c.if-eq.ensures ∙ value_eq c.args.old c.args.new)
    c.in_ok-room.ensures _ refl c.notify.ensures c.replace_all_uses.result c.replace_all_uses.ensures.answer
