use Rattle.std.proofs.Common.{sym, refl}
use Rattle.std.proofs.lemmas.Bool.{eq-eqb, ne_eqb}
use Rattle.model.specs.declared.refusal.Refusal.TheVariants.{NotLive}
use Rattle.store.specs.Meaning.{meaning}
use Rattle.calls.specs.World.{set_type}
use Rattle.calls.proofs.Outcomes.{performed_refused}
use Rattle.rewriter.proofs.Ways.{handed}
use Rattle.rewriter.proofs.Values.{type_refused, type_same, type_full, type_done}
use Rattle.rewriter.proofs.rewriter.IRRewriter.set_value_type.Goals as goal

pub returns-in_default : goal.returns-in_default
returns-in_default g c = performed_refused _ _ (set_type c.args.value c.args.to) NotLive (type_refused (meaning c.args.store.now) c.args.value c.in_default.ensures)

pub returns-then-from-to : goal.returns-then-from-to
returns-then-from-to g c =
    type_same _ _ c.args.value c.in-Some.from c.args.to c.in-Some.ensures (sym (eq-eqb c.in-Some.from c.args.to c.if-from-to.true)) (g.met.L.RewriteListener.within c.args.self.now.listener)

pub returns-in_err-room : goal.returns-in_err-room
returns-in_err-room g c =
    handed _ _ (set_type c.args.value c.args.to) _ _ _ _ c.from_residual.result c.from_residual.ensures.1 c.in_err-room.ensures.0
    (type_full _ _ c.args.value c.in-Some.from c.args.to c.in-Some.ensures (sym (ne_eqb c.in-Some.from c.args.to c.if-from-to.false)) c.in_err-room.ensures.1)

pub returns : goal.returns
returns g c =
    type_done _ _ c.args.value c.in-Some.from c.args.to c.in-Some.ensures (sym (ne_eqb c.in-Some.from c.args.to c.if-from-to.false)) c.in_ok-room.ensures _ refl c.notify.ensures c.set_value_type.result c.set_value_type.ensures.answer
