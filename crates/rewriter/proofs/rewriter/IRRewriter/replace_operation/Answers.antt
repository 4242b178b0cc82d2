use Rattle.std.proofs.Common.{sym, ◌∙◌}
use Rattle.model.specs.declared.refusal.Refusal.TheVariants.{NotLive}
use Rattle.store.specs.Meaning.{meaning}
use Rattle.calls.specs.World.{replace_by}
use Rattle.calls.proofs.Outcomes.{performed_refused}
use Rattle.rewriter.proofs.Exchanges.{by_dead, by_with}
use Rattle.rewriter.proofs.rewriter.IRRewriter.replace_operation.Goals as goal

pub returns-then-not-is_live : goal.returns-then-not-is_live
returns-then-not-is_live g c =
    performed_refused _ _ (replace_by c.args.op c.args.new_op) NotLive (by_dead (meaning c.args.store.now) c.args.op c.args.new_op (sym c.if-not-is_live.ensures.answer))

pub returns : goal.returns
returns g c =
    by_with _ _ _ c.args.op c.args.new_op _ (sym c.if-not-is_live.ensures.answer) c.as_slice.result.now (c.as_slice.ensures ∙ c.results-values.ensures) c.replace_operation_with_values.ensures
