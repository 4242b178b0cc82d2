use Rattle.std.proofs.Common.{◌≡◌, not, rules, tests, sym, ap, ◌∙◌}
use Rattle.std.proofs.lemmas.Iterator.{YieldsList-from_slice}
use Rattle.std.proofs.lemmas.Iterator.Search.{any_from_yields_List}
use Rattle.model.specs.Calls.{chained}
use Rattle.model.specs.Erasing.{has_op, defines, some_defined}
use Rattle.erasing.proofs.Usings.{operands_after, false_unless, not_unless, defined_none, defined_some}
use Rattle.erasing.proofs.uses.uses_from_outside.Goals as goal
use Rattle.erasing.proofs.uses.uses_from_outside.Goals.{After-any}

met : (c : After-any) → c.any.result ≡ some_defined c.args.nodes.now (operands_after c.args.tables.now c.args.change.now.olds.now c.args.change.now.news.now c.args.slot)
met c =
    let x = c.args.change.now in
    any_from_yields_List (λ v. defines c.args.nodes.now (chained x.olds.now x.news.now v).definer) _ _ _ c.any.ensures.ran (YieldsList-from_slice c.as_slice.result.now cc) (λ v b q k. search (rules, tests))
    ∙ defined_some c.args.tables.now c.args.nodes.now x.olds.now x.news.now c.args.slot c.in-Some.operation.now c.as_slice.result.now c.in-Some.ensures c.as_slice.ensures

pub returns-in_default : goal.returns-in_default
returns-in_default c =
    let x = c.args.change.now in
    false_unless (has_op c.args.nodes.now c.args.slot) _ (defined_none c.args.tables.now c.args.nodes.now x.olds.now x.news.now c.args.slot c.in_default.ensures)

pub returns-then-any : goal.returns-then-any
returns-then-any c = ap not c.has_op.ensures ∙ not_unless (has_op c.args.nodes.now c.args.slot) _ (sym c.if-any.true ∙ met (goal.at.returns-then-any c).After-any)

pub returns-else-any : goal.returns-else-any
returns-else-any c = c.if-any.false ∙ false_unless (has_op c.args.nodes.now c.args.slot) _ (sym c.if-any.false ∙ met (goal.at.returns-else-any c).After-any)
