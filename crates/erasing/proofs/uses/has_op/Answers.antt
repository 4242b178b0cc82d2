use Rattle.std.proofs.Common.{rules, tests, ◌∙◌}
use Rattle.std.proofs.lemmas.Iterator.{YieldsList-from_slice}
use Rattle.std.proofs.lemmas.Iterator.Search.{any_from_yields_List}
use Rattle.model.specs.Erasing.{is_op}
use Rattle.erasing.proofs.Usings.{has_any}
use Rattle.erasing.proofs.uses.has_op.Goals as goal

pub returns : goal.returns
returns c =
    any_from_yields_List (λ n. is_op n c.args.slot) _ _ _ c.any.ensures.ran (YieldsList-from_slice c.args.nodes.now cc) (λ n b q k. search (rules, tests))
    ∙ has_any is_op c.args.nodes.now c.args.slot
