use Rattle.std.proofs.Common.{rules, tests, ◌∙◌}
use Rattle.std.proofs.lemmas.Iterator.{YieldsList-from_slice}
use Rattle.std.proofs.lemmas.Iterator.Search.{any_from_yields_List}
use Rattle.erasing.proofs.Usings.{is_definer, defines_any}
use Rattle.erasing.proofs.uses.has_definer.Goals as goal

pub returns : goal.returns
returns c =
    any_from_yields_List (is_definer c.args.definer) _ _ _ c.any.ensures.ran (YieldsList-from_slice c.args.nodes.now cc) (λ n b q k. search (rules, tests))
    ∙ defines_any c.args.definer c.args.nodes.now
