use Rattle.std.proofs.Common.{rules, tests, ◌∙◌}
use Rattle.std.proofs.lemmas.Iterator.{YieldsList-from_slice}
use Rattle.std.proofs.lemmas.Iterator.Search.{any_from_yields_List}
use Rattle.model.specs.Erasing.{defines}
use Rattle.erasing.proofs.Usings.{some_defined_any}
use Rattle.erasing.proofs.uses.some_defined.Goals as goal

pub returns : goal.returns
returns c =
    any_from_yields_List (λ v. defines c.args.nodes.now v.definer) _ _ _ c.any.ensures.ran (YieldsList-from_slice c.args.values.now cc) (λ v b q k. search (rules, tests))
    ∙ some_defined_any c.args.nodes.now c.args.values.now
