use Rattle.std.proofs.Common.{◌/◌, eqb, sym, ap, ◌∙◌, rules, tests}
use Rattle.std.proofs.lemmas.Iterator.Consumers.{YieldsList-from_copied}
use Rattle.std.proofs.lemmas.Iterator.Adapters.{YieldsList-from_rev_slice}
use Rattle.std.proofs.lemmas.Iterator.Search.{find_from_yields_List}
use Rattle.conversion.specs.Info.{last_of_kind}
use Rattle.conversion.proofs.Lasts.{kind_back, same_option}
use Rattle.conversion.proofs.operands_info.OperandsInfo.lookup_most_recent_of_type.Goals as goal

pub returns : goal.returns
returns c =
    let ts = c.types.result.now in
    sym (same_option c.find.result)
    ∙ find_from_yields_List (λ t. eqb (t / 65536) c.args.kind) _ _ c.find.result c.find.ensures.ran (YieldsList-from_copied (YieldsList-from_rev_slice ts cc)) (λ x b q k. search (rules, tests))
    ∙ kind_back c.args.kind ts
    ∙ ap (last_of_kind c.args.kind) c.types.ensures
