use Rattle.std.proofs.Common.{rules}
use Rattle.std.proofs.lemmas.Iterator.{YieldsList-from_slice}
use Rattle.std.proofs.lemmas.Iterator.Search.{find_from_yields_List}
use Rattle.model.specs.contracts.ids.ValuePartialEq.TheImpl.{ghosts}
use Rattle.histories.specs.declared.history.TypeHistory.{TypeHistory}
use Rattle.histories.proofs.Places.{entry_found}
use Rattle.histories.proofs.lookups.find.Goals as goal

pub returns : goal.returns
returns c =
    entry_found c.args.value c.args.entries.now c.find.result
    (find_from_yields_List (λ (x : TypeHistory). ghosts.eq x.value c.args.value) _ _ c.find.result c.find.ensures.ran (YieldsList-from_slice c.args.entries.now cc) (λ x b q k. search rules))
