use Rattle.std.proofs.Common.{◌∙◌, rules}
use Rattle.std.proofs.lemmas.Iterator.{YieldsList-from_slice}
use Rattle.std.proofs.lemmas.Iterator.Search.{position_from_yields_List}
use Rattle.model.specs.contracts.ids.ValuePartialEq.TheImpl.{ghosts}
use Rattle.histories.specs.declared.history.TypeHistory.{TypeHistory}
use Rattle.histories.proofs.Places.{place_found}
use Rattle.histories.proofs.lookups.place_of.Goals as goal

pub returns-clause-place : goal.returns-clause-place
returns-clause-place c =
    position_from_yields_List (λ (x : TypeHistory). ghosts.eq x.value c.args.value) _ _ _ c.position.ensures.ran (YieldsList-from_slice c.args.entries.now cc) (λ x b q k. search rules)
    ∙ place_found c.args.entries.now c.args.value
