use Rattle.std.proofs.Common.{ap, ◌∙◌}
use Rattle.histories.specs.Kept.{histories}
use Rattle.histories.proofs.Places.{types_in, types_found}
use Rattle.histories.proofs.lookups.types_had.Goals as goal

pub returns-in-Some : goal.returns-in-Some
returns-in-Some c = c.as_slice.ensures ∙ ap types_in c.in-Some.ensures ∙ types_found c.args.value (histories c.args.entries.now)

pub returns-in-None : goal.returns-in-None
returns-in-None c = ap types_in c.in-None.ensures ∙ types_found c.args.value (histories c.args.entries.now)
