use Rattle.rules_next.proofs.Whole.{driver_law}
use Rattle.rules_next.proofs.law_holds.Goals as goal

pub returns : goal.returns
returns g c = driver_law _
