use Rattle.rules.proofs.Whole.{driver_law}
use Rattle.rules.proofs.law_holds.Goals as goal

pub returns : goal.returns
returns g c = driver_law _
