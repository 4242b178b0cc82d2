use Rattle.law.proofs.Examples.{cases}
use Rattle.law.proofs.cases_hold.Goals as goal

pub returns : goal.returns
returns c = cases
