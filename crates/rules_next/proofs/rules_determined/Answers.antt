use Rattle.rules_next.proofs.Runs.{rules_determined}
use Rattle.rules_next.proofs.rules_determined.Goals as goal

pub returns : goal.returns
returns g c = rules_determined _
