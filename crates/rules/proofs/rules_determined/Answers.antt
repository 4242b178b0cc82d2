use Rattle.rules.proofs.Runs.{rules_determined}
use Rattle.rules.proofs.rules_determined.Goals as goal

pub returns : goal.returns
returns g c = rules_determined _
