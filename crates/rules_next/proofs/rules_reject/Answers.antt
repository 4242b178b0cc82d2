use Rattle.rules_next.proofs.Rejecting.{rules_reject}
use Rattle.rules_next.proofs.rules_reject.Goals as goal

pub returns : goal.returns
returns g c = rules_reject _
