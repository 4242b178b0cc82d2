use Rattle.std.proofs.Common.{ap, ◌∙◌, rules}
use Rattle.conversion.specs.Info.{last_type}
use Rattle.conversion.proofs.Lasts.{last_read}
use Rattle.conversion.proofs.operands_info.OperandsInfo.lookup_most_recent_type.Goals as goal

pub returns : goal.returns
returns c = c.copied.ensures ∙ last_read c.types.result.now _ (search rules) ∙ ap last_type c.types.ensures
