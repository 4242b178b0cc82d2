use Rattle.std.proofs.Common.{◌∙◌}
use Rattle.work.proofs.Same.{any_erased}
use Rattle.work.proofs.work.handling.block_erased.Goals as goal

pub returns : goal.returns
returns c = c.contains.ensures.value ∙ any_erased c.args.events.now c.args.block
