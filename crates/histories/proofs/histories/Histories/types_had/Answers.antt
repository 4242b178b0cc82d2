use Rattle.std.proofs.Common.{length, vec_items, ap, ◌∙◌, arith}
use Rattle.rules.specs.Histories.{types_had}
use Rattle.histories.specs.Kept.{histories}
use Rattle.histories.proofs.Limits.{types_few}
use Rattle.histories.proofs.histories.Histories.types_had.Goals as goal

pub returns-clause-count : goal.returns-clause-count
returns-clause-count c =
    let had = c.types_had.ensures ∙ ap (λ xs. types_had (histories xs) c.args.value) c.as_slice.ensures.value in
    omega (arith, ap length had, types_few (vec_items c.args.self.now.entries) c.args.value)
