use Rattle.std.proofs.Common.{ap, ◌∙◌}
use Rattle.histories.specs.Kept.{histories, is_kept}
use Rattle.histories.proofs.Places.{kept_found}
use Rattle.histories.proofs.histories.Histories.is_kept.Goals as goal

pub returns : goal.returns
returns c = c.is_some.ensures ∙ kept_found c.args.value c.find.result _ c.find.ensures ∙ ap (λ ys. is_kept (histories ys) c.args.value) c.as_slice.ensures.value
