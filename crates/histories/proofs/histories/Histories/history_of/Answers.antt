use Rattle.std.proofs.Common.{ℕ, List, ap, ◌∙◌, rules}
use Rattle.rules.specs.Histories.{History}
use Rattle.rules_next.specs.Histories.{history_of}
use Rattle.histories.specs.Kept.{histories}
use Rattle.histories.proofs.Places.{types_in, types_found, types_read}
use Rattle.histories.proofs.histories.Histories.history_of.Goals as goal

pub returns : goal.returns
returns c =
    let xs = c.as_slice.result.now in
    let v = c.args.value in
    let with-types : List ℕ → History = λ ts. record { value = v; types = ts } in
    ap with-types (types_read c.find-found.result c.map_or-types.result (search rules) ∙ ap types_in c.find-found.ensures ∙ types_found v (histories xs))
    ∙ ap (λ ys. history_of (histories ys) v) c.as_slice.ensures.value
