use Rattle.std.proofs.Common.{◌≡◌, not, eqb, rules, tests, ap, ◌∙◌}
use Rattle.row.specs.Items.{row_items}
use Rattle.row.proofs.Rows.{retained_filter}
use Rattle.model.specs.Erasing.{less}
use Rattle.histories.proofs.joining.without.Goals as goal

pub returns : goal.returns
returns c =
    let had : row_items c.unwrap-others.result ≡ c.args.types.now = search rules in
    retained_filter _ (λ t. not (eqb c.args.ty t)) (λ x b q. search (rules, tests)) _ _ c.retain.ensures ∙ ap (less (eqb c.args.ty)) had
