use Rattle.std.proofs.Common.{◌≡◌, true, false, [], sym, ◌∙◌, rules}
use Rattle.std.proofs.lemmas.Bool.{cond-true, cond-false}
use Rattle.row.specs.Items.{row_items}
use Rattle.model.specs.Calls.{same_value}
use Rattle.rules.specs.Histories.{types_had}
use Rattle.histories.specs.Many.{kept}
use Rattle.histories.proofs.Limits.{types_left}
use Rattle.model.proofs.Equal.{value_eq}
use Rattle.histories.proofs.histories.Histories.types_left.Goals as goal

pub returns-then-eq-clause-types : goal.returns-then-eq-clause-types
returns-then-eq-clause-types c =
    let hs = kept c.args.self.now in
    let v = c.args.value in
    let same : same_value v c.args.gone ≡ true = sym (c.eq.ensures ∙ value_eq v c.args.gone) ∙ c.if-eq.true in
    c.default.ensures ∙ sym (types_left c.args.gone hs v ∙ cond-true (same_value v c.args.gone) [] (types_had hs v) same)

pub returns-clause-types : goal.returns-clause-types
returns-clause-types c =
    let hs = kept c.args.self.now in
    let v = c.args.value in
    let other : same_value v c.args.gone ≡ false = sym (c.eq.ensures ∙ value_eq v c.args.gone) ∙ c.if-eq.false in
    let had : row_items c.unwrap.result ≡ types_had hs v = search rules in
    had ∙ sym (types_left c.args.gone hs v ∙ cond-false (same_value v c.args.gone) [] (types_had hs v) other)
