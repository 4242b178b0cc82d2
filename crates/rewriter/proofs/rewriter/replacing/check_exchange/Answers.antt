use Rattle.std.proofs.Common.{true, false, length, sym, refl, ap, ◌∙◌}
use Rattle.std.proofs.lemmas.Bool.{eq-eqb, ne_eqb}
use Rattle.row.specs.Items.{row_items}
use Rattle.store.specs.Meaning.{meaning}
use Rattle.model.specs.Erasing.{some_defined}
use Rattle.walkers.specs.Listed.{nodes_in}
use Rattle.rewriter.proofs.Exchanges.{exchange_reasons}
use Rattle.rewriter.proofs.rewriter.replacing.check_exchange.Goals as goal

pub returns-then-len-values : goal.returns-then-len-values
returns-then-len-values c =
    let vs = row_items c.results-results.result in
    let ws = c.args.values.now in
    exchange_reasons (meaning c.args.store.now) c.args.op vs ws (nodes_in c.args.part.now) c.results-results.ensures c.requires false _ _
    (sym (ne_eqb (length vs) (length ws) (λ e. c.if-len-values.true (c.len.ensures.value ∙ e)))) refl refl

pub returns-then-used_after : goal.returns-then-used_after
returns-then-used_after c =
    let vs = c.as_slice.result.now in
    let ws = c.args.values.now in
    exchange_reasons (meaning c.args.store.now) c.args.op vs ws (nodes_in c.args.part.now) (c.as_slice.ensures ∙ c.results-results.ensures) c.requires true true _
    (sym (eq-eqb (length vs) (length ws) (ap length c.as_slice.ensures ∙ sym c.len.ensures.value ∙ c.if-len-values.false))) c.if-used_after.ensures refl

pub returns-then-some_defined : goal.returns-then-some_defined
returns-then-some_defined c =
    let vs = c.as_slice.result.now in
    let ws = c.args.values.now in
    exchange_reasons (meaning c.args.store.now) c.args.op vs ws (nodes_in c.args.part.now) (c.as_slice.ensures ∙ c.results-results.ensures) c.requires true false true
    (sym (eq-eqb (length vs) (length ws) (ap length c.as_slice.ensures ∙ sym c.len.ensures.value ∙ c.if-len-values.false))) c.if-used_after.ensures
    (c.if-some_defined.ensures ∙ ap (λ ns. some_defined ns ws) c.as_slice-2.ensures)

pub returns : goal.returns
returns c =
    let vs = c.as_slice.result.now in
    let ws = c.args.values.now in
    exchange_reasons (meaning c.args.store.now) c.args.op vs ws (nodes_in c.args.part.now) (c.as_slice.ensures ∙ c.results-results.ensures) c.requires true false false
    (sym (eq-eqb (length vs) (length ws) (ap length c.as_slice.ensures ∙ sym c.len.ensures.value ∙ c.if-len-values.false))) c.if-used_after.ensures
    (c.if-some_defined.ensures ∙ ap (λ ns. some_defined ns ws) c.as_slice-2.ensures)
