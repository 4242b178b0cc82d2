use Rattle.std.proofs.Common.{not, ◌&&◌, sym, ap, ◌∙◌}
use Rattle.law.specs.Machine.{is_unmarked}
use Rattle.rules.specs.Driver.{marks_of}
use Rattle.states.specs.States.{states_in}
use Rattle.work.proofs.Same.{any_among}
use Rattle.work.proofs.work.waiting.is_fresh.Goals as goal

pub returns-then-not-contains : goal.returns-then-not-contains
returns-then-not-contains c =
    let u = is_unmarked (marks_of (states_in c.args.states.now) c.args.op) in
    c.is_unmarked.ensures ∙ ap (λ b. not b && u) (sym c.if-not-contains.true ∙ c.contains.ensures.value ∙ any_among c.args.before.now c.args.op)

pub returns-else-not-contains : goal.returns-else-not-contains
returns-else-not-contains c =
    let u = is_unmarked (marks_of (states_in c.args.states.now) c.args.op) in
    ap (λ b. not b) c.if-not-contains.false ∙ ap (λ b. not b && u) (sym c.if-not-contains.false ∙ c.contains.ensures.value ∙ any_among c.args.before.now c.args.op)
