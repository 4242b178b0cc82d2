use Rattle.std.proofs.Common.{◌≤◌, [], length, sym, ap, ◌∙◌, subst, append-nil, arith}
use Rattle.row.specs.Items.{row_items}
use Rattle.store.specs.Meaning.{meaning as model}
use Rattle.law.specs.Machine.{due}
use Rattle.rules_next.specs.Setting.{real}
use Rattle.rules.specs.Driver.{marks_of}
use Rattle.states.specs.States.{states_in}
use Rattle.states.specs.Due.{at}
use Rattle.states.proofs.Limits.{operands_few}
use Rattle.states.proofs.DueLaws.{dues_more, one_more, operands_read}
use Rattle.states.proofs.states.States.due_definers.Goals as goal
use Rattle.states.proofs.states.States.due_definers.Goals.{in-Some-due_definer, in_default-due_definer}

pub push-requires : goal.push-requires
push-requires g c =
    let few : length c.in-Some.operands.now ≤ 8 = subst (λ vs. length vs ≤ 8) (sym (operands_read (model c.args.asked.now.store.now) c.args.op c.in-Some.operands.now c.in-Some.ensures)) (operands_few c.args.asked.now.store.now c.args.op) in
    (omega arith, omega (arith, few, c.loop-operand.invariant.1, c.loop-operand-test.true))

pub loop-operand-preserved : goal.loop-operand-preserved
loop-operand-preserved g c =
    let M = g.C.DialectConversion.meaning in
    let m = model c.args.asked.now.store.now in
    let p = due (real M) (at m c.args.asked.now.conversion.now) (marks_of (states_in c.args.self.now)) in
    let vs = c.in-Some.operands.now in
    let i = c.loop-operand.operand-index in
    let was = row_items c.loop-operand.found in
    elim c.match-due_definer.branch [
      | in-Some-due_definer w ↦ (
        ap row_items w.found-is ∙ w.push.ensures ∙ dues_more p m vs i _ was _ c.loop-operand-test.true c.loop-operand.invariant.0 w.in-Some-due_definer.ensures,
        one_more _ was _ i (ap row_items w.found-is ∙ w.push.ensures) c.loop-operand.invariant.1,
      )
      | in_default-due_definer w ↦ (
        ap row_items w.found-is ∙ sym (append-nil was) ∙ dues_more p m vs i _ was [] c.loop-operand-test.true c.loop-operand.invariant.0 w.in_default-due_definer.ensures,
        omega (arith, ap (λ r. length (row_items r)) w.found-is, c.loop-operand.invariant.1),
      )
    ]
