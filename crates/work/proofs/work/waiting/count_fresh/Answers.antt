use Rattle.std.proofs.Common.{◌+◌, cond, take, sym, ap, ◌∙◌, add-zero, arith}
use Rattle.std.proofs.lemmas.List.{drop_all}
use Rattle.rules.specs.Driver.{marks_of}
use Rattle.states.specs.States.{states_in}
use Rattle.work.specs.Waiting.{fresh_ops}
use Rattle.work.proofs.Fresh.{marked_all, fresh_more}
use Rattle.work.proofs.work.waiting.count_fresh.Goals as goal
use Rattle.work.proofs.work.waiting.count_fresh.Goals.{then-is_fresh, else-is_fresh}

pub loop-i-preserved : goal.loop-i-preserved
loop-i-preserved c =
    let st = marks_of (states_in c.args.states.now) in
    let n = c.loop-i.count in
    elim c.if-is_fresh.branch [
      | then-is_fresh w ↦ (
        fresh_more st c.args.ops.now c.loop-i.i n c.if-is_fresh.count c.loop-i-test.true c.loop-i.invariant.0 (w.count-is ∙ ap (λ b. n + cond b 1 0) (sym w.if-is_fresh.true ∙ c.is_fresh.ensures)),
        omega (arith, w.count-is, c.loop-i.invariant.1),
      )
      | else-is_fresh w ↦ (
        fresh_more st c.args.ops.now c.loop-i.i n c.if-is_fresh.count c.loop-i-test.true c.loop-i.invariant.0 (w.count-is ∙ sym (add-zero n) ∙ ap (λ b. n + cond b 1 0) (sym w.if-is_fresh.false ∙ c.is_fresh.ensures)),
        omega (arith, w.count-is, c.loop-i.invariant.1),
      )
    ]

pub returns : goal.returns
returns c =
    let st = marks_of (states_in c.args.states.now) in
    record {
      value = sym (add-zero c.loop-i.count) ∙ ap (λ os. c.loop-i.count + fresh_ops (marked_all st (take c.loop-i.i c.args.ops.now)) os) (sym (drop_all c.loop-i.i c.args.ops.now c.loop-i-test.false)) ∙ c.loop-i.invariant.0;
      few = omega (arith, c.loop-i.invariant.1, c.loop-i.auto);
    }
