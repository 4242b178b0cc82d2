use Rattle.std.proofs.Common.{◌≡◌, ◌≤◌, true, eqb, ltb, is_some, length, vec_items, sym, ◌∙◌, arith, rules}
use Rattle.std.proofs.lemmas.Bool.{le-ltb, or_from, and_right, cond-true, cond-false}
use Rattle.model.specs.Model.{find_op}
use Rattle.store.specs.Meaning.{meaning}
use Rattle.store.proofs.GoodLaws.{ops_sized}
use Rattle.rules_next.specs.Driver.{notable}
use Rattle.states.specs.States.{states_in}
use Rattle.states.proofs.StateLaws.{dead_past}
use Rattle.states.proofs.states.States.note.Goals as goal
use Rattle.states.proofs.states.States.note.Goals.{then-entry-op-via-then-entry-op, then-entry-op-via-else-entry-op+then-is_live}

pub returns-in_default : goal.returns-in_default
returns-in_default c =
    let s = c.args.store.now in
    let o = c.args.op in
    let ks = states_in c.args.self.now in
    let far : length (vec_items c.args.self.now.entries) ≤ o.slot = search rules in
    let size = ops_sized s.tables s.good in
    let past : 512 ≤ o.slot = omega (arith, c.args.self.now.sized) in
    let lost = or_from (is_some (find_op (meaning s) o)) _ (dead_past (meaning s).ops o.slot o.generation (omega (arith, size))) (and_right (eqb (ks o.slot).generation o.generation) (ltb o.slot 512) (le-ltb o.slot 512 past)) in
    sym (cond-false (notable (meaning s) ks o) _ _ lost)

pub returns-then-entry-op : goal.returns-then-entry-op
returns-then-entry-op c =
    let s = c.args.store.now in
    let o = c.args.op in
    let ks = states_in c.args.self.now in
    let kept : notable (meaning s) ks o ≡ true = elim c.then-entry-op.branch [
      | then-entry-op-via-then-entry-op w ↦ search rules
      | then-entry-op-via-else-entry-op+then-is_live w ↦ search rules
    ] in
    search rules ∙ sym (cond-true (notable (meaning s) ks o) _ _ kept)
