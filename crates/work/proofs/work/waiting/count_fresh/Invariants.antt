use Rattle.std.proofs.Common.{◌≡◌, ◌+◌, ◌≤◌, take, drop}
use Rattle.rules.specs.Driver.{marks_of}
use Rattle.states.specs.States.{states_in}
use Rattle.work.specs.Waiting.{fresh_ops}
use Rattle.work.proofs.Fresh.{marked_all}
use Rattle.work.proofs.work.waiting.count_fresh.Given as goal

abbrev pub invariant-loop-i : goal.invariant-loop-i
invariant-loop-i l =
    (l.count + fresh_ops (marked_all (marks_of (states_in l.states)) (take l.i l.ops)) (drop l.i l.ops) ≡ fresh_ops (marks_of (states_in l.states)) l.ops)
    × (l.count ≤ l.i)
