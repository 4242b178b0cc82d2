use Rattle.std.proofs.Common.{◌≡◌, ◌≤◌, length, take}
use Rattle.row.specs.Items.{row_items}
use Rattle.store.specs.Meaning.{meaning as model}
use Rattle.law.specs.Lists.{keep}
use Rattle.law.specs.Machine.{due}
use Rattle.rules.specs.Setting.{definers_of}
use Rattle.rules_next.specs.Setting.{real}
use Rattle.rules.specs.Driver.{marks_of}
use Rattle.states.specs.States.{states_in}
use Rattle.states.specs.Due.{at}
use Rattle.states.proofs.states.States.due_definers.Given as goal

abbrev pub invariant-loop-operand : goal.invariant-loop-operand
invariant-loop-operand g l =
    (row_items l.found ≡ keep (due (real g.C.DialectConversion.meaning) (at (model l.asked.store.now) l.asked.conversion.now) (marks_of (states_in l.self))) (definers_of (model l.asked.store.now) (take l.operand-index l.operands)))
    × (length (row_items l.found) ≤ l.operand-index)
