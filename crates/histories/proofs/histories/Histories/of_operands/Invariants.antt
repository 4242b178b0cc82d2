use Rattle.std.proofs.Common.{◌≡◌, map, take}
use Rattle.row.specs.Items.{row_items}
use Rattle.rules_next.specs.Histories.{history_of}
use Rattle.histories.specs.Kept.{histories}
use Rattle.histories.specs.Many.{kept}
use Rattle.histories.proofs.histories.Histories.of_operands.Given as goal

abbrev pub invariant-loop-operand : goal.invariant-loop-operand
invariant-loop-operand l = histories (row_items l.all) ≡ map (history_of (kept l.self)) (take l.operand-index l.operands)
