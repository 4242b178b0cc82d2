use Rattle.std.proofs.Common.{◌≡◌, ◌++◌, map, length, take, drop}
use Rattle.slots.specs.Cells.{viewed, cell_of}
use Rattle.model.specs.Calls.{reused}
use Rattle.tables.specs.View.{view_op}
use Rattle.tables.proofs.tables.changes.replace_everywhere.Given as goal

abbrev pub invariant-loop-slot : goal.invariant-loop-slot
invariant-loop-slot l =
    (map (viewed view_op) (map cell_of l.slot-items)
    ≡ map (viewed (reused l.old l.new)) (take l.slot-index (map (viewed view_op) (map cell_of l.initial.slot-items))) ++ drop l.slot-index (map (viewed view_op) (map cell_of l.initial.slot-items)))
    × (length l.slot-items ≡ length l.initial.slot-items)
