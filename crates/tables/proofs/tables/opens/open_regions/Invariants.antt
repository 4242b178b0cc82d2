use Rattle.std.proofs.Common.{◌≡◌, ◌+◌, take}
use Rattle.slots.specs.Cells.{frees, cells}
use Rattle.row.specs.Items.{row_items}
use Rattle.model.specs.Calls.{Opened}
use Rattle.tables.proofs.tables.opens.open_regions.Given as goal

abbrev pub invariant-loop-graph : goal.invariant-loop-graph
invariant-loop-graph l =
    Opened (cells l.initial.regions) (cells l.regions) l.owner (take l.graph-index l.marks) (row_items l.ids)
    × (frees (cells l.regions) + l.graph-index ≡ frees (cells l.initial.regions))
