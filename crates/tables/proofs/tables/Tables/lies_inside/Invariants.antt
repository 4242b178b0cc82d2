use Rattle.std.proofs.Common.{◌≡◌, ◌-◌, length}
use Rattle.slots.specs.Cells.{cells}
use Rattle.model.specs.Model.{inside, inside_by}
use Rattle.tables.specs.View.{view}
use Rattle.tables.proofs.tables.Tables.lies_inside.Given as goal

abbrev pub invariant-loop : goal.invariant-loop
invariant-loop l = inside_by (length (cells l.self.operations) - l.counter) (view l.self) l.op l.at ≡ inside (view l.self) l.op l.block
