use Rattle.std.proofs.Common.{vec_items}
use Rattle.std.proofs.lemmas.List.{map-set}
use Rattle.slots.specs.Cells.{cell_of}
use Rattle.slots.proofs.table.Table.occupy.Goals as goal

pub returns-clause-cells : goal.returns-clause-cells
returns-clause-cells g c = map-set cell_of (vec_items c.args.self.now.slots) c.args.slot _
