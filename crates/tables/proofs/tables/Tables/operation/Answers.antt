use Rattle.std.proofs.Common.{sym, ap, ◌∙◌}
use Rattle.std.specs.Option.{option_map}
use Rattle.slots.specs.Cells.{cells}
use Rattle.slots.proofs.CellLaws.{found_viewed, mapped_mapped}
use Rattle.tables.specs.View.{view_op}
use Rattle.tables.proofs.tables.Tables.operation.Goals as goal

pub returns : goal.returns
returns c =
    sym (mapped_mapped (λ x. x.now) view_op c.get.result) ∙ ap (option_map view_op) c.get.ensures
    ∙ sym (found_viewed view_op (cells c.args.self.now.operations) c.args.op.slot c.args.op.generation)
