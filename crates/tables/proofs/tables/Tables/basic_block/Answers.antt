use Rattle.std.proofs.Common.{sym, ap, ◌∙◌}
use Rattle.std.specs.Option.{option_map}
use Rattle.slots.specs.Cells.{cells}
use Rattle.slots.proofs.CellLaws.{found_viewed, mapped_mapped}
use Rattle.tables.specs.View.{view_block}
use Rattle.tables.proofs.tables.Tables.basic_block.Goals as goal

pub returns : goal.returns
returns c =
    sym (mapped_mapped (λ x. x.now) view_block c.get.result) ∙ ap (option_map view_block) c.get.ensures
    ∙ sym (found_viewed view_block (cells c.args.self.now.blocks) c.args.block.slot c.args.block.generation)
