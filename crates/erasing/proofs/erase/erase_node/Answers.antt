use Rattle.std.proofs.Common.{sym, ap, ◌∙◌}
use Rattle.model.specs.Erasing.{erase_node}
use Rattle.tables.specs.View.{view}
use Rattle.erasing.proofs.Leaves.{op_gone, block_gone}
use Rattle.erasing.proofs.erase.erase_node.Goals as goal

pub returns-in-Operation-clause-after : goal.returns-in-Operation-clause-after
returns-in-Operation-clause-after c =
    op_gone c.args.tables.now c.take_out.new.lists c.in-Operation.op.slot c.release.new.self c.take_out.ensures c.release.ensures
    ∙ ap (erase_node (view c.args.tables.now)) (sym c.in-Operation.is)

pub returns-in-BasicBlock-clause-after : goal.returns-in-BasicBlock-clause-after
returns-in-BasicBlock-clause-after c =
    block_gone c.args.tables.now c.take_out-in-BasicBlock.new.lists c.in-BasicBlock.block.slot c.release-in-BasicBlock.new.self c.take_out-in-BasicBlock.ensures c.release-in-BasicBlock.ensures
    ∙ ap (erase_node (view c.args.tables.now)) (sym c.in-BasicBlock.is)
