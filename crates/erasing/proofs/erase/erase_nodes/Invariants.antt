use Rattle.std.proofs.Common.{◌≡◌, take}
use Rattle.model.specs.Erasing.{erased}
use Rattle.tables.specs.View.{view, sizes}
use Rattle.erasing.proofs.erase.erase_nodes.Given as goal

abbrev pub invariant-loop-node : goal.invariant-loop-node
invariant-loop-node l = (view l.tables ≡ erased (view l.initial.tables) (take l.node-index l.nodes)) × (sizes l.tables ≡ sizes l.initial.tables)
