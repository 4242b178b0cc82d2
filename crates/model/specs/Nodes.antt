-- What defines a value, as a node.
use Rattle.model.specs.declared.ids.DefiningEntity.{DefiningEntity}
use Rattle.model.specs.declared.ids.DefiningEntity.TheVariants as definer
use Rattle.model.specs.declared.ids.IRNode.{IRNode}
use Rattle.model.specs.declared.ids.IRNode.TheVariants as node

abbrev pub node_of : DefiningEntity → IRNode
node_of (definer.Op o) = node.Operation o
node_of (definer.Block b) = node.BasicBlock b
