-- What a list of nodes holds, and how much more it can hold.
use Rattle.std.specs.Prelude.{ℕ, ◌+◌, ◌≤◌, List, length}
use Rattle.bounded.specs.declared.bounded.Bounded.{Bounded}
use Rattle.bounded.specs.Items.{bounded_items}
use Rattle.model.specs.declared.ids.IRNode.{IRNode}

abbrev pub nodes_in : {n : ℕ} → Bounded IRNode n → List IRNode
nodes_in nodes = bounded_items nodes

-- there is room for these nodes too
abbrev pub Room : {n : ℕ} → Bounded IRNode n → List IRNode → Type 0
Room nodes more = length (nodes_in nodes) + length more ≤ 768
