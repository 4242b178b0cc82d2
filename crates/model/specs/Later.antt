-- What time does to the identities of a store.
use Rattle.std.specs.Prelude.{◌≡◌, Bool, true, false, ◌⊎◌, length, ◌==◌}
use Rattle.model.specs.declared.ids.IRNode.{IRNode}
use Rattle.model.specs.declared.ids.IRNode.TheVariants as node
use Rattle.model.specs.Model.{Model}
use Rattle.model.specs.Erasing.{is_node, is_past}

-- the identity was given, and what it named has gone
abbrev pub Dead : Model → IRNode → Type 0
Dead m x = is_past m x ≡ true

-- From m to n, identities went one way only: not yet given, live, gone.
pub record Later (m n : Model) : Type 0 where
  -- what has gone never comes back
  pub gone : (x : IRNode) → Dead m x → Dead n x
  -- what lives does so still, or has gone
  pub once : (x : IRNode) → is_node m x ≡ true → (is_node n x ≡ true) ⊎ Dead n x
  -- what lives lived before, or was not yet given
  pub fresh : (x : IRNode) → is_node n x ≡ true → is_past m x ≡ false
  -- there are as many slots
  pub op_slots : length n.ops ≡ length m.ops
  pub block_slots : length n.blocks ≡ length m.blocks
  pub region_slots : length n.regions ≡ length m.regions

-- do two identities name the same slot of the same table?
abbrev pub same_slot : IRNode → IRNode → Bool
same_slot (node.Operation o) (node.Operation p) = o.slot == p.slot
same_slot (node.Operation o) (node.BasicBlock c) = false
same_slot (node.Operation o) (node.Region r) = false
same_slot (node.BasicBlock b) (node.Operation p) = false
same_slot (node.BasicBlock b) (node.BasicBlock c) = b.slot == c.slot
same_slot (node.BasicBlock b) (node.Region r) = false
same_slot (node.Region r) (node.Operation p) = false
same_slot (node.Region r) (node.BasicBlock c) = false
same_slot (node.Region r) (node.Region q) = r.slot == q.slot

-- at most one identity of each slot is live
abbrev pub OneEach : Model → Type 0
OneEach m = (x y : IRNode) → is_node m x ≡ true → is_node m y ≡ true → same_slot x y ≡ true → x ≡ y
