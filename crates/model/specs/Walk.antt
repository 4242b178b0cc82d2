-- The walk over a store: an operation is met before what lies in it, and so is a block. A region is not met, only what lies in it.
use Rattle.std.specs.Prelude.{◌≡◌, ℕ, zero, suc, ◌≤◌, true, List, [], ◌∷◌, map, length, is_some, Some, Option}
use Rattle.slots.specs.Cells.{cell_at, holds}
use Rattle.std.specs.List.{flat_map}
use Rattle.model.specs.declared.ids.OpId.{OpId}
use Rattle.model.specs.declared.ids.RegionId.{RegionId}
use Rattle.model.specs.declared.ids.IRNode.{IRNode}
use Rattle.model.specs.declared.ids.IRNode.TheVariants as node
use Rattle.model.specs.Model.{Model, regions_of, op_id, block_id, find_op, find_block, owner_slot, above, up}
use Rattle.model.specs.Sound.{Among}

-- the regions of the operation at s, by slot
abbrev pub slots_of_regions : Model → ℕ → List ℕ
slots_of_regions m s = map (λ (r : RegionId). r.slot) (regions_of (holds (cell_at m.ops s)))

-- what is met at the block b and in the region r, where `ops` gives what is met at each operation in it
abbrev pub block_by : Model → (ℕ → List IRNode) → ℕ → List IRNode
block_by m ops b = node.BasicBlock (block_id m b) ∷ flat_map ops (m.ops_of b)

abbrev pub region_by : Model → (ℕ → List IRNode) → ℕ → List IRNode
region_by m ops r = flat_map (block_by m ops) (m.blocks_of r)

-- what is met at the operation s, at most d operations deep
abbrev pub walk_op : ℕ → Model → ℕ → List IRNode
walk_op zero m s = []
walk_op (suc d) m s = node.Operation (op_id m s) ∷ flat_map (region_by m (walk_op d m)) (slots_of_regions m s)

-- no operation lies deeper than there are operations, so this is all
abbrev pub walk : Model → ℕ → List IRNode
walk m s = walk_op (suc (length m.ops)) m s

-- nothing stands twice
abbrev pub Distinct : {X : Type 0} → List X → Type 0
Distinct [] = Unit {0}
Distinct (x ∷ xs) = (Among x xs → ⊥) × Distinct xs

-- the operation whose region stands at r, by slot
abbrev pub owner : Model → ℕ → Option ℕ
owner m r = owner_slot (holds (cell_at m.regions r))

-- n steps up lead from the operation t to the operation s
abbrev pub Leads : Model → ℕ → ℕ → ℕ → Type 0
Leads m zero t s = t ≡ s
Leads m (suc n) t s = (p : ℕ) × (up m t ≡ Some p) × Leads m n p s

-- the operation t is the operation s, or lies in it
abbrev pub Under : Model → ℕ → ℕ → Type 0
Under m s t = (n : ℕ) × Leads m n t s

-- the same of a node; a region is not met
abbrev pub Within : Model → ℕ → IRNode → Type 0
Within m s (node.Operation o) = Under m s o.slot
Within m s (node.BasicBlock b) = (p : ℕ) × (above m b.slot ≡ Some p) × Under m s p
Within m s (node.Region r) = ⊥

abbrev pub Alive : Model → IRNode → Type 0
Alive m (node.Operation o) = is_some (find_op m o) ≡ true
Alive m (node.BasicBlock b) = is_some (find_block m b) ≡ true
Alive m (node.Region r) = ⊥

-- from the operation o, the nodes ns were met: each that lives in it, nothing else, and none twice
pub record Walked (m : Model) (o : OpId) (ns : List IRNode) : Type 0 where
  pub allowed : is_some (find_op m o) ≡ true
  pub nodes : ns ≡ walk m o.slot
  pub once : Distinct ns
  pub all : (n : IRNode) → Alive m n → Within m o.slot n → Among n ns
  pub only : (n : IRNode) → Among n ns → Alive m n × Within m o.slot n
  pub few : length ns ≤ 640
