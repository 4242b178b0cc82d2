-- A part of a store, given by the list of its nodes, is erased.
use Rattle.std.specs.Prelude.{◌≡◌, ℕ, zero, suc, ◌+◌, ◌≤◌, Bool, true, false, cond, not, ◌||◌, List, [], ◌∷◌, ◌++◌, map, reverse, length, is_some, Some, None, filter, Option, ◌==◌, nat_eq, nat_lt, slice_set}
use Rattle.slots.specs.Cells.{Cell}
use Rattle.slots.specs.Cells.{Free, Live, Spent}
use Rattle.slots.specs.Cells.{cell_at, holds, retired, viewed}
use Rattle.lists.specs.Walk.{In, without}
use Rattle.std.specs.List.{flat_map}
use Rattle.model.specs.declared.ids.RegionId.{RegionId}
use Rattle.model.specs.declared.ids.Value.{Value}
use Rattle.model.specs.declared.ids.DefiningEntity.{DefiningEntity}
use Rattle.model.specs.declared.ids.DefiningEntity.TheVariants as definer
use Rattle.model.specs.declared.ids.IRNode.{IRNode}
use Rattle.model.specs.declared.ids.IRNode.TheVariants as node
use Rattle.model.specs.declared.refusal.Refusal.{Refusal}
use Rattle.model.specs.declared.refusal.Refusal.TheVariants.{NotLive, StillUsed}
use Rattle.model.specs.Model.{Model, Operation, put, find_op, find_block, find_region, owner_slot, op_id, block_id, region_id}
use Rattle.model.specs.Calls.{with_ops, with_blocks, unlink_at, drop_op}
use Rattle.model.specs.Sound.{Among}
use Rattle.model.specs.Walk.{Distinct, slots_of_regions}

-- is the node at this slot?
abbrev pub is_op : IRNode → ℕ → Bool
is_op (node.Operation o) s = s == o.slot
is_op (node.BasicBlock b) s = false
is_op (node.Region r) s = false

abbrev pub is_block : IRNode → ℕ → Bool
is_block (node.Operation o) s = false
is_block (node.BasicBlock b) s = s == b.slot
is_block (node.Region r) s = false

abbrev pub is_region : IRNode → ℕ → Bool
is_region (node.Operation o) s = false
is_region (node.BasicBlock b) s = false
is_region (node.Region r) s = s == r.slot

-- does the list hold what is at this slot?
abbrev pub has : (IRNode → ℕ → Bool) → List IRNode → ℕ → Bool
has test [] s = false
has test (n ∷ ns) s = test n s || has test ns s

abbrev pub has_op : List IRNode → ℕ → Bool
has_op ns s = has is_op ns s

abbrev pub has_block : List IRNode → ℕ → Bool
has_block ns s = has is_block ns s

abbrev pub has_region : List IRNode → ℕ → Bool
has_region ns s = has is_region ns s

-- a list without what passes the test
abbrev pub less : {X : Type 0} → (X → Bool) → List X → List X
less f xs = filter (λ x. not (f x)) xs

-- the cells, where those at the slots that pass the test are retired, and of what lives in another there is k
abbrev pub sweep : {X : Type 0} → (ℕ → Bool) → (X → X) → List (Cell X) → List (Cell X)
sweep f k [] = []
sweep f k (c ∷ cs) = cond (f zero) (retired c) (viewed k c) ∷ sweep (λ s. f (suc s)) k cs

-- an operation without its regions at the slots that pass the test
abbrev pub disowned : (ℕ → Bool) → Operation → Operation
disowned f x = record { kind = x.kind; note = x.note; operands = x.operands; results = x.results; regions = less (λ (r : RegionId). f r.slot) x.regions }

abbrev pub nowhere : (ℕ → Bool) → (ℕ → Option ℕ) → ℕ → Option ℕ
nowhere f h s = cond (f s) None (h s)

-- the operations, blocks and regions at the slots that pass the tests are gone
abbrev pub taken : (ℕ → Bool) → (ℕ → Bool) → (ℕ → Bool) → Model → Model
taken f g h m = record {
  ops = sweep f (disowned h) m.ops;
  blocks = sweep g (λ x. x) m.blocks;
  regions = sweep h (λ x. x) m.regions;
  ops_of = λ b. less f (m.ops_of b);
  home_of = nowhere f m.home_of;
  blocks_of = λ r. less g (m.blocks_of r);
  place_of = nowhere g m.place_of;
}

-- the nodes of the list are gone
abbrev pub erased : Model → List IRNode → Model
erased m ns = taken (has_op ns) (has_block ns) (has_region ns) m

abbrev pub is_node : Model → IRNode → Bool
is_node m (node.Operation o) = is_some (find_op m o)
is_node m (node.BasicBlock b) = is_some (find_block m b)
is_node m (node.Region r) = is_some (find_region m r)

-- the nodes of the list are live, none stands twice, and what lies in one is among them
pub record Closed (m : Model) (ns : List IRNode) : Type 0 where
  pub live : (n : IRNode) → Among n ns → is_node m n ≡ true
  pub distinct : Distinct ns
  pub regions_in : (s g : ℕ) (x : Operation) → has_op ns s ≡ true → cell_at m.ops s ≡ Live g x → (r : RegionId) → Among r x.regions → has_region ns r.slot ≡ true
  pub blocks_in : (r b : ℕ) → has_region ns r ≡ true → In b (m.blocks_of r) → has_block ns b ≡ true
  pub ops_in : (b s : ℕ) → has_block ns b ≡ true → In s (m.ops_of b) → has_op ns s ≡ true

-- the cell no longer gives an identity of the generation g
abbrev pub past : {X : Type 0} → ℕ → Cell X → Bool
past g (Free k) = nat_lt g k
past g (Live k x) = nat_lt g k
past g Spent = true

abbrev pub is_past : Model → IRNode → Bool
is_past m (node.Operation o) = past o.generation (cell_at m.ops o.slot)
is_past m (node.BasicBlock b) = past b.generation (cell_at m.blocks b.slot)
is_past m (node.Region r) = past r.generation (cell_at m.regions r.slot)

-- does a node of the list define the value, or one of the values?
abbrev pub defines : List IRNode → DefiningEntity → Bool
defines ns (definer.Op o) = has_op ns o.slot
defines ns (definer.Block b) = has_block ns b.slot

abbrev pub some_defined : List IRNode → List Value → Bool
some_defined ns [] = false
some_defined ns (v ∷ vs) = defines ns v.definer || some_defined ns vs

abbrev pub operands_of : Option Operation → List Value
operands_of None = []
operands_of (Some x) = x.operands

-- does an operation of the cells, which are those from the slot s on, use a value of the list's nodes without being in the list?
abbrev pub used_from : List IRNode → ℕ → List (Cell Operation) → Bool
used_from ns s [] = false
used_from ns s (c ∷ cs) = cond (has_op ns s) false (some_defined ns (operands_of (holds c))) || used_from ns (s + 1) cs

abbrev pub used_outside : Model → List IRNode → Bool
used_outside m ns = used_from ns 0 m.ops

-- the block at b goes out of the region that it lies in
abbrev pub unlink_block_at : Model → ℕ → Option ℕ → Model
unlink_block_at m b None = m
unlink_block_at m b (Some r) = record {
  ops = m.ops;
  blocks = m.blocks;
  regions = m.regions;
  ops_of = m.ops_of;
  home_of = m.home_of;
  blocks_of = put m.blocks_of r (without b (m.blocks_of r));
  place_of = put m.place_of b None;
}

abbrev pub drop_block : Model → ℕ → Model
drop_block m b = with_blocks m (slice_set m.blocks b (retired (cell_at m.blocks b)))

-- the region at r goes out of the regions of the operation at s
abbrev pub disown_at : Model → ℕ → Option ℕ → Model
disown_at m r None = m
disown_at m r (Some s) = with_ops m (slice_set m.ops s (viewed (disowned (λ k. nat_eq k r)) (cell_at m.ops s)))

abbrev pub drop_region : Model → ℕ → Model
drop_region m r = record {
  ops = m.ops;
  blocks = m.blocks;
  regions = slice_set m.regions r (retired (cell_at m.regions r));
  ops_of = m.ops_of;
  home_of = m.home_of;
  blocks_of = m.blocks_of;
  place_of = m.place_of;
}

-- one node goes out of the list that it is in, and is gone
abbrev pub erase_node : Model → IRNode → Model
erase_node m (node.Operation o) = drop_op (unlink_at m o.slot (m.home_of o.slot)) o.slot
erase_node m (node.BasicBlock b) = drop_block (unlink_block_at m b.slot (m.place_of b.slot)) b.slot
erase_node m (node.Region r) = drop_region (disown_at m r.slot (owner_slot (holds (cell_at m.regions r.slot)))) r.slot

-- The nodes of a part in the order in which they are erased. `ops` gives those of each operation:
-- of the operations of the block b, the last first
abbrev pub body_nodes : Model → (ℕ → List IRNode) → ℕ → List IRNode
body_nodes m ops b = flat_map ops (reverse (m.ops_of b))

-- of the block b: what lies in it, then itself
abbrev pub block_nodes : Model → (ℕ → List IRNode) → ℕ → List IRNode
block_nodes m ops b = body_nodes m ops b ++ node.BasicBlock (block_id m b) ∷ []

-- the blocks of the region r, then itself
abbrev pub edge_nodes : Model → ℕ → List IRNode
edge_nodes m r = map (λ b. node.BasicBlock (block_id m b)) (m.blocks_of r) ++ node.Region (region_id m r) ∷ []

-- of the region r: what lies in its blocks, the last first, then those and itself
abbrev pub region_nodes : Model → (ℕ → List IRNode) → ℕ → List IRNode
region_nodes m ops r = flat_map (body_nodes m ops) (reverse (m.blocks_of r)) ++ edge_nodes m r

-- of the operation s, at most d operations deep: its regions, the last first, then itself
abbrev pub op_nodes_by : ℕ → Model → ℕ → List IRNode
op_nodes_by zero m s = []
op_nodes_by (suc d) m s = flat_map (region_nodes m (op_nodes_by d m)) (reverse (slots_of_regions m s)) ++ node.Operation (op_id m s) ∷ []

-- no operation lies deeper than there are operations, so this is all
abbrev pub op_nodes : Model → ℕ → List IRNode
op_nodes m s = op_nodes_by (suc (length m.ops)) m s

abbrev pub part_of : Model → IRNode → List IRNode
part_of m (node.Operation o) = op_nodes m o.slot
part_of m (node.BasicBlock b) = block_nodes m (op_nodes m) b.slot
part_of m (node.Region r) = region_nodes m (op_nodes m) r.slot

-- the nodes ns are the part that lies in the live node n
pub record PartListed (m : Model) (n : IRNode) (ns : List IRNode) : Type 0 where
  pub allowed : is_node m n ≡ true
  pub nodes : ns ≡ part_of m n
  pub closed : Closed m ns
  pub few : length ns ≤ 768

-- what a list that had the nodes ns has when the part of n is asked for: the part, and the same as before where n is not live
abbrev pub listed_part : Model → IRNode → List IRNode → List IRNode
listed_part m n ns = cond (is_node m n) (part_of m n) ns

abbrev pub erase_refusal : Model → IRNode → Option Refusal
erase_refusal m n =
    cond (is_node m n)
    (cond (used_outside m (part_of m n)) (Some StillUsed) None)
    (Some NotLive)
