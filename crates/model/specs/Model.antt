-- What a store means.
use Rattle.std.specs.Prelude.{ℕ, zero, suc, Bool, true, false, cond, ◌&&◌, ◌||◌, List, [], ◌∷◌, length, replicate, Some, None, Option, ◌==◌, nat_lt}
use Rattle.slots.specs.Cells.{Cell}
use Rattle.slots.specs.Cells.{Free}
use Rattle.slots.specs.Cells.{cell_at, found, holds, live_of}
use Rattle.std.specs.Option.{option_map}
use Rattle.std.specs.List.{slice_get}
use Rattle.lists.specs.Walk.{next_in, prev_in, first_of, last_of}
use Rattle.model.specs.declared.ids.OpId.{OpId}
use Rattle.model.specs.declared.ids.BlockId.{BlockId}
use Rattle.model.specs.declared.ids.RegionId.{RegionId}
use Rattle.model.specs.declared.ids.Region.{Region}
use Rattle.model.specs.declared.ids.Value.{Value}
use Rattle.model.specs.declared.ids.DefiningEntity.{DefiningEntity}
use Rattle.model.specs.declared.ids.DefiningEntity.TheVariants as definer

pub record Operation : Type 0 where
  pub kind : ℕ
  pub note : ℕ
  pub operands : List Value
  pub results : List ℕ
  pub regions : List RegionId

pub record Block : Type 0 where
  pub args : List ℕ

-- The cells by slot; the operations of a block and the blocks of a region, in their order, by slot; and where an operation and a block lie.
pub record Model : Type 0 where
  pub ops : List (Cell Operation)
  pub blocks : List (Cell Block)
  pub regions : List (Cell Region)
  pub ops_of : ℕ → List ℕ
  pub home_of : ℕ → Option ℕ
  pub blocks_of : ℕ → List ℕ
  pub place_of : ℕ → Option ℕ

abbrev pub find_op : Model → OpId → Option Operation
find_op m o = found m.ops o.slot o.generation

abbrev pub find_block : Model → BlockId → Option Block
find_block m b = found m.blocks b.slot b.generation

abbrev pub find_region : Model → RegionId → Option Region
find_region m r = found m.regions r.slot r.generation

-- the types of the values that a part defines, none where it is not live
abbrev pub results_of : Option Operation → List ℕ
results_of None = []
results_of (Some x) = x.results

abbrev pub args_of : Option Block → List ℕ
args_of None = []
args_of (Some x) = x.args

abbrev pub types_of : Model → DefiningEntity → List ℕ
types_of m (definer.Op o) = results_of (find_op m o)
types_of m (definer.Block b) = args_of (find_block m b)

abbrev pub is_value : Model → Value → Bool
is_value m v = nat_lt v.index (length (types_of m v.definer))

abbrev pub are_values : Model → List Value → Bool
are_values m [] = true
are_values m (v ∷ vs) = is_value m v && are_values m vs

-- the type of a value, where it is live
abbrev pub type_of : Model → Value → Option ℕ
type_of m v = slice_get (types_of m v.definer) v.index

abbrev pub owner_of : Option Region → Option OpId
owner_of None = None
owner_of (Some y) = Some y.owner

abbrev pub regions_of : Option Operation → List RegionId
regions_of None = []
regions_of (Some x) = x.regions

abbrev pub bind : {X Y : Type 0} → Option X → (X → Option Y) → Option Y
bind None f = None
bind (Some x) f = f x

abbrev pub owner_slot : Option Region → Option ℕ
owner_slot None = None
owner_slot (Some y) = Some y.owner.slot

-- the operation that the block b lies in, and the one that the operation s lies in, by slot
abbrev pub above : Model → ℕ → Option ℕ
above m b = bind (m.place_of b) (λ r. owner_slot (holds (cell_at m.regions r)))

abbrev pub up : Model → ℕ → Option ℕ
up m s = bind (m.home_of s) (above m)

abbrev pub whether : Option ℕ → (ℕ → Bool) → Bool
whether None f = false
whether (Some x) f = f x

-- does one of the n operations next above the block b stand at s?
abbrev pub inside_by : ℕ → Model → ℕ → ℕ → Bool
inside_by zero m s b = false
inside_by (suc n) m s b = whether (above m b) (λ p. (p == s) || whether (m.home_of p) (inside_by n m s))

-- does the block at b lie inside the operation at s?
abbrev pub inside : Model → ℕ → ℕ → Bool
inside m s b = inside_by (length m.ops) m s b

-- a function that is v at k
abbrev pub put : {X : Type 0} → (ℕ → X) → ℕ → X → ℕ → X
put f k v i = cond (i == k) v (f i)

-- a store with nothing in it, of so many slots
abbrev pub blank : ℕ → ℕ → ℕ → Model
blank i j k = record {
  ops = replicate i (Free 0);
  blocks = replicate j (Free 0);
  regions = replicate k (Free 0);
  ops_of = λ _. [];
  home_of = λ _. None;
  blocks_of = λ _. [];
  place_of = λ _. None;
}

-- the identities of what lives in a slot
abbrev pub op_id : Model → ℕ → OpId
op_id m s = record { slot = s; generation = live_of (cell_at m.ops s) }

abbrev pub block_id : Model → ℕ → BlockId
block_id m b = record { slot = b; generation = live_of (cell_at m.blocks b) }

abbrev pub region_id : Model → ℕ → RegionId
region_id m r = record { slot = r; generation = live_of (cell_at m.regions r) }

-- the neighbours of an operation in its block, and of a block in its region, by slot
abbrev pub next_slot : Model → ℕ → Option ℕ
next_slot m s = next_in m.ops_of (m.home_of s) s

abbrev pub prev_slot : Model → ℕ → Option ℕ
prev_slot m s = prev_in m.ops_of (m.home_of s) s

abbrev pub next_block_slot : Model → ℕ → Option ℕ
next_block_slot m b = next_in m.blocks_of (m.place_of b) b

abbrev pub prev_block_slot : Model → ℕ → Option ℕ
prev_block_slot m b = prev_in m.blocks_of (m.place_of b) b

-- what a reader is told of an identity: nothing where it is not live
abbrev pub of_op : {X : Type 0} → Model → OpId → Option X → Option X
of_op m o q = bind (find_op m o) (λ _. q)

abbrev pub of_block : {X : Type 0} → Model → BlockId → Option X → Option X
of_block m b q = bind (find_block m b) (λ _. q)

abbrev pub of_region : {X : Type 0} → Model → RegionId → Option X → Option X
of_region m r q = bind (find_region m r) (λ _. q)

-- the block that an operation lies in, and its neighbours there
abbrev pub parent_block_of : Model → OpId → Option BlockId
parent_block_of m o = of_op m o (option_map (block_id m) (m.home_of o.slot))

abbrev pub next_op_of : Model → OpId → Option OpId
next_op_of m o = of_op m o (option_map (op_id m) (next_slot m o.slot))

abbrev pub prev_op_of : Model → OpId → Option OpId
prev_op_of m o = of_op m o (option_map (op_id m) (prev_slot m o.slot))

-- the region that a block lies in, its neighbours there, and the ends of its list of operations
abbrev pub parent_region_of : Model → BlockId → Option RegionId
parent_region_of m b = of_block m b (option_map (region_id m) (m.place_of b.slot))

abbrev pub next_block_of : Model → BlockId → Option BlockId
next_block_of m b = of_block m b (option_map (block_id m) (next_block_slot m b.slot))

abbrev pub prev_block_of : Model → BlockId → Option BlockId
prev_block_of m b = of_block m b (option_map (block_id m) (prev_block_slot m b.slot))

abbrev pub first_op_of : Model → BlockId → Option OpId
first_op_of m b = of_block m b (option_map (op_id m) (first_of (m.ops_of b.slot)))

abbrev pub last_op_of : Model → BlockId → Option OpId
last_op_of m b = of_block m b (option_map (op_id m) (last_of None (m.ops_of b.slot)))

-- the ends of a region's list of blocks
abbrev pub first_block_of : Model → RegionId → Option BlockId
first_block_of m r = of_region m r (option_map (block_id m) (first_of (m.blocks_of r.slot)))

abbrev pub last_block_of : Model → RegionId → Option BlockId
last_block_of m r = of_region m r (option_map (block_id m) (last_of None (m.blocks_of r.slot)))
