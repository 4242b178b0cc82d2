-- Where an operation or a block is put, and what that does to the meaning of a store.
use Rattle.std.specs.Prelude.{◌≡◌, ℕ, Bool, true, false, cond, ◌&&◌, List, [], ◌∷◌, ◌++◌, length, is_some, Some, None, Option, ◌==◌, nat_lt}
use Rattle.slots.specs.Cells.{cell_at, is_free, frees}
use Rattle.lists.specs.Walk.{insert_after, insert_before}
use Rattle.model.specs.declared.ids.OpId.{OpId}
use Rattle.model.specs.declared.ids.BlockId.{BlockId}
use Rattle.model.specs.declared.points.OpInsertionPoint.{OpInsertionPoint}
use Rattle.model.specs.declared.points.OpInsertionPoint.TheVariants as point
use Rattle.model.specs.declared.points.BlockInsertionPoint.{BlockInsertionPoint}
use Rattle.model.specs.declared.points.BlockInsertionPoint.TheVariants as spot
use Rattle.model.specs.declared.refusal.Refusal.{Refusal}
use Rattle.model.specs.declared.refusal.Refusal.TheVariants.{NoSlot, TooMany, NotLive, PointUnset, InBlock, NoBlock, Inside}
use Rattle.model.specs.Model.{Model, find_op, find_block, find_region, inside, whether}
use Rattle.model.specs.Calls.{link_at, create_at, next_block}

-- Operations.

abbrev pub is_unset : OpInsertionPoint → Bool
is_unset point.Unset = true
is_unset (point.AtBlockStart b) = false
is_unset (point.AtBlockEnd b) = false
is_unset (point.AfterOperation k) = false
is_unset (point.BeforeOperation k) = false

-- the block that the point is in, by slot, where h says in which block an operation lies
abbrev pub block_at_point : (ℕ → Option ℕ) → OpInsertionPoint → Option ℕ
block_at_point h point.Unset = None
block_at_point h (point.AtBlockStart b) = Some b.slot
block_at_point h (point.AtBlockEnd b) = Some b.slot
block_at_point h (point.AfterOperation k) = h k.slot
block_at_point h (point.BeforeOperation k) = h k.slot

abbrev pub block_at : Model → OpInsertionPoint → Option ℕ
block_at m p = block_at_point m.home_of p

-- is what the point names live?
abbrev pub point_live : Model → OpInsertionPoint → Bool
point_live m point.Unset = true
point_live m (point.AtBlockStart b) = is_some (find_block m b)
point_live m (point.AtBlockEnd b) = is_some (find_block m b)
point_live m (point.AfterOperation k) = is_some (find_op m k)
point_live m (point.BeforeOperation k) = is_some (find_op m k)

-- the list of the point's block, when s comes to stand there
abbrev pub placed_at : OpInsertionPoint → ℕ → List ℕ → List ℕ
placed_at point.Unset s xs = xs
placed_at (point.AtBlockStart b) s xs = s ∷ xs
placed_at (point.AtBlockEnd b) s xs = xs ++ s ∷ []
placed_at (point.AfterOperation k) s xs = insert_after k.slot s xs
placed_at (point.BeforeOperation k) s xs = insert_before k.slot s xs

abbrev pub inserted_in : Model → Option ℕ → OpInsertionPoint → ℕ → Model
inserted_in m None p s = m
inserted_in m (Some b) p s = link_at m b s (placed_at p s (m.ops_of b))

-- the operation at s comes to stand at the point
abbrev pub inserted_at : Model → OpInsertionPoint → ℕ → Model
inserted_at m p s = inserted_in m (block_at m p) p s

abbrev pub insert_refusal : Model → OpInsertionPoint → OpId → Option Refusal
insert_refusal m p o =
    cond (is_some (find_op m o) && point_live m p)
    (cond (is_unset p) (Some PointUnset)
    (cond (is_some (m.home_of o.slot)) (Some InBlock)
    (cond (is_some (block_at m p))
    (cond (whether (block_at m p) (inside m o.slot)) (Some Inside) None)
    (Some NoBlock))))
    (Some NotLive)

-- Blocks.

abbrev pub is_block_unset : BlockInsertionPoint → Bool
is_block_unset spot.Unset = true
is_block_unset (spot.AtRegionStart r) = false
is_block_unset (spot.AtRegionEnd r) = false
is_block_unset (spot.AfterBlock k) = false
is_block_unset (spot.BeforeBlock k) = false

-- the region that the point is in, by slot, where h says in which region a block lies
abbrev pub region_in : (ℕ → Option ℕ) → BlockInsertionPoint → Option ℕ
region_in h spot.Unset = None
region_in h (spot.AtRegionStart r) = Some r.slot
region_in h (spot.AtRegionEnd r) = Some r.slot
region_in h (spot.AfterBlock k) = h k.slot
region_in h (spot.BeforeBlock k) = h k.slot

abbrev pub region_at : Model → BlockInsertionPoint → Option ℕ
region_at m p = region_in m.place_of p

-- is what the point names live?
abbrev pub block_point_live : Model → BlockInsertionPoint → Bool
block_point_live m spot.Unset = true
block_point_live m (spot.AtRegionStart r) = is_some (find_region m r)
block_point_live m (spot.AtRegionEnd r) = is_some (find_region m r)
block_point_live m (spot.AfterBlock k) = is_some (find_block m k)
block_point_live m (spot.BeforeBlock k) = is_some (find_block m k)

-- the list of the point's region, when the block at b comes to stand there
abbrev pub placed_block_at : BlockInsertionPoint → ℕ → List ℕ → List ℕ
placed_block_at spot.Unset b xs = xs
placed_block_at (spot.AtRegionStart r) b xs = b ∷ xs
placed_block_at (spot.AtRegionEnd r) b xs = xs ++ b ∷ []
placed_block_at (spot.AfterBlock k) b xs = insert_after k.slot b xs
placed_block_at (spot.BeforeBlock k) b xs = insert_before k.slot b xs

abbrev pub created_in : Model → Option ℕ → BlockInsertionPoint → ℕ → List ℕ → Model
created_in m None p b ts = m
created_in m (Some r) p b ts = create_at m b r (placed_block_at p b (m.blocks_of r)) ts

-- a block is made at the slot b, and stands at the point
abbrev pub created_at : Model → BlockInsertionPoint → ℕ → List ℕ → Model
created_at m p b ts = created_in m (region_at m p) p b ts

abbrev pub create_refusal : Model → BlockInsertionPoint → List ℕ → Option Refusal
create_refusal m p ts =
    cond (frees m.blocks == 0) (Some NoSlot)
    (cond (nat_lt 8 (length ts)) (Some TooMany)
    (cond (block_point_live m p)
    (cond (is_block_unset p) (Some PointUnset) None)
    (Some NotLive)))

-- from m to n, a block was made at some slot, and stands at the point
pub record Created (m n : Model) (p : BlockInsertionPoint) (ts : List ℕ) (b : BlockId) : Type 0 where
  pub allowed : create_refusal m p ts ≡ None
  pub usable : is_free (cell_at m.blocks b.slot) ≡ true
  pub is : b ≡ next_block m b.slot
  pub after : n ≡ created_at m p b.slot ts
