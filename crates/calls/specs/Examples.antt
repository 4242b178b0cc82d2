-- A worked example: the order in which an operation with two blocks is erased.
use Rattle.std.specs.Prelude.{◌≡◌, ℕ, true, [], ◌∷◌}
use Rattle.slots.specs.Cells.{cell_at, is_live}
use Rattle.model.specs.declared.ids.IRNode.TheVariants as node
use Rattle.model.specs.Model.{Model, op_id, block_id, region_id}
use Rattle.model.specs.Sound.{Sound}
use Rattle.model.specs.Walk.{slots_of_regions}
use Rattle.calls.specs.declared.events.RecorderEvent.TheVariants as event
use Rattle.calls.specs.World.{World, Pick, erase}
use Rattle.calls.specs.Perform.{events}

-- the operation p has one region, r; in it are the blocks s, with x and y, and t, with z; x, y and z have no regions
pub record TwoBlocks (m : Model) (p r s t x y z : ℕ) : Type 0 where
  pub live : is_live (cell_at m.ops p) ≡ true
  pub region : slots_of_regions m p ≡ r ∷ []
  pub blocks : m.blocks_of r ≡ s ∷ t ∷ []
  pub first : m.ops_of s ≡ x ∷ y ∷ []
  pub second : m.ops_of t ≡ z ∷ []
  pub plain_x : slots_of_regions m x ≡ []
  pub plain_y : slots_of_regions m y ≡ []
  pub plain_z : slots_of_regions m z ≡ []

-- the operations go from the last to the first, then the blocks from the first to the last, then the region and the operation itself
abbrev pub ErasesTwoBlocks : Type 0
ErasesTwoBlocks = (w : World) (k : Pick) (p r s t x y z : ℕ) → Sound w.model → TwoBlocks w.model p r s t x y z
    → events w (erase (node.Operation (op_id w.model p))) k
    ≡ event.ErasedOperation (op_id w.model z) ∷ event.ErasedOperation (op_id w.model y) ∷ event.ErasedOperation (op_id w.model x)
    ∷ event.ErasedBlock (block_id w.model s) ∷ event.ErasedBlock (block_id w.model t) ∷ event.ErasedRegion (region_id w.model r) ∷ event.ErasedOperation (op_id w.model p) ∷ []
