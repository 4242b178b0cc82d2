-- What holds of every store.
use Rattle.std.specs.Prelude.{◌≡◌, ℕ, zero, suc, true, ◌⊎◌, List, [], ◌∷◌, map, is_some, Some, None, Option}
use Rattle.slots.specs.Cells.{Live}
use Rattle.slots.specs.Cells.{cell_at, is_live}
use Rattle.lists.specs.Walk.{In, Apart}
use Rattle.model.specs.declared.ids.RegionId.{RegionId}
use Rattle.model.specs.declared.ids.Region.{Region}
use Rattle.model.specs.Model.{Model, Operation, are_values, find_op, find_region, owner_of, regions_of, up}

abbrev pub Among : {X : Type 0} → X → List X → Type 0
Among x [] = ⊥
Among x (y ∷ ys) = (x ≡ y) ⊎ Among x ys

-- lists and parents agree, and nothing stands twice
pub record Agree (ms : ℕ → List ℕ) (h : ℕ → Option ℕ) : Type 0 where
  pub held : (c x : ℕ) → h x ≡ Some c → In x (ms c)
  pub home : (c x : ℕ) → In x (ms c) → h x ≡ Some c
  pub apart : (c : ℕ) → Apart (ms c)

-- f leads from s to an end in n steps
abbrev pub Steps : (ℕ → Option ℕ) → ℕ → ℕ → Type 0
Steps f zero s = f s ≡ None
Steps f (suc n) s = (p : ℕ) × (f s ≡ Some p) × Steps f n p

pub record Sound (m : Model) : Type 0 where
  -- each operand of a live operation is a live value
  pub operands : (s g : ℕ) (x : Operation) → cell_at m.ops s ≡ Live g x → are_values m x.operands ≡ true
  -- the regions of an operation are live, and it is their owner; none stands twice
  pub owned : (s g : ℕ) (x : Operation) → cell_at m.ops s ≡ Live g x → (r : RegionId) → Among r x.regions
      → owner_of (find_region m r) ≡ Some (record { slot = s; generation = g })
  pub apart : (s g : ℕ) (x : Operation) → cell_at m.ops s ≡ Live g x → Apart (map (λ (r : RegionId). r.slot) x.regions)
  -- a region stands among the regions of its owner
  pub owners : (r g : ℕ) (y : Region) → cell_at m.regions r ≡ Live g y → Among (record { slot = r; generation = g }) (regions_of (find_op m y.owner))
  pub ops : Agree m.ops_of m.home_of
  pub blocks : Agree m.blocks_of m.place_of
  -- what lies in a list is live, and so is what has the list
  pub op_in : (s b : ℕ) → m.home_of s ≡ Some b → (is_live (cell_at m.ops s) ≡ true) × (is_live (cell_at m.blocks b) ≡ true)
  pub block_in : (b r : ℕ) → m.place_of b ≡ Some r → (is_live (cell_at m.blocks b) ≡ true) × (is_live (cell_at m.regions r) ≡ true)
  -- a live block lies in a region
  pub placed : (b : ℕ) → is_live (cell_at m.blocks b) ≡ true → is_some (m.place_of b) ≡ true
  -- climbing ends
  pub ends : (s : ℕ) → (n : ℕ) × Steps (up m) n s
