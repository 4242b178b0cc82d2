-- What each change of a store leaves as it was.
use Rattle.std.specs.Prelude.{◌≡◌, ℕ, Bool, true, false, List, Some, ◌==◌}
use Rattle.slots.specs.Cells.{Cell}
use Rattle.slots.specs.Cells.{Live}
use Rattle.slots.specs.Cells.{cell_at, is_live, viewed}
use Rattle.lists.specs.Walk.{In}
use Rattle.model.specs.declared.ids.RegionId.{RegionId}
use Rattle.model.specs.declared.ids.Value.{Value}
use Rattle.model.specs.declared.ids.DefiningEntity.{DefiningEntity}
use Rattle.model.specs.declared.ids.DefiningEntity.TheVariants as definer
use Rattle.model.specs.declared.ids.IRNode.{IRNode}
use Rattle.model.specs.Model.{Model, Operation}
use Rattle.model.specs.Sound.{Among}
use Rattle.model.specs.Calls.{make_at, create_at, link_at, unlink_at, typed_at, replace_all}
use Rattle.model.specs.Erasing.{has_op, has_block, has_region, disowned, erased}

-- two functions agree but where P holds
abbrev pub SameBut : {X : Type 0} → (ℕ → Type 0) → (ℕ → X) → (ℕ → X) → Type 0
SameBut P f g = (s : ℕ) → (P s → ⊥) → g s ≡ f s

-- two functions agree but at k
abbrev pub SameOff : {X : Type 0} → ℕ → (ℕ → X) → (ℕ → X) → Type 0
SameOff k f g = SameBut (λ s. s ≡ k) f g

-- cells that agree but where P holds
abbrev pub CellsBut : {X : Type 0} → (ℕ → Type 0) → List (Cell X) → List (Cell X) → Type 0
CellsBut P cs ds = SameBut P (cell_at cs) (cell_at ds)

pub record SameCells (m n : Model) : Type 0 where
  pub ops : n.ops ≡ m.ops
  pub blocks : n.blocks ≡ m.blocks
  pub regions : n.regions ≡ m.regions

pub record SamePlaces (m n : Model) : Type 0 where
  pub ops_of : n.ops_of ≡ m.ops_of
  pub home_of : n.home_of ≡ m.home_of
  pub blocks_of : n.blocks_of ≡ m.blocks_of
  pub place_of : n.place_of ≡ m.place_of

-- an operation is made at the slot s, with its regions at the slots rs
pub record MakeKeeps (m n : Model) (s : ℕ) (rs : List ℕ) : Type 0 where
  pub ops : CellsBut (λ t. t ≡ s) m.ops n.ops
  pub blocks : n.blocks ≡ m.blocks
  pub regions : CellsBut (λ r. In r rs) m.regions n.regions
  pub places : SamePlaces m n

-- a block is made at the slot b, in the region r
pub record CreateKeeps (m n : Model) (b r : ℕ) : Type 0 where
  pub ops : n.ops ≡ m.ops
  pub blocks : CellsBut (λ c. c ≡ b) m.blocks n.blocks
  pub regions : n.regions ≡ m.regions
  pub ops_of : n.ops_of ≡ m.ops_of
  pub home_of : n.home_of ≡ m.home_of
  pub blocks_of : SameOff r m.blocks_of n.blocks_of
  pub place_of : SameOff b m.place_of n.place_of

-- the operation s goes into the block b, or out of it
pub record LinkKeeps (m n : Model) (b s : ℕ) : Type 0 where
  pub cells : SameCells m n
  pub ops_of : SameOff b m.ops_of n.ops_of
  pub home_of : SameOff s m.home_of n.home_of
  pub blocks_of : n.blocks_of ≡ m.blocks_of
  pub place_of : n.place_of ≡ m.place_of

-- does the operation, or the block, at this slot define the value?
abbrev pub op_defines : DefiningEntity → ℕ → Bool
op_defines (definer.Op o) s = s == o.slot
op_defines (definer.Block b) s = false

abbrev pub block_defines : DefiningEntity → ℕ → Bool
block_defines (definer.Op o) s = false
block_defines (definer.Block b) s = s == b.slot

-- the type of a value that e defines is set
pub record TypeKeeps (m n : Model) (e : DefiningEntity) : Type 0 where
  pub ops : CellsBut (λ s. op_defines e s ≡ true) m.ops n.ops
  pub blocks : CellsBut (λ b. block_defines e b ≡ true) m.blocks n.blocks
  pub regions : n.regions ≡ m.regions
  pub places : SamePlaces m n

-- y is x, but for its operands
pub record ButOperands (x y : Operation) : Type 0 where
  pub kind : y.kind ≡ x.kind
  pub note : y.note ≡ x.note
  pub results : y.results ≡ x.results
  pub regions : y.regions ≡ x.regions

-- uses of a value are replaced
pub record ReplaceKeeps (m n : Model) : Type 0 where
  pub live : (s g : ℕ) (x : Operation) → cell_at m.ops s ≡ Live g x → (y : Operation) × (cell_at n.ops s ≡ Live g y) × ButOperands x y
  pub others : CellsBut (λ s. is_live (cell_at m.ops s) ≡ true) m.ops n.ops
  pub blocks : n.blocks ≡ m.blocks
  pub regions : n.regions ≡ m.regions
  pub places : SamePlaces m n

-- no region of the operation is in the list
abbrev pub Unowning : List IRNode → Operation → Type 0
Unowning ns x = (r : RegionId) → Among r x.regions → has_region ns r.slot ≡ false

-- the nodes of the list are erased: another operation loses those of its regions that are in it, and nothing where none is
pub record EraseKeeps (m n : Model) (ns : List IRNode) : Type 0 where
  pub ops : (s : ℕ) → has_op ns s ≡ false → cell_at n.ops s ≡ viewed (disowned (has_region ns)) (cell_at m.ops s)
  pub live : (s g : ℕ) (x : Operation) → has_op ns s ≡ false → cell_at m.ops s ≡ Live g x → Unowning ns x → cell_at n.ops s ≡ Live g x
  pub blocks : CellsBut (λ b. has_block ns b ≡ true) m.blocks n.blocks
  pub regions : CellsBut (λ r. has_region ns r ≡ true) m.regions n.regions
  pub ops_of : (b : ℕ) → ((s : ℕ) → In s (m.ops_of b) → has_op ns s ≡ false) → n.ops_of b ≡ m.ops_of b
  pub home_of : SameBut (λ s. has_op ns s ≡ true) m.home_of n.home_of
  pub blocks_of : (r : ℕ) → ((b : ℕ) → In b (m.blocks_of r) → has_block ns b ≡ false) → n.blocks_of r ≡ m.blocks_of r
  pub place_of : SameBut (λ b. has_block ns b ≡ true) m.place_of n.place_of

-- what each change of a store leaves as it was
pub record Keeping : Type 0 where
  pub made : (m : Model) (s : ℕ) (rs : List ℕ) (kind note : ℕ) (vs : List Value) (ts : List ℕ) (gs : List Bool) → MakeKeeps m (make_at m s rs kind note vs ts gs) s rs
  pub created : (m : Model) (b r : ℕ) (xs ts : List ℕ) → CreateKeeps m (create_at m b r xs ts) b r
  pub linked : (m : Model) (b s : ℕ) (xs : List ℕ) → LinkKeeps m (link_at m b s xs) b s
  pub unlinked : (m : Model) (s b : ℕ) → LinkKeeps m (unlink_at m s (Some b)) b s
  pub typed : (m : Model) (e : DefiningEntity) (i t : ℕ) → TypeKeeps m (typed_at m e i t) e
  pub replaced : (m : Model) (v w : Value) → ReplaceKeeps m (replace_all m v w)
  pub gone : (m : Model) (ns : List IRNode) → EraseKeeps m (erased m ns) ns
