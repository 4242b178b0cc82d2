-- What the calls of a store do to its meaning.
use Rattle.std.specs.Prelude.{◌≡◌, ℕ, zero, suc, Bool, true, false, cond, not, ◌&&◌, ◌||◌, List, [], ◌∷◌, map, length, is_some, Some, None, Option, ◌==◌, nat_lt, slice_set}
use Rattle.slots.specs.Cells.{Cell}
use Rattle.slots.specs.Cells.{Live}
use Rattle.slots.specs.Cells.{cell_at, is_free, frees, next_of, viewed, retired}
use Rattle.lists.specs.Walk.{Apart, without}
use Rattle.std.specs.List.{AllByRecursion}
use Rattle.model.specs.declared.ids.OpId.{OpId}
use Rattle.model.specs.declared.ids.BlockId.{BlockId}
use Rattle.model.specs.declared.ids.RegionId.{RegionId}
use Rattle.model.specs.declared.ids.Region.{Region}
use Rattle.model.specs.declared.ids.Value.{Value}
use Rattle.model.specs.declared.ids.DefiningEntity.{DefiningEntity}
use Rattle.model.specs.declared.ids.DefiningEntity.TheVariants as definer
use Rattle.model.specs.declared.refusal.Refusal.{Refusal}
use Rattle.model.specs.declared.refusal.Refusal.TheVariants.{NoSlot, TooMany, NotLive, NoBlock}
use Rattle.model.specs.Model.{Model, Operation, Block, are_values, is_value, put, find_op, results_of}

-- the identity that a slot gives next
abbrev pub next_op : Model → ℕ → OpId
next_op m s = record { slot = s; generation = next_of (cell_at m.ops s) }

abbrev pub next_ids : List (Cell Region) → List ℕ → List RegionId
next_ids cs [] = []
next_ids cs (r ∷ rs) = record { slot = r; generation = next_of (cell_at cs r) } ∷ next_ids cs rs

-- the regions, when one for each mark is opened for the operation o, at the slots rs in turn
abbrev pub opened : List (Cell Region) → OpId → List ℕ → List Bool → List (Cell Region)
opened cs o [] gs = cs
opened cs o (r ∷ rs) [] = cs
opened cs o (r ∷ rs) (g ∷ gs) = opened (slice_set cs r (Live (next_of (cell_at cs r)) (record { graph = g; owner = o }))) o rs gs

-- from cs to ds, a region was opened for each mark, under these identities
pub record Opened (cs ds : List (Cell Region)) (o : OpId) (gs : List Bool) (ids : List RegionId) : Type 0 where
  pub slots : List ℕ
  pub free : AllByRecursion (λ r. is_free (cell_at cs r) ≡ true) slots
  pub apart : Apart slots
  pub count : length slots ≡ length gs
  pub after : ds ≡ opened cs o slots gs
  pub given : ids ≡ next_ids cs slots

-- an operation is made at the slot s, with its regions at the slots rs
abbrev pub make_at : Model → ℕ → List ℕ → ℕ → ℕ → List Value → List ℕ → List Bool → Model
make_at m s rs kind note vs ts gs = record {
  ops = slice_set m.ops s (Live (next_of (cell_at m.ops s)) (record { kind = kind; note = note; operands = vs; results = ts; regions = next_ids m.regions rs }));
  blocks = m.blocks;
  regions = opened m.regions (next_op m s) rs gs;
  ops_of = m.ops_of;
  home_of = m.home_of;
  blocks_of = m.blocks_of;
  place_of = m.place_of;
}

abbrev pub make_refusal : Model → List Value → List ℕ → List Bool → Option Refusal
make_refusal m vs ts gs =
    cond (frees m.ops == 0 || nat_lt (frees m.regions) (length gs)) (Some NoSlot)
    (cond (nat_lt 8 (length vs) || (nat_lt 4 (length ts) || nat_lt 4 (length gs))) (Some TooMany)
    (cond (are_values m vs) None (Some NotLive)))

-- the slots rs are free, and none stands twice
pub record Usable (m : Model) (s : ℕ) (rs : List ℕ) (gs : List Bool) : Type 0 where
  pub op : is_free (cell_at m.ops s) ≡ true
  pub regions : AllByRecursion (λ r. is_free (cell_at m.regions r) ≡ true) rs
  pub apart : Apart rs
  pub count : length rs ≡ length gs

-- from m to n, an operation was made at the slot s, and some slots for its regions
pub record MadeAt (m n : Model) (s kind note : ℕ) (vs : List Value) (ts : List ℕ) (gs : List Bool) (o : OpId) : Type 0 where
  pub slots : List ℕ
  pub usable : Usable m s slots gs
  pub is : o ≡ next_op m s
  pub after : n ≡ make_at m s slots kind note vs ts gs

-- from m to n, an operation was made at the slots s and rs
pub record Made (m n : Model) (kind note : ℕ) (vs : List Value) (ts : List ℕ) (gs : List Bool) (o : OpId) : Type 0 where
  pub allowed : make_refusal m vs ts gs ≡ None
  pub slots : List ℕ
  pub usable : Usable m o.slot slots gs
  pub is : o ≡ next_op m o.slot
  pub after : n ≡ make_at m o.slot slots kind note vs ts gs

-- a block is made at the slot b, in the region r, whose list becomes xs
abbrev pub create_at : Model → ℕ → ℕ → List ℕ → List ℕ → Model
create_at m b r xs ts = record {
  ops = m.ops;
  blocks = slice_set m.blocks b (Live (next_of (cell_at m.blocks b)) (record { args = ts }));
  regions = m.regions;
  ops_of = m.ops_of;
  home_of = m.home_of;
  blocks_of = put m.blocks_of r xs;
  place_of = put m.place_of b (Some r);
}

-- the operation at s comes into the block at b, whose list becomes xs
abbrev pub link_at : Model → ℕ → ℕ → List ℕ → Model
link_at m b s xs = record {
  ops = m.ops;
  blocks = m.blocks;
  regions = m.regions;
  ops_of = put m.ops_of b xs;
  home_of = put m.home_of s (Some b);
  blocks_of = m.blocks_of;
  place_of = m.place_of;
}

-- the operation at s goes out of the block that it lies in
abbrev pub unlink_at : Model → ℕ → Option ℕ → Model
unlink_at m s None = m
unlink_at m s (Some b) = record {
  ops = m.ops;
  blocks = m.blocks;
  regions = m.regions;
  ops_of = put m.ops_of b (without s (m.ops_of b));
  home_of = put m.home_of s None;
  blocks_of = m.blocks_of;
  place_of = m.place_of;
}

abbrev pub unlink_refusal : Model → OpId → Option Refusal
unlink_refusal m o = cond (is_some (find_op m o)) (cond (is_some (m.home_of o.slot)) None (Some NoBlock)) (Some NotLive)

abbrev pub next_block : Model → ℕ → BlockId
next_block m s = record { slot = s; generation = next_of (cell_at m.blocks s) }

abbrev pub with_ops : Model → List (Cell Operation) → Model
with_ops m cs = record { ops = cs; blocks = m.blocks; regions = m.regions; ops_of = m.ops_of; home_of = m.home_of; blocks_of = m.blocks_of; place_of = m.place_of }

abbrev pub with_blocks : Model → List (Cell Block) → Model
with_blocks m cs = record { ops = m.ops; blocks = cs; regions = m.regions; ops_of = m.ops_of; home_of = m.home_of; blocks_of = m.blocks_of; place_of = m.place_of }

-- the i-th result, or argument, has the type t
abbrev pub retyped : ℕ → ℕ → Operation → Operation
retyped i t x = record { kind = x.kind; note = x.note; operands = x.operands; results = slice_set x.results i t; regions = x.regions }

abbrev pub reargued : ℕ → ℕ → Block → Block
reargued i t x = record { args = slice_set x.args i t }

abbrev pub typed_at : Model → DefiningEntity → ℕ → ℕ → Model
typed_at m (definer.Op o) i t = with_ops m (slice_set m.ops o.slot (viewed (retyped i t) (cell_at m.ops o.slot)))
typed_at m (definer.Block b) i t = with_blocks m (slice_set m.blocks b.slot (viewed (reargued i t) (cell_at m.blocks b.slot)))

abbrev pub type_refusal : Model → Value → Option Refusal
type_refusal m v = cond (is_value m v) None (Some NotLive)

-- each operand that is the value v becomes w
abbrev pub same_definer : DefiningEntity → DefiningEntity → Bool
same_definer (definer.Op o) (definer.Op p) = o.slot == p.slot && o.generation == p.generation
same_definer (definer.Op o) (definer.Block b) = false
same_definer (definer.Block b) (definer.Op o) = false
same_definer (definer.Block b) (definer.Block c) = b.slot == c.slot && b.generation == c.generation

abbrev pub same_value : Value → Value → Bool
same_value v w = same_definer v.definer w.definer && v.index == w.index

abbrev pub replaced : Value → Value → Value → Value
replaced v w u = cond (same_value u v) w u

abbrev pub reused : Value → Value → Operation → Operation
reused v w x = record { kind = x.kind; note = x.note; operands = map (replaced v w) x.operands; results = x.results; regions = x.regions }

abbrev pub replace_all : Model → Value → Value → Model
replace_all m v w = with_ops m (map (viewed (reused v w)) m.ops)

abbrev pub replace_refusal : Model → Value → Value → Option Refusal
replace_refusal m v w = cond (is_value m v && is_value m w) None (Some NotLive)

-- the first n results of an operation, from the i-th on
abbrev pub results_from : OpId → ℕ → ℕ → List Value
results_from o i zero = []
results_from o i (suc n) = record { definer = definer.Op o; index = i } ∷ results_from o (suc i) n

-- the results of an operation
abbrev pub result_values : Model → OpId → List Value
result_values m o = results_from o 0 (length (results_of (find_op m o)))

-- what a value becomes, when the new values take the place of the old ones, one after the other
abbrev pub chained : List Value → List Value → Value → Value
chained [] ws u = u
chained (v ∷ vs) [] u = u
chained (v ∷ vs) (w ∷ ws) u = chained vs ws (replaced v w u)

-- the new values take the place of the old ones, one after the other
abbrev pub replace_each : Model → List Value → List Value → Model
replace_each m [] ws = m
replace_each m (v ∷ vs) [] = m
replace_each m (v ∷ vs) (w ∷ ws) = replace_each (replace_all m v w) vs ws

-- no operand is a result of the operation at s
abbrev pub not_by : ℕ → DefiningEntity → Bool
not_by s (definer.Op o) = not (o.slot == s)
not_by s (definer.Block b) = true

abbrev pub away_from : ℕ → List Value → Bool
away_from s [] = true
away_from s (v ∷ vs) = not_by s v.definer && away_from s vs

-- the operation at s is gone
abbrev pub drop_op : Model → ℕ → Model
drop_op m s = with_ops m (slice_set m.ops s (retired (cell_at m.ops s)))
