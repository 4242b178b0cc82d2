-- What the tables of a store mean.
use Rattle.std.specs.Prelude.{◌≡◌, ℕ, List, [], ◌∷◌, map, length, slice_set}
use Rattle.slots.specs.declared.table.Table.{Table}
use Rattle.slots.specs.Cells.{Cell, viewed, cells, cell_at}
use Rattle.row.specs.Items.{row_items}
use Rattle.lists.specs.Lists.{nodes, containers, members, home}
use Rattle.model.specs.Model as model
use Rattle.model.specs.Sound.{Sound}
use Rattle.tables.specs.declared.records.Operation.{Operation}
use Rattle.tables.specs.declared.records.BasicBlock.{BasicBlock}
use Rattle.tables.specs.declared.tables.Tables.{Tables}

abbrev pub view_op : Operation → model.Operation
view_op x = record { kind = x.kind; note = x.note; operands = row_items x.operands; results = row_items x.results; regions = row_items x.regions }

abbrev pub view_block : BasicBlock → model.Block
view_block x = record { args = row_items x.arguments }

abbrev pub op_cells : Tables → List (Cell model.Operation)
op_cells t = map (viewed view_op) (cells t.operations)

abbrev pub block_cells : Tables → List (Cell model.Block)
block_cells t = map (viewed view_block) (cells t.blocks)

abbrev pub view : Tables → model.Model
view t = record {
  ops = op_cells t;
  blocks = block_cells t;
  regions = cells t.regions;
  ops_of = members t.op_lists;
  home_of = home t.op_lists;
  blocks_of = members t.block_lists;
  place_of = home t.block_lists;
}

-- from t to u, what lives in the slot s was changed as h says, in the eyes of f
pub record Changed {X Y : Type 0} (f : X → Y) (h : Y → Y) (s : ℕ) (t u : Table X) : Type 0 where
  pub after : map (viewed f) (cells u) ≡ slice_set (map (viewed f) (cells t)) s (viewed h (cell_at (map (viewed f) (cells t)) s))
  pub len : length (cells u) ≡ length (cells t)

-- how large the tables are
abbrev pub sizes : Tables → List ℕ
sizes t =
    length (cells t.operations) ∷ length (cells t.blocks) ∷ length (cells t.regions)
    ∷ nodes t.op_lists ∷ containers t.op_lists ∷ nodes t.block_lists ∷ containers t.block_lists ∷ []

-- what holds of the tables of every store
pub record Good (t : Tables) : Type 0 where
  pub sized : sizes t ≡ 512 ∷ 128 ∷ 128 ∷ 512 ∷ 128 ∷ 128 ∷ 128 ∷ []
  pub sound : Sound (view t)
