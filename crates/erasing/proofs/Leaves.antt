-- What becomes of the tables when something leaves them.
use Rattle.std.proofs.Common.{◌≡◌, ℕ, ◌+◌, true, false, cond, ltb, List, map, set, Some, None, Option, sym, refl, ap, ◌∙◌}
use Rattle.std.proofs.lemmas.List.{map-set}
use Rattle.std.specs.Option.{MatchOption}
use Rattle.slots.specs.Cells.{Cell}
use Rattle.slots.specs.Cells.{Free, Live, Spent}
use Rattle.slots.specs.Cells.{cells, cell_at, retired, viewed}
use Rattle.slots.specs.declared.table.Table.{Table}
use Rattle.slots.proofs.CellLaws.{cell_at_viewed}
use Rattle.lists.specs.Walk.{without}
use Rattle.lists.specs.Lists.{members, home, Relinked}
use Rattle.lists.specs.declared.lists.LinkedLists.{LinkedLists}
use Rattle.model.specs.Calls.{unlink_at, drop_op}
use Rattle.model.specs.Erasing.{unlink_block_at, drop_block}
use Rattle.tables.specs.declared.records.Operation.{Operation}
use Rattle.tables.specs.declared.records.BasicBlock.{BasicBlock}
use Rattle.tables.specs.declared.tables.Tables.{Tables}
use Rattle.tables.specs.View.{view, view_op, view_block, op_cells, block_cells}
use Rattle.tables.proofs.LinkLaws.{members_put, home_put}

module _ {X Y : Type 0} (f : X → Y) where
  retired_viewed : (c : Cell X) → viewed f (retired c) ≡ retired (viewed f c)
  retired_viewed (Free g) = refl
  retired_viewed (Live g x) = elim (ltb g 4294967295) as (λ b. viewed f (cond b (Free (g + 1)) Spent) ≡ cond b (Free (g + 1)) Spent) [ true ↦ refl | false ↦ refl ]
  retired_viewed Spent = refl

  view_released : (cs ds : List (Cell X)) (s : ℕ) → ds ≡ set cs s (retired (cell_at cs s)) → map (viewed f) ds ≡ set (map (viewed f) cs) s (retired (cell_at (map (viewed f) cs) s))
  view_released cs ds s e =
      ap (map (viewed f)) e ∙ map-set (viewed f) cs s (retired (cell_at cs s))
      ∙ ap (set (map (viewed f) cs) s) (retired_viewed (cell_at cs s) ∙ ap retired (sym (cell_at_viewed f cs s)))

-- where s was in the list of q, it has gone out of it
abbrev Out : LinkedLists → LinkedLists → ℕ → Option ℕ → Type 0
Out l k s q = MatchOption q (k ≡ l) (λ c. Relinked l k c (without s (members l c)) s None)

-- a node has gone out of its list, and its slot is released
module _ (t : Tables) (l : LinkedLists) (s : ℕ) where
  abbrev with_ops : LinkedLists → Table Operation → Tables
  with_ops l k = record { operations = k; blocks = t.blocks; regions = t.regions; op_lists = l; block_lists = t.block_lists }

  op_out : (q : Option ℕ) → Out t.op_lists l s q → view (with_ops l t.operations) ≡ unlink_at (view t) s q
  op_out None e = ap (λ z. view (with_ops z t.operations)) e
  op_out (Some c) r =
      let f = members_put t.op_lists l c (without s (members t.op_lists c)) s None r in
      let g = home_put t.op_lists l c (without s (members t.op_lists c)) s None r in
      λ i. record { ops = op_cells t; blocks = block_cells t; regions = cells t.regions; ops_of = f i; home_of = g i; blocks_of = members t.block_lists; place_of = home t.block_lists }

  pub op_gone : (k : Table Operation) → Out t.op_lists l s (home t.op_lists s) → cells k ≡ set (cells t.operations) s (retired (cell_at (cells t.operations) s))
      → view (with_ops l k) ≡ drop_op (unlink_at (view t) s (home t.op_lists s)) s
  op_gone k o e =
      let f = view_released view_op (cells t.operations) (cells k) s e in
      (λ i. record { ops = f i; blocks = block_cells t; regions = cells t.regions; ops_of = members l; home_of = home l; blocks_of = members t.block_lists; place_of = home t.block_lists })
      ∙ ap (λ m. drop_op m s) (op_out (home t.op_lists s) o)

  abbrev with_blocks : LinkedLists → Table BasicBlock → Tables
  with_blocks l k = record { operations = t.operations; blocks = k; regions = t.regions; op_lists = t.op_lists; block_lists = l }

  block_out : (q : Option ℕ) → Out t.block_lists l s q → view (with_blocks l t.blocks) ≡ unlink_block_at (view t) s q
  block_out None e = ap (λ z. view (with_blocks z t.blocks)) e
  block_out (Some c) r =
      let f = members_put t.block_lists l c (without s (members t.block_lists c)) s None r in
      let g = home_put t.block_lists l c (without s (members t.block_lists c)) s None r in
      λ i. record { ops = op_cells t; blocks = block_cells t; regions = cells t.regions; ops_of = members t.op_lists; home_of = home t.op_lists; blocks_of = f i; place_of = g i }

  pub block_gone : (k : Table BasicBlock) → Out t.block_lists l s (home t.block_lists s) → cells k ≡ set (cells t.blocks) s (retired (cell_at (cells t.blocks) s))
      → view (with_blocks l k) ≡ drop_block (unlink_block_at (view t) s (home t.block_lists s)) s
  block_gone k o e =
      let f = view_released view_block (cells t.blocks) (cells k) s e in
      (λ i. record { ops = op_cells t; blocks = f i; regions = cells t.regions; ops_of = members t.op_lists; home_of = home t.op_lists; blocks_of = members l; place_of = home l })
      ∙ ap (λ m. drop_block m s) (block_out (home t.block_lists s) o)
