-- What the tables of every store allow.
use Rattle.std.proofs.Common.{◌≡◌, ℕ, ◌<◌, ◌≤◌, true, List, length, get_or, is_some, None, sym, ap, ◌∙◌, subst, arith}
use mathlib.Core.Logic.{∥∥₁_elim, ∥∥₁_map}
use base.Stored.{Coded-set, coded_ℕ}
use Rattle.std.proofs.lemmas.List.{length-map}
use Rattle.model.specs.Sound.{Sound}
use Rattle.model.proofs.Props.{sound}
use native.Mathlib.Bridge.{le_prop}
use Rattle.slots.specs.Cells.{cell_at, is_free, is_live, cells, viewed}
use Rattle.slots.proofs.CellLaws.{free_within, live_within, found_is_live, cell_at_viewed, free_viewed, some_viewed}
use Rattle.lists.specs.Lists.{nodes, containers, home}
use Rattle.lists.proofs.Props.{option_set}
use Rattle.model.specs.declared.ids.OpId.{OpId}
use Rattle.model.specs.declared.ids.IRNode.{IRNode}
use Rattle.model.specs.Model.{find_op}
use Rattle.model.specs.Erasing.{is_node, part_of, Closed, PartListed}
use Rattle.model.proofs.Closing.{part_closed, part_few}
use Rattle.model.proofs.Creating.{free_unplaced}
use Rattle.tables.specs.declared.tables.Tables.{Tables}
use Rattle.tables.specs.View.{view, view_op, view_block, Good}

module _ (t : Tables) (g : ∥ Good t ∥₁) where
  pub sound_of : Sound (view t)
  sound_of = sound (view t) (∥∥₁_map g (λ z. z.sound))

  pub ops_sized : length (view t).ops ≡ 512
  ops_sized = length-map (cells t.operations) (viewed view_op) ∙ ∥∥₁_elim g (Coded-set coded_ℕ _ _) (λ z. ap (λ ns. get_or ns 0 0) z.sized)

  pub blocks_sized : length (view t).blocks ≡ 128
  blocks_sized = length-map (cells t.blocks) (viewed view_block) ∙ ∥∥₁_elim g (Coded-set coded_ℕ _ _) (λ z. ap (λ ns. get_or ns 1 0) z.sized)

  pub regions_sized : length (view t).regions ≡ 128
  regions_sized = ∥∥₁_elim g (Coded-set coded_ℕ _ _) (λ z. ap (λ ns. get_or ns 2 0) z.sized)

  pub free_block_node : (s : ℕ) → is_free (cell_at (cells t.blocks) s) ≡ true → s < nodes t.block_lists
  free_block_node s f = ∥∥₁_elim g le_prop (λ z. omega (arith, free_within (cells t.blocks) s f, ap (λ ns. get_or ns 1 0) z.sized, ap (λ ns. get_or ns 5 0) z.sized))

  pub free_block_unplaced : (s : ℕ) → is_free (cell_at (cells t.blocks) s) ≡ true → home t.block_lists s ≡ None
  free_block_unplaced s f =
      ∥∥₁_elim g (option_set _ _) (λ z. free_unplaced (view t) s z.sound (ap is_free (cell_at_viewed view_block (cells t.blocks) s) ∙ free_viewed view_block (cell_at (cells t.blocks) s) ∙ f))

  -- a live region, and a live block, can have a list
  pub region_within : (r : ℕ) → is_live (cell_at (view t).regions r) ≡ true → r < containers t.block_lists
  region_within r h = ∥∥₁_elim g le_prop (λ z. omega (arith, live_within (view t).regions r h, ap (λ ns. get_or ns 2 0) z.sized, ap (λ ns. get_or ns 6 0) z.sized))

  pub block_within : (b : ℕ) → is_live (cell_at (view t).blocks b) ≡ true → b < containers t.op_lists
  block_within b h = ∥∥₁_elim g le_prop (λ z. omega (arith, live_within (view t).blocks b h, blocks_sized, ap (λ ns. get_or ns 4 0) z.sized))

  pub op_node : (o : OpId) → is_some (find_op (view t) o) ≡ true → o.slot < nodes t.op_lists
  op_node o h =
      let cs = cells t.operations in
      ∥∥₁_elim g le_prop (λ z. omega (arith, live_within cs o.slot (found_is_live cs o.slot o.generation (sym (some_viewed view_op cs o.slot o.generation) ∙ h)), ap (λ ns. get_or ns 0 0) z.sized, ap (λ ns. get_or ns 3 0) z.sized))

  -- the part of a live node, listed
  pub part_listed : (n : IRNode) (ns : List IRNode) → is_node (view t) n ≡ true → ns ≡ part_of (view t) n → PartListed (view t) n ns
  part_listed n ns a e = record {
    allowed = a;
    nodes = e;
    closed = subst (Closed (view t)) (sym e) (part_closed (view t) sound_of n a);
    few = subst (λ ks. length ks ≤ 768) (sym e) (part_few (view t) sound_of n a ops_sized blocks_sized regions_sized);
  }
