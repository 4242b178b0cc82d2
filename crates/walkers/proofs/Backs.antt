-- Listings from the last to the first, each node behind what lies in it.
use Rattle.std.proofs.Common.{◌≡◌, ℕ, ◌+◌, ◌≤◌, List, [], ◌∷◌, ◌++◌, map, reverse, length, Some, None, sym, ap, ◌∙◌, append_assoc, arith, length-append}
use Rattle.std.specs.List.{flat_map}
use Rattle.slots.specs.Cells.{cells, cell_at, holds}
use Rattle.row.specs.Items.{row_items}
use Rattle.model.specs.declared.ids.RegionId.{RegionId}
use Rattle.model.specs.declared.ids.IRNode.{IRNode}
use Rattle.model.specs.declared.ids.IRNode.TheVariants as node
use Rattle.model.specs.Model.{Model, block_id, region_id}
use Rattle.model.specs.Walk.{slots_of_regions}
use Rattle.model.specs.Erasing.{edge_nodes, region_nodes, op_nodes}
use Rattle.model.proofs.Backward.{map_reverse, joined_one}
use Rattle.tables.specs.declared.records.Operation.{Operation}
use Rattle.tables.specs.declared.tables.Tables.{Tables}
use Rattle.tables.specs.View.{view}
use Rattle.walkers.proofs.Turns.{joined_map}
use Rattle.walkers.proofs.Regions.{regions_are}

-- what is listed of the region with this identity
abbrev pub region_in : Tables → RegionId → List IRNode
region_in t r = region_nodes (view t) (op_nodes (view t)) r.slot

abbrev pub block_node : Model → ℕ → List IRNode
block_node m b = node.BasicBlock (block_id m b) ∷ []

module _ {Y : Type 0} where
  -- one node goes out behind a list
  pub behind : (y : Y) (start whole middle out : List Y) → middle ≡ start ++ whole → out ≡ middle ++ (y ∷ []) → out ≡ start ++ (whole ++ y ∷ [])
  behind y start whole middle out e f = f ∙ rw e (append_assoc start whole (y ∷ []))

  -- two lists go out, one behind the other
  pub both : (start here there middle out : List Y) → middle ≡ start ++ here → out ≡ middle ++ there → out ≡ start ++ (here ++ there)
  both start here there middle out e f = f ∙ rw e (append_assoc start here there)

  -- there is room for the first list, and behind it for the second
  pub first_room : (start here there : List Y) (n : ℕ) → length start + length (here ++ there) ≤ n → length start + length here ≤ n
  first_room start here there n fits = omega (arith, length-append here there)

  pub second_room : (start here there middle : List Y) (n : ℕ) → middle ≡ start ++ here → length start + length (here ++ there) ≤ n → length middle + length there ≤ n
  second_room start here there middle n e fits = let a = ap length e ∙ length-append start here in omega (arith, length-append here there)

pub edge_is : (m : Model) (r : ℕ) → edge_nodes m r ≡ flat_map (block_node m) (m.blocks_of r) ++ node.Region (region_id m r) ∷ []
edge_is m r = ap (λ ns. ns ++ node.Region (region_id m r) ∷ []) (sym (joined_one (λ b. node.BasicBlock (block_id m b)) (m.blocks_of r)))

module _ (t : Tables) (s : ℕ) where
  listed : (ids : List RegionId) → slots_of_regions (view t) s ≡ map (λ (r : RegionId). r.slot) ids
      → flat_map (region_nodes (view t) (op_nodes (view t))) (reverse (slots_of_regions (view t) s)) ≡ flat_map (region_in t) (reverse ids)
  listed ids e =
      ap (λ rs. flat_map (region_nodes (view t) (op_nodes (view t))) (reverse rs)) e
      ∙ ap (flat_map (region_nodes (view t) (op_nodes (view t)))) (sym (map_reverse (λ (r : RegionId). r.slot) ids))
      ∙ joined_map (region_nodes (view t) (op_nodes (view t))) (λ (r : RegionId). r.slot) (reverse ids)

  pub listed_some : (x : Operation) (ids : List RegionId) → Some x ≡ holds (cell_at (cells t.operations) s) → ids ≡ row_items x.regions
      → flat_map (region_nodes (view t) (op_nodes (view t))) (reverse (slots_of_regions (view t) s)) ≡ flat_map (region_in t) (reverse ids)
  listed_some x ids e d = listed ids (regions_are t s (Some x) e ∙ ap (map (λ (r : RegionId). r.slot)) (sym d))

  pub listed_none : None ≡ holds (cell_at (cells t.operations) s) → flat_map (region_nodes (view t) (op_nodes (view t))) (reverse (slots_of_regions (view t) s)) ≡ []
  listed_none e = listed [] (regions_are t s None e)
