-- The walk of an operation whose record is at hand.
use Rattle.std.proofs.Common.{◌≡◌, ℕ, List, [], ◌∷◌, map, Some, None, Option, sym, ap, ◌∙◌}
use Rattle.std.specs.List.{flat_map}
use Rattle.std.specs.Option.{option_map}
use Rattle.slots.specs.Cells.{cells, cell_at, holds}
use Rattle.slots.proofs.CellLaws.{cell_at_viewed, holds_viewed}
use Rattle.row.specs.Items.{row_items}
use Rattle.model.specs.declared.ids.RegionId.{RegionId}
use Rattle.model.specs.declared.ids.IRNode.{IRNode}
use Rattle.model.specs.declared.ids.IRNode.TheVariants as node
use Rattle.model.specs.Model.{regions_of, op_id}
use Rattle.model.specs.Sound.{Sound}
use Rattle.model.specs.Walk.{walk, region_by, slots_of_regions}
use Rattle.model.proofs.Unfolding.{unfolds}
use Rattle.tables.specs.declared.records.Operation.{Operation}
use Rattle.tables.specs.declared.tables.Tables.{Tables}
use Rattle.tables.specs.View.{view, view_op}
use Rattle.walkers.proofs.Turns.{joined_map}

-- what is met in the region with this identity
abbrev pub inside : Tables → RegionId → List IRNode
inside t r = region_by (view t) (walk (view t)) r.slot

-- the regions of an operation, from its record
pub regions_are : (t : Tables) (s : ℕ) (q : Option Operation) → q ≡ holds (cell_at (cells t.operations) s) → slots_of_regions (view t) s ≡ map (λ (r : RegionId). r.slot) (regions_of (option_map view_op q))
regions_are t s q e =
    ap (λ z. map (λ (r : RegionId). r.slot) (regions_of z)) (ap holds (cell_at_viewed view_op (cells t.operations) s) ∙ holds_viewed view_op (cell_at (cells t.operations) s) ∙ ap (option_map view_op) (sym e))

module _ (t : Tables) (σ : Sound (view t)) (s : ℕ) where
  whole : (ids : List RegionId) → slots_of_regions (view t) s ≡ map (λ (r : RegionId). r.slot) ids → walk (view t) s ≡ node.Operation (op_id (view t) s) ∷ flat_map (inside t) ids
  whole ids e = unfolds (view t) σ s ∙ ap (λ ns. node.Operation (op_id (view t) s) ∷ ns) (ap (flat_map (region_by (view t) (walk (view t)))) e ∙ joined_map (region_by (view t) (walk (view t))) (λ (r : RegionId). r.slot) ids)

  pub walk_some : (x : Operation) (ids : List RegionId) → Some x ≡ holds (cell_at (cells t.operations) s) → ids ≡ row_items x.regions → walk (view t) s ≡ node.Operation (op_id (view t) s) ∷ flat_map (inside t) ids
  walk_some x ids e d = whole ids (regions_are t s (Some x) e ∙ ap (map (λ (r : RegionId). r.slot)) (sym d))

  pub walk_none : None ≡ holds (cell_at (cells t.operations) s) → walk (view t) s ≡ node.Operation (op_id (view t) s) ∷ []
  walk_none e = whole [] (regions_are t s None e)
