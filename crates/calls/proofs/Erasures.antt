-- The worked example of erasing.
use Rattle.std.proofs.Common.{◌≡◌, ℕ, [], ◌∷◌, ◌++◌, map, reverse, ap, ◌∙◌}
use Rattle.std.specs.List.{flat_map}
use Rattle.model.specs.declared.ids.IRNode.TheVariants as node
use Rattle.model.specs.Model.{Model, op_id, block_id, region_id}
use Rattle.model.specs.Sound.{Sound}
use Rattle.model.specs.Walk.{slots_of_regions}
use Rattle.model.specs.Erasing.{body_nodes, edge_nodes, region_nodes, op_nodes}
use Rattle.model.proofs.Parts.{nodes_unfold}
use Rattle.calls.specs.Perform.{erasing}
use Rattle.calls.specs.Examples.{TwoBlocks, ErasesTwoBlocks}

module _ (m : Model) (σ : Sound m) (p r s t x y z : ℕ) (h : TwoBlocks m p r s t x y z) where
  leaf : (c : ℕ) → slots_of_regions m c ≡ [] → op_nodes m c ≡ node.Operation (op_id m c) ∷ []
  leaf c e = nodes_unfold m σ c ∙ ap (λ rs. flat_map (region_nodes m (op_nodes m)) (reverse rs) ++ node.Operation (op_id m c) ∷ []) e

  body_first : body_nodes m (op_nodes m) s ≡ node.Operation (op_id m y) ∷ node.Operation (op_id m x) ∷ []
  body_first = ap (λ cs. flat_map (op_nodes m) (reverse cs)) h.first ∙ ap (λ ns. ns ++ (op_nodes m x ++ [])) (leaf y h.plain_y) ∙ ap (λ ns. node.Operation (op_id m y) ∷ (ns ++ [])) (leaf x h.plain_x)

  body_second : body_nodes m (op_nodes m) t ≡ node.Operation (op_id m z) ∷ []
  body_second = ap (λ cs. flat_map (op_nodes m) (reverse cs)) h.second ∙ ap (λ ns. ns ++ []) (leaf z h.plain_z)

  edges : edge_nodes m r ≡ node.BasicBlock (block_id m s) ∷ node.BasicBlock (block_id m t) ∷ node.Region (region_id m r) ∷ []
  edges = ap (λ bs. map (λ b. node.BasicBlock (block_id m b)) bs ++ node.Region (region_id m r) ∷ []) h.blocks

  inner : region_nodes m (op_nodes m) r
      ≡ node.Operation (op_id m z) ∷ node.Operation (op_id m y) ∷ node.Operation (op_id m x) ∷ node.BasicBlock (block_id m s) ∷ node.BasicBlock (block_id m t) ∷ node.Region (region_id m r) ∷ []
  inner =
      ap (λ bs. flat_map (body_nodes m (op_nodes m)) (reverse bs) ++ edge_nodes m r) h.blocks
      ∙ ap (λ ns. (ns ++ (body_nodes m (op_nodes m) s ++ [])) ++ edge_nodes m r) body_second
      ∙ ap (λ ns. (node.Operation (op_id m z) ∷ (ns ++ [])) ++ edge_nodes m r) body_first
      ∙ ap (λ ns. node.Operation (op_id m z) ∷ node.Operation (op_id m y) ∷ node.Operation (op_id m x) ∷ ns) edges

  whole : op_nodes m p
      ≡ node.Operation (op_id m z) ∷ node.Operation (op_id m y) ∷ node.Operation (op_id m x) ∷ node.BasicBlock (block_id m s) ∷ node.BasicBlock (block_id m t) ∷ node.Region (region_id m r) ∷ node.Operation (op_id m p) ∷ []
  whole =
      nodes_unfold m σ p
      ∙ ap (λ rs. flat_map (region_nodes m (op_nodes m)) (reverse rs) ++ node.Operation (op_id m p) ∷ []) h.region
      ∙ ap (λ ns. (ns ++ []) ++ node.Operation (op_id m p) ∷ []) inner

pub erases_two_blocks : ErasesTwoBlocks
erases_two_blocks w k p r s t x y z σ h = ap (map erasing) (whole w.model σ p r s t x y z h)
