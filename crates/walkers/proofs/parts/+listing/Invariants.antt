use Rattle.std.proofs.Common.{◌≡◌, ◌+◌, ◌*◌, ◌++◌, reverse, length, drop}
use Rattle.std.specs.List.{flat_map}
use Rattle.std.specs.Iterator.Adapters.{rev_source}
use Rattle.std.specs.Slice.Iter.{iter_rest}
use Rattle.model.specs.Walk.{slots_of_regions}
use Rattle.model.specs.Erasing.{body_nodes, region_nodes, op_nodes}
use Rattle.tables.specs.View.{view}
use Rattle.walkers.specs.Listed.{nodes_in}
use Rattle.walkers.proofs.Places.{rest_from}
use Rattle.walkers.proofs.Backs.{region_in}
use Rattle.walkers.proofs.Turns.{Midway}
use Rattle.walkers.proofs.parts.+listing.Given as goal

abbrev pub decreases-list_body : goal.decreases-list_body
decreases-list_body l = 2 * length (body_nodes (view l.tables.now) (op_nodes (view l.tables.now)) l.block) + 1

abbrev pub decreases-list_op : goal.decreases-list_op
decreases-list_op l = 2 * length (op_nodes (view l.tables.now) l.op)

abbrev pub decreases-list_region : goal.decreases-list_region
decreases-list_region l = 2 * length (region_nodes (view l.tables.now) (op_nodes (view l.tables.now)) l.region)

abbrev pub decreases-list_regions : goal.decreases-list_regions
decreases-list_regions l = 2 * length (flat_map (region_nodes (view l.tables.now) (op_nodes (view l.tables.now))) (reverse (slots_of_regions (view l.tables.now) l.op))) + 1

abbrev pub invariant-list_body-loop-cursor : goal.invariant-list_body-loop-cursor
invariant-list_body-loop-cursor l =
    Midway (λ b. reverse ((view l.tables).ops_of b)) l.block (op_nodes (view l.tables)) l.cursor (nodes_in l.nodes) (nodes_in l.initial.nodes)

abbrev pub decreases-list_body-loop-cursor : goal.decreases-list_body-loop-cursor
decreases-list_body-loop-cursor l = length (rest_from l.cursor (reverse ((view l.tables).ops_of l.block)))

abbrev pub invariant-list_region-loop-cursor : goal.invariant-list_region-loop-cursor
invariant-list_region-loop-cursor l =
    Midway (λ r. reverse ((view l.tables).blocks_of r)) l.region (body_nodes (view l.tables) (op_nodes (view l.tables))) l.cursor (nodes_in l.nodes) (nodes_in l.initial.nodes)

abbrev pub decreases-list_region-loop-cursor : goal.decreases-list_region-loop-cursor
decreases-list_region-loop-cursor l = length (rest_from l.cursor (reverse ((view l.tables).blocks_of l.region)))

abbrev pub invariant-list_regions-loop-region : goal.invariant-list_regions-loop-region
invariant-list_regions-loop-region l =
    nodes_in l.nodes ++ flat_map (region_in l.tables) (drop (length l.yielded) (reverse (iter_rest (rev_source l.initial.region-iterator))))
    ≡ nodes_in l.initial.nodes ++ flat_map (region_in l.tables) (reverse (iter_rest (rev_source l.initial.region-iterator)))
