use Rattle.std.proofs.Common.{◌≡◌, ◌+◌, ◌*◌, ◌++◌, length, drop}
use Rattle.std.specs.List.{flat_map}
use Rattle.model.specs.Walk.{walk, region_by, block_by}
use Rattle.tables.specs.View.{view}
use Rattle.walkers.specs.Listed.{nodes_in}
use Rattle.walkers.proofs.Places.{rest_from}
use Rattle.walkers.proofs.Regions.{inside}
use Rattle.walkers.proofs.Turns.{Midway}
use Rattle.walkers.proofs.walkers.+walking.Given as goal

abbrev pub decreases-walk_block : goal.decreases-walk_block
decreases-walk_block l = 2 * length (block_by (view l.tables.now) (walk (view l.tables.now)) l.block)

abbrev pub decreases-walk_op : goal.decreases-walk_op
decreases-walk_op l = 2 * length (walk (view l.tables.now) l.op)

abbrev pub decreases-walk_region : goal.decreases-walk_region
decreases-walk_region l = 2 * length (region_by (view l.tables.now) (walk (view l.tables.now)) l.region) + 1

abbrev pub invariant-walk_block-loop-cursor : goal.invariant-walk_block-loop-cursor
invariant-walk_block-loop-cursor l =
    Midway (view l.tables).ops_of l.block (walk (view l.tables)) l.cursor (nodes_in l.nodes) (nodes_in l.initial.nodes)

abbrev pub decreases-walk_block-loop-cursor : goal.decreases-walk_block-loop-cursor
decreases-walk_block-loop-cursor l = length (rest_from l.cursor ((view l.tables).ops_of l.block))

abbrev pub invariant-walk_op-loop-region : goal.invariant-walk_op-loop-region
invariant-walk_op-loop-region l = nodes_in l.nodes ++ flat_map (inside l.tables) (drop l.region-index l.region-items) ≡ nodes_in l.initial.nodes ++ flat_map (inside l.tables) l.region-items

abbrev pub invariant-walk_region-loop-cursor : goal.invariant-walk_region-loop-cursor
invariant-walk_region-loop-cursor l =
    Midway (view l.tables).blocks_of l.region (block_by (view l.tables) (walk (view l.tables))) l.cursor (nodes_in l.nodes) (nodes_in l.initial.nodes)

abbrev pub decreases-walk_region-loop-cursor : goal.decreases-walk_region-loop-cursor
decreases-walk_region-loop-cursor l = length (rest_from l.cursor ((view l.tables).blocks_of l.region))
