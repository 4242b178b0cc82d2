use Rattle.std.proofs.Common.{length}
use Rattle.tables.specs.View.{view}
use Rattle.walkers.specs.Listed.{nodes_in}
use Rattle.walkers.proofs.Places.{rest_from}
use Rattle.walkers.proofs.Backs.{block_node}
use Rattle.walkers.proofs.Turns.{Midway}
use Rattle.walkers.proofs.parts.list_edge.Given as goal

abbrev pub invariant-loop-cursor : goal.invariant-loop-cursor
invariant-loop-cursor l =
    Midway (view l.tables).blocks_of l.region (block_node (view l.tables)) l.cursor (nodes_in l.nodes) (nodes_in l.initial.nodes)

abbrev pub decreases-loop-cursor : goal.decreases-loop-cursor
decreases-loop-cursor l = length (rest_from l.cursor ((view l.tables).blocks_of l.region))
