use Rattle.std.proofs.Common.{◌≡◌, suc, ◌+◌, ◌*◌, ◌<◌, ◌≤◌, [], ◌∷◌, ◌++◌, length, get_or, sym, refl, ap, ◌∙◌, arith}
use Rattle.std.specs.List.{flat_map}
use Rattle.model.specs.declared.ids.OpId.{OpId}
use Rattle.model.specs.declared.ids.BlockId.{BlockId}
use Rattle.model.specs.declared.ids.IRNode.TheVariants as node
use Rattle.model.specs.Model.{op_id, block_id, next_slot, next_block_slot}
use Rattle.model.specs.Walk.{walk, block_by}
use Rattle.tables.specs.View.{view}
use Rattle.walkers.specs.Listed.{nodes_in, Room}
use Rattle.walkers.proofs.Regions.{inside, walk_some, walk_none}
use Rattle.walkers.proofs.Turns.{one_more, one_less, slice_few, slice_room, slice_turn, slice_end, linked_end, linked_few, linked_less, linked_on, linked_room}
use Rattle.walkers.proofs.walkers.+walking.Goals as goal

pub walk_block-walk_op-requires : goal.walk_block-walk_op-requires
walk_block-walk_op-requires t c =
    let m = view c.args.tables.now in
    let part = linked_few (walk m) c.in-Some.op (m.ops_of c.args.block) (c.loop-cursor.invariant.0 c.in-Some.op c.in-Some.is) in
    let less : 2 * length (walk (view c.args.tables.now) c.in-Some.op) < t = omega (arith, c.decreases, part) in
    let fits = one_less _ (nodes_in c.args.nodes.now) (nodes_in c.push.new.self) (flat_map (walk m) (m.ops_of c.args.block)) 768 c.push.ensures c.requires.room in
    let room : Room c.loop-cursor.nodes (walk (view c.args.tables.now) c.in-Some.op) =
    linked_room m.ops_of m.home_of c.requires.sound.ops c.args.block c.in-Some.op c.loop-cursor.cursor (next_slot m c.in-Some.op) c.in-Some.is c.loop-cursor.invariant.0 refl (walk m) (nodes_in c.loop-cursor.nodes) (nodes_in c.push.new.self) c.loop-cursor.invariant.1 768 fits in
    (less, (c.requires.sound, room))

pub walk_block-loop-cursor-smaller : goal.walk_block-loop-cursor-smaller
walk_block-loop-cursor-smaller t c =
    let m = view c.args.tables.now in
    linked_less m.ops_of m.home_of c.requires.sound.ops c.args.block c.in-Some.op c.loop-cursor.cursor c.get_next-cursor.result c.in-Some.is c.loop-cursor.invariant.0 c.get_next-cursor.ensures

pub walk_block-loop-cursor-preserved : goal.walk_block-loop-cursor-preserved
walk_block-loop-cursor-preserved t c =
    let m = view c.args.tables.now in
    linked_on m.ops_of m.home_of c.requires.sound.ops c.args.block c.in-Some.op c.loop-cursor.cursor c.get_next-cursor.result c.in-Some.is c.loop-cursor.invariant.0 c.get_next-cursor.ensures (walk m) (nodes_in c.loop-cursor.nodes) (nodes_in c.push.new.self) c.loop-cursor.invariant.1 (nodes_in c.walk_op.new.nodes) c.walk_op.ensures

pub walk_block-returns : goal.walk_block-returns
walk_block-returns t c =
    let m = view c.args.tables.now in
    let first : nodes_in c.push.new.self ≡ nodes_in c.args.nodes.now ++ (node.BasicBlock (block_id m c.args.block) ∷ []) =
    c.push.ensures ∙ ap (λ (i : BlockId). nodes_in c.args.nodes.now ++ (node.BasicBlock i ∷ [])) c.block_id.ensures in
    one_more (node.BasicBlock (block_id m c.args.block)) (nodes_in c.args.nodes.now) (nodes_in c.push.new.self) (flat_map (walk m) (m.ops_of c.args.block)) (nodes_in c.loop-cursor.nodes) first
    (linked_end (walk m) (nodes_in c.loop-cursor.nodes) (nodes_in c.push.new.self) (m.ops_of c.args.block) c.loop-cursor.cursor c.in_default.is c.loop-cursor.invariant.1)

pub walk_op-returns-in_default : goal.walk_op-returns-in_default
walk_op-returns-in_default t c =
    c.push.ensures ∙ ap (λ (i : OpId). nodes_in c.args.nodes.now ++ (node.Operation i ∷ [])) c.op_id.ensures
    ∙ ap (λ ns. nodes_in c.args.nodes.now ++ ns) (sym (walk_none c.args.tables.now c.requires.sound c.args.op c.in_default.ensures))

pub walk_op-walk_region-requires : goal.walk_op-walk_region-requires
walk_op-walk_region-requires t c =
    let whole = ap length (walk_some c.args.tables.now c.requires.sound c.args.op c.in-Some.operation.now c.as_slice-region-items.result.now c.in-Some.ensures c.as_slice-region-items.ensures) in
    let part = slice_few (inside c.args.tables.now) c.as_slice-region-items.result.now c.loop-region.region-index (record { slot = 0; generation = 0 }) c.loop-region-test.true in
    let less : 2 * length (inside c.args.tables.now (get_or c.as_slice-region-items.result.now c.loop-region.region-index (record { slot = 0; generation = 0 }))) + 1 < t = omega (arith, c.decreases, part, whole) in
    let all : length (nodes_in c.args.nodes.now) + suc (length (flat_map (inside c.args.tables.now) c.as_slice-region-items.result.now)) ≤ 768 = omega (arith, c.requires.room, whole) in
    let fits = one_less _ (nodes_in c.args.nodes.now) (nodes_in c.push.new.self) (flat_map (inside c.args.tables.now) c.as_slice-region-items.result.now) 768 c.push.ensures all in
    let room : Room c.loop-region.nodes (inside c.args.tables.now (get_or c.as_slice-region-items.result.now c.loop-region.region-index (record { slot = 0; generation = 0 }))) =
    slice_room (inside c.args.tables.now) c.as_slice-region-items.result.now c.loop-region.region-index (record { slot = 0; generation = 0 }) (nodes_in c.loop-region.nodes) (nodes_in c.push.new.self) (flat_map (inside c.args.tables.now) c.as_slice-region-items.result.now) c.loop-region.invariant 768 c.loop-region-test.true fits in
    (less, (c.requires.sound, room))

pub walk_op-loop-region-preserved : goal.walk_op-loop-region-preserved
walk_op-loop-region-preserved t c =
    slice_turn (inside c.args.tables.now) c.as_slice-region-items.result.now c.loop-region.region-index (record { slot = 0; generation = 0 }) (nodes_in c.loop-region.nodes) (nodes_in c.push.new.self) (flat_map (inside c.args.tables.now) c.as_slice-region-items.result.now) c.loop-region.invariant (nodes_in c.walk_region.new.nodes) c.loop-region-test.true c.walk_region.ensures

pub walk_op-returns : goal.walk_op-returns
walk_op-returns t c =
    let m = view c.args.tables.now in
    let first : nodes_in c.push.new.self ≡ nodes_in c.args.nodes.now ++ (node.Operation (op_id m c.args.op) ∷ []) =
    c.push.ensures ∙ ap (λ (i : OpId). nodes_in c.args.nodes.now ++ (node.Operation i ∷ [])) c.op_id.ensures in
    one_more (node.Operation (op_id m c.args.op)) (nodes_in c.args.nodes.now) (nodes_in c.push.new.self) (flat_map (inside c.args.tables.now) c.as_slice-region-items.result.now) (nodes_in c.loop-region.nodes) first
    (slice_end (inside c.args.tables.now) c.as_slice-region-items.result.now c.loop-region.region-index (record { slot = 0; generation = 0 }) (nodes_in c.loop-region.nodes) (nodes_in c.push.new.self) (flat_map (inside c.args.tables.now) c.as_slice-region-items.result.now) c.loop-region.invariant c.loop-region-test.false)
    ∙ ap (λ ns. nodes_in c.args.nodes.now ++ ns) (sym (walk_some c.args.tables.now c.requires.sound c.args.op c.in-Some.operation.now c.as_slice-region-items.result.now c.in-Some.ensures c.as_slice-region-items.ensures))

pub walk_region-walk_block-requires : goal.walk_region-walk_block-requires
walk_region-walk_block-requires t c =
    let m = view c.args.tables.now in
    let f = block_by m (walk m) in
    let part = linked_few f c.in-Some.block (m.blocks_of c.args.region) (c.loop-cursor.invariant.0 c.in-Some.block c.in-Some.is) in
    let less : 2 * length (block_by (view c.args.tables.now) (walk (view c.args.tables.now)) c.in-Some.block) < t = omega (arith, c.decreases, part) in
    let room : Room c.loop-cursor.nodes (block_by (view c.args.tables.now) (walk (view c.args.tables.now)) c.in-Some.block) =
    linked_room m.blocks_of m.place_of c.requires.sound.blocks c.args.region c.in-Some.block c.loop-cursor.cursor (next_block_slot m c.in-Some.block) c.in-Some.is c.loop-cursor.invariant.0 refl f (nodes_in c.loop-cursor.nodes) (nodes_in c.args.nodes.now) c.loop-cursor.invariant.1 768 c.requires.room in
    (less, (c.requires.sound, room))

pub walk_region-loop-cursor-smaller : goal.walk_region-loop-cursor-smaller
walk_region-loop-cursor-smaller t c =
    let m = view c.args.tables.now in
    linked_less m.blocks_of m.place_of c.requires.sound.blocks c.args.region c.in-Some.block c.loop-cursor.cursor c.get_next-cursor.result c.in-Some.is c.loop-cursor.invariant.0 c.get_next-cursor.ensures

pub walk_region-loop-cursor-preserved : goal.walk_region-loop-cursor-preserved
walk_region-loop-cursor-preserved t c =
    let m = view c.args.tables.now in
    linked_on m.blocks_of m.place_of c.requires.sound.blocks c.args.region c.in-Some.block c.loop-cursor.cursor c.get_next-cursor.result c.in-Some.is c.loop-cursor.invariant.0 c.get_next-cursor.ensures (block_by m (walk m)) (nodes_in c.loop-cursor.nodes) (nodes_in c.args.nodes.now) c.loop-cursor.invariant.1 (nodes_in c.walk_block.new.nodes) c.walk_block.ensures
