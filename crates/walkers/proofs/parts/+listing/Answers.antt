use Rattle.std.proofs.Common.{◌≡◌, ◌+◌, ◌*◌, ◌<◌, ◌≤◌, [], ◌∷◌, ◌++◌, reverse, length, drop, sym, refl, ap, ◌∙◌, arith, length-append}
use Rattle.std.proofs.lemmas.List.{append-nil, length_push}
use Rattle.std.proofs.lemmas.Iterator.Adapters.{YieldsList-from_rev_slice}
use Rattle.std.proofs.lemmas.Iterator.Consumers.{YieldsList-turn, YieldsList-end}
use Rattle.std.specs.Iterator.Adapters.{rev_source}
use Rattle.std.specs.Slice.Iter.{iter_rest}
use Rattle.std.specs.List.{flat_map}
use Rattle.model.specs.declared.ids.OpId.{OpId}
use Rattle.model.specs.declared.ids.IRNode.TheVariants as node
use Rattle.model.specs.Model.{op_id, prev_slot, prev_block_slot}
use Rattle.model.specs.Walk.{slots_of_regions}
use Rattle.model.specs.Erasing.{body_nodes, edge_nodes, region_nodes, op_nodes}
use Rattle.model.proofs.Parts.{nodes_unfold}
use Rattle.model.proofs.Backward.{agree_reverse, last_first, prev_next}
use Rattle.tables.specs.View.{view}
use Rattle.walkers.specs.Listed.{nodes_in, Room}
use Rattle.walkers.proofs.Backs.{region_in, behind, both, first_room, second_room, edge_is, listed_some, listed_none}
use Rattle.walkers.proofs.Turns.{slice_few, slice_room, slice_turn, slice_end, linked_from, linked_end, linked_few, linked_less, linked_on, linked_room}
use Rattle.walkers.proofs.parts.+listing.Goals as goal

pub list_body-loop-cursor-init : goal.list_body-loop-cursor-init
list_body-loop-cursor-init t c =
    let m = view c.args.tables.now in
    linked_from (λ b. reverse (m.ops_of b)) c.args.block (op_nodes m) (nodes_in c.args.nodes.now) c.get_tail-cursor.result (c.get_tail-cursor.ensures ∙ last_first (m.ops_of c.args.block))

pub list_body-list_op-requires : goal.list_body-list_op-requires
list_body-list_op-requires t c =
    let m = view c.args.tables.now in
    let part = linked_few (op_nodes m) c.in-Some.op (reverse (m.ops_of c.args.block)) (c.loop-cursor.invariant.0 c.in-Some.op c.in-Some.is) in
    let less : 2 * length (op_nodes (view c.args.tables.now) c.in-Some.op) < t = omega (arith, c.decreases, part) in
    let room : Room c.loop-cursor.nodes (op_nodes (view c.args.tables.now) c.in-Some.op) =
    linked_room (λ b. reverse (m.ops_of b)) m.home_of (agree_reverse m.ops_of m.home_of c.requires.sound.ops) c.args.block c.in-Some.op c.loop-cursor.cursor (prev_slot m c.in-Some.op) c.in-Some.is c.loop-cursor.invariant.0 (prev_next m.ops_of m.home_of c.requires.sound.ops c.in-Some.op) (op_nodes m) (nodes_in c.loop-cursor.nodes) (nodes_in c.args.nodes.now) c.loop-cursor.invariant.1 768 c.requires.room in
    (less, (c.requires.sound, room))

pub list_body-loop-cursor-smaller : goal.list_body-loop-cursor-smaller
list_body-loop-cursor-smaller t c =
    let m = view c.args.tables.now in
    linked_less (λ b. reverse (m.ops_of b)) m.home_of (agree_reverse m.ops_of m.home_of c.requires.sound.ops) c.args.block c.in-Some.op c.loop-cursor.cursor c.get_prev-cursor.result c.in-Some.is c.loop-cursor.invariant.0 (c.get_prev-cursor.ensures ∙ prev_next m.ops_of m.home_of c.requires.sound.ops c.in-Some.op)

pub list_body-loop-cursor-preserved : goal.list_body-loop-cursor-preserved
list_body-loop-cursor-preserved t c =
    let m = view c.args.tables.now in
    let agree = agree_reverse m.ops_of m.home_of c.requires.sound.ops in
    let next = c.get_prev-cursor.ensures ∙ prev_next m.ops_of m.home_of c.requires.sound.ops c.in-Some.op in
    linked_on (λ b. reverse (m.ops_of b)) m.home_of agree c.args.block c.in-Some.op c.loop-cursor.cursor c.get_prev-cursor.result c.in-Some.is c.loop-cursor.invariant.0 next (op_nodes m) (nodes_in c.loop-cursor.nodes) (nodes_in c.args.nodes.now) c.loop-cursor.invariant.1 (nodes_in c.list_op.new.nodes) c.list_op.ensures

pub list_op-list_regions-requires : goal.list_op-list_regions-requires
list_op-list_regions-requires t c =
    let m = view c.args.tables.now in
    let inner = flat_map (region_nodes m (op_nodes m)) (reverse (slots_of_regions m c.args.op)) in
    let whole = ap length (nodes_unfold m c.requires.sound c.args.op) ∙ length-append inner (node.Operation (op_id m c.args.op) ∷ []) in
    let less : 2 * length (flat_map (region_nodes (view c.args.tables.now) (op_nodes (view c.args.tables.now))) (reverse (slots_of_regions (view c.args.tables.now) c.args.op))) + 1 < t = omega (arith, c.decreases, whole) in
    let room : Room c.args.nodes.now (flat_map (region_nodes (view c.args.tables.now) (op_nodes (view c.args.tables.now))) (reverse (slots_of_regions (view c.args.tables.now) c.args.op))) = omega (arith, c.requires.room, whole) in
    (less, (c.requires.sound, room))

pub list_op-push-requires : goal.list_op-push-requires
list_op-push-requires t c =
    let m = view c.args.tables.now in
    let inner = flat_map (region_nodes m (op_nodes m)) (reverse (slots_of_regions m c.args.op)) in
    let whole = ap length (nodes_unfold m c.requires.sound c.args.op) ∙ length-append inner (node.Operation (op_id m c.args.op) ∷ []) in
    let middle = ap length c.list_regions.ensures ∙ length-append (nodes_in c.args.nodes.now) inner in
    omega (arith, c.requires.room, whole, middle)

pub list_op-returns : goal.list_op-returns
list_op-returns t c =
    let m = view c.args.tables.now in
    let start = nodes_in c.args.nodes.now in
    let last : nodes_in c.push.new.self ≡ nodes_in c.list_regions.new.nodes ++ (node.Operation (op_id m c.args.op) ∷ []) =
    c.push.ensures ∙ ap (λ (i : OpId). nodes_in c.list_regions.new.nodes ++ (node.Operation i ∷ [])) c.op_id.ensures in
    behind (node.Operation (op_id m c.args.op)) start (flat_map (region_nodes m (op_nodes m)) (reverse (slots_of_regions m c.args.op))) (nodes_in c.list_regions.new.nodes) (nodes_in c.push.new.self) c.list_regions.ensures last
    ∙ ap (λ ns. start ++ ns) (sym (nodes_unfold m c.requires.sound c.args.op))

pub list_region-loop-cursor-init : goal.list_region-loop-cursor-init
list_region-loop-cursor-init t c =
    let m = view c.args.tables.now in
    linked_from (λ r. reverse (m.blocks_of r)) c.args.region (body_nodes m (op_nodes m)) (nodes_in c.args.nodes.now) c.get_tail-cursor.result (c.get_tail-cursor.ensures ∙ last_first (m.blocks_of c.args.region))

pub list_region-list_body-requires : goal.list_region-list_body-requires
list_region-list_body-requires t c =
    let m = view c.args.tables.now in
    let f = body_nodes m (op_nodes m) in
    let r = c.args.region in
    let inner = flat_map f (reverse (m.blocks_of r)) in
    let whole = length-append inner (edge_nodes m r) in
    let edge = ap length (edge_is m r) ∙ length-append _ (node.Region _ ∷ []) in
    let part = linked_few f c.in-Some.block (reverse (m.blocks_of r)) (c.loop-cursor.invariant.0 c.in-Some.block c.in-Some.is) in
    let less : 2 * length (body_nodes (view c.args.tables.now) (op_nodes (view c.args.tables.now)) c.in-Some.block) + 1 < t = omega (arith, c.decreases, part, whole, edge) in
    let fits = first_room (nodes_in c.args.nodes.now) inner (edge_nodes m r) 768 c.requires.room in
    let room : Room c.loop-cursor.nodes (body_nodes (view c.args.tables.now) (op_nodes (view c.args.tables.now)) c.in-Some.block) =
    linked_room (λ k. reverse (m.blocks_of k)) m.place_of (agree_reverse m.blocks_of m.place_of c.requires.sound.blocks) r c.in-Some.block c.loop-cursor.cursor (prev_block_slot m c.in-Some.block) c.in-Some.is c.loop-cursor.invariant.0 (prev_next m.blocks_of m.place_of c.requires.sound.blocks c.in-Some.block) f (nodes_in c.loop-cursor.nodes) (nodes_in c.args.nodes.now) c.loop-cursor.invariant.1 768 fits in
    (less, (c.requires.sound, room))

pub list_region-loop-cursor-smaller : goal.list_region-loop-cursor-smaller
list_region-loop-cursor-smaller t c =
    let m = view c.args.tables.now in
    linked_less (λ k. reverse (m.blocks_of k)) m.place_of (agree_reverse m.blocks_of m.place_of c.requires.sound.blocks) c.args.region c.in-Some.block c.loop-cursor.cursor c.get_prev-cursor.result c.in-Some.is c.loop-cursor.invariant.0 (c.get_prev-cursor.ensures ∙ prev_next m.blocks_of m.place_of c.requires.sound.blocks c.in-Some.block)

pub list_region-loop-cursor-preserved : goal.list_region-loop-cursor-preserved
list_region-loop-cursor-preserved t c =
    let m = view c.args.tables.now in
    let agree = agree_reverse m.blocks_of m.place_of c.requires.sound.blocks in
    let next = c.get_prev-cursor.ensures ∙ prev_next m.blocks_of m.place_of c.requires.sound.blocks c.in-Some.block in
    linked_on (λ k. reverse (m.blocks_of k)) m.place_of agree c.args.region c.in-Some.block c.loop-cursor.cursor c.get_prev-cursor.result c.in-Some.is c.loop-cursor.invariant.0 next (body_nodes m (op_nodes m)) (nodes_in c.loop-cursor.nodes) (nodes_in c.args.nodes.now) c.loop-cursor.invariant.1 (nodes_in c.list_body.new.nodes) c.list_body.ensures

pub list_region-list_edge-requires : goal.list_region-list_edge-requires
list_region-list_edge-requires t c =
    let m = view c.args.tables.now in
    let f = body_nodes m (op_nodes m) in
    let r = c.args.region in
    let end = linked_end f (nodes_in c.loop-cursor.nodes) (nodes_in c.args.nodes.now) (reverse (m.blocks_of r)) c.loop-cursor.cursor c.in_default.is c.loop-cursor.invariant.1 in
    record {
      sound = c.requires.sound;
      room = second_room (nodes_in c.args.nodes.now) (flat_map f (reverse (m.blocks_of r))) (edge_nodes m r) (nodes_in c.loop-cursor.nodes) 768 end c.requires.room;
    }

pub list_region-returns : goal.list_region-returns
list_region-returns t c =
    let m = view c.args.tables.now in
    let f = body_nodes m (op_nodes m) in
    let r = c.args.region in
    let end = linked_end f (nodes_in c.loop-cursor.nodes) (nodes_in c.args.nodes.now) (reverse (m.blocks_of r)) c.loop-cursor.cursor c.in_default.is c.loop-cursor.invariant.1 in
    both (nodes_in c.args.nodes.now) (flat_map f (reverse (m.blocks_of r))) (edge_nodes m r) (nodes_in c.loop-cursor.nodes) (nodes_in c.list_edge.new.nodes) end c.list_edge.ensures

pub list_regions-list_region-requires : goal.list_regions-list_region-requires
list_regions-list_region-requires t c =
    let f = region_in c.args.tables.now in
    let rs = iter_rest (rev_source c.into_iter-region-iterator.result) in
    let k = length c.loop-region.yielded in
    let r = c.in-Some-region.region.now in
    let turn = YieldsList-turn (YieldsList-from_rev_slice {s = c.into_iter-region-iterator.result} rs refl) c.loop-region.yielded c.loop-region.region-iterator c.loop-region.yielded_by c.next.result c.next.new.self c.in-Some-region.region c.in-Some-region.is c.next.ensures.steps in
    let here = ap (λ q. length (f q)) turn.1 in
    let whole = ap length (listed_some c.args.tables.now c.args.op c.in-Some.operation.now rs c.in-Some.ensures cc) in
    let less : 2 * length (region_in c.args.tables.now c.in-Some-region.region.now) < t = omega (arith, c.decreases, slice_few f (reverse rs) k r turn.0, here, whole) in
    let fits : length (nodes_in c.args.nodes.now) + length (flat_map f (reverse rs)) ≤ 768 = omega (arith, c.requires.room, whole) in
    let room : Room c.loop-region.nodes (region_in c.args.tables.now c.in-Some-region.region.now) =
    omega (arith, slice_room f (reverse rs) k r (nodes_in c.loop-region.nodes) (nodes_in c.args.nodes.now) (flat_map f (reverse rs)) c.loop-region.invariant 768 turn.0 fits, here) in
    (less, (c.requires.sound, room))

pub list_regions-loop-region-preserved : goal.list_regions-loop-region-preserved
list_regions-loop-region-preserved t c =
    let f = region_in c.args.tables.now in
    let rs = iter_rest (rev_source c.into_iter-region-iterator.result) in
    let k = length c.loop-region.yielded in
    let turn = YieldsList-turn (YieldsList-from_rev_slice {s = c.into_iter-region-iterator.result} rs refl) c.loop-region.yielded c.loop-region.region-iterator c.loop-region.yielded_by c.next.result c.next.new.self c.in-Some-region.region c.in-Some-region.is c.next.ensures.steps in
    ap (λ n. nodes_in c.list_region.new.nodes ++ flat_map f (drop n (reverse rs))) (length_push c.loop-region.yielded c.in-Some-region.region)
    ∙ slice_turn f (reverse rs) k c.in-Some-region.region.now (nodes_in c.loop-region.nodes) (nodes_in c.args.nodes.now) (flat_map f (reverse rs)) c.loop-region.invariant (nodes_in c.list_region.new.nodes) turn.0 (c.list_region.ensures ∙ ap (λ q. nodes_in c.loop-region.nodes ++ f q) turn.1)

pub list_regions-returns-in-None : goal.list_regions-returns-in-None
list_regions-returns-in-None t c =
    let f = region_in c.args.tables.now in
    let start = nodes_in c.args.nodes.now in
    let rs = iter_rest (rev_source c.into_iter-region-iterator.result) in
    let seen = YieldsList-end (YieldsList-from_rev_slice {s = c.into_iter-region-iterator.result} rs refl) c.loop-region.yielded c.loop-region.region-iterator c.loop-region.yielded_by c.next.result c.next.new.self c.in-None.is c.next.ensures.steps in
    slice_end f (reverse rs) (length c.loop-region.yielded) (record { slot = 0; generation = 0 }) (nodes_in c.loop-region.nodes) start (flat_map f (reverse rs)) c.loop-region.invariant (omega (arith, seen.1))
    ∙ ap (λ ns. start ++ ns) (sym (listed_some c.args.tables.now c.args.op c.in-Some.operation.now rs c.in-Some.ensures cc))

pub list_regions-returns-in_default : goal.list_regions-returns-in_default
list_regions-returns-in_default t c =
    sym (append-nil (nodes_in c.args.nodes.now)) ∙ ap (λ ns. nodes_in c.args.nodes.now ++ ns) (sym (listed_none c.args.tables.now c.args.op c.in_default.ensures))
