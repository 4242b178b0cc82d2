use Rattle.std.proofs.Common.{◌≡◌, ◌+◌, ◌≤◌, [], ◌∷◌, ◌++◌, length, sym, refl, ap, ◌∙◌, arith}
use Rattle.std.specs.List.{flat_map}
use Rattle.model.specs.declared.ids.BlockId.{BlockId}
use Rattle.model.specs.declared.ids.RegionId.{RegionId}
use Rattle.model.specs.declared.ids.IRNode.TheVariants as node
use Rattle.model.specs.Model.{block_id, region_id, next_block_slot}
use Rattle.tables.specs.View.{view}
use Rattle.walkers.specs.Listed.{nodes_in}
use Rattle.walkers.proofs.Backs.{block_node, behind, first_room, second_room, edge_is}
use Rattle.walkers.proofs.Turns.{linked_end, linked_less, linked_on, linked_room}
use Rattle.walkers.proofs.parts.list_edge.Goals as goal

pub push-requires : goal.push-requires
push-requires c =
    let m = view c.args.tables.now in
    let whole = flat_map (block_node m) (m.blocks_of c.args.region) in
    let all : length (nodes_in c.args.nodes.now) + length (whole ++ node.Region (region_id m c.args.region) ∷ []) ≤ 768 = omega (arith, c.requires.room, ap length (edge_is m c.args.region)) in
    let fits = first_room (nodes_in c.args.nodes.now) whole (node.Region (region_id m c.args.region) ∷ []) 768 all in
    let room = linked_room m.blocks_of m.place_of c.requires.sound.blocks c.args.region c.in-Some.block c.loop-cursor.cursor (next_block_slot m c.in-Some.block) c.in-Some.is c.loop-cursor.invariant.0 refl (block_node m) (nodes_in c.loop-cursor.nodes) (nodes_in c.args.nodes.now) c.loop-cursor.invariant.1 768 fits in
    omega (arith, room)

pub loop-cursor-smaller : goal.loop-cursor-smaller
loop-cursor-smaller c =
    let m = view c.args.tables.now in
    linked_less m.blocks_of m.place_of c.requires.sound.blocks c.args.region c.in-Some.block c.loop-cursor.cursor c.get_next-cursor.result c.in-Some.is c.loop-cursor.invariant.0 c.get_next-cursor.ensures

pub loop-cursor-preserved : goal.loop-cursor-preserved
loop-cursor-preserved c =
    let m = view c.args.tables.now in
    let out : nodes_in c.push.new.self ≡ nodes_in c.loop-cursor.nodes ++ (node.BasicBlock (block_id m c.in-Some.block) ∷ []) =
    c.push.ensures ∙ ap (λ (i : BlockId). nodes_in c.loop-cursor.nodes ++ (node.BasicBlock i ∷ [])) c.block_id.ensures in
    linked_on m.blocks_of m.place_of c.requires.sound.blocks c.args.region c.in-Some.block c.loop-cursor.cursor c.get_next-cursor.result c.in-Some.is c.loop-cursor.invariant.0 c.get_next-cursor.ensures (block_node m) (nodes_in c.loop-cursor.nodes) (nodes_in c.args.nodes.now) c.loop-cursor.invariant.1 (nodes_in c.push.new.self) out

pub push-requires-2 : goal.push-requires-2
push-requires-2 c =
    let m = view c.args.tables.now in
    let whole = flat_map (block_node m) (m.blocks_of c.args.region) in
    let all : length (nodes_in c.args.nodes.now) + length (whole ++ node.Region (region_id m c.args.region) ∷ []) ≤ 768 = omega (arith, c.requires.room, ap length (edge_is m c.args.region)) in
    let end = linked_end (block_node m) (nodes_in c.loop-cursor.nodes) (nodes_in c.args.nodes.now) (m.blocks_of c.args.region) c.loop-cursor.cursor c.in_default.is c.loop-cursor.invariant.1 in
    let room = second_room (nodes_in c.args.nodes.now) whole (node.Region (region_id m c.args.region) ∷ []) (nodes_in c.loop-cursor.nodes) 768 end all in
    omega (arith, room)

pub returns : goal.returns
returns c =
    let m = view c.args.tables.now in
    let r = c.args.region in
    let end = linked_end (block_node m) (nodes_in c.loop-cursor.nodes) (nodes_in c.args.nodes.now) (m.blocks_of r) c.loop-cursor.cursor c.in_default.is c.loop-cursor.invariant.1 in
    let last : nodes_in c.push-2.new.self ≡ nodes_in c.loop-cursor.nodes ++ (node.Region (region_id m r) ∷ []) =
    c.push-2.ensures ∙ ap (λ (i : RegionId). nodes_in c.loop-cursor.nodes ++ (node.Region i ∷ [])) c.region_id.ensures in
    behind (node.Region (region_id m r)) (nodes_in c.args.nodes.now) (flat_map (block_node m) (m.blocks_of r)) (nodes_in c.loop-cursor.nodes) (nodes_in c.push-2.new.self) end last
    ∙ ap (λ ns. nodes_in c.args.nodes.now ++ ns) (sym (edge_is m r))
