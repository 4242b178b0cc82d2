use Rattle.std.proofs.Common.{◌≡◌, [], ◌∷◌, ◌++◌, ap, ◌∙◌, arith}
use Rattle.model.specs.declared.ids.BlockId.{BlockId}
use Rattle.model.specs.declared.ids.IRNode.TheVariants as node
use Rattle.model.specs.Model.{block_id}
use Rattle.model.specs.Erasing.{body_nodes, op_nodes}
use Rattle.tables.specs.View.{view}
use Rattle.walkers.specs.Listed.{nodes_in}
use Rattle.walkers.proofs.Backs.{behind, first_room, second_room}
use Rattle.walkers.proofs.parts.list_block.Goals as goal

pub list_body-requires : goal.list_body-requires
list_body-requires c =
    let m = view c.args.tables.now in
    record {
      sound = c.requires.sound;
      room = first_room (nodes_in c.args.nodes.now) (body_nodes m (op_nodes m) c.args.block) (node.BasicBlock (block_id m c.args.block) ∷ []) 768 c.requires.room;
    }

pub push-requires : goal.push-requires
push-requires c =
    let m = view c.args.tables.now in
    let room = second_room (nodes_in c.args.nodes.now) (body_nodes m (op_nodes m) c.args.block) (node.BasicBlock (block_id m c.args.block) ∷ []) (nodes_in c.list_body.new.nodes) 768 c.list_body.ensures c.requires.room in
    omega (arith, room)

pub returns : goal.returns
returns c =
    let m = view c.args.tables.now in
    let last : nodes_in c.push.new.self ≡ nodes_in c.list_body.new.nodes ++ (node.BasicBlock (block_id m c.args.block) ∷ []) =
    c.push.ensures ∙ ap (λ (i : BlockId). nodes_in c.list_body.new.nodes ++ (node.BasicBlock i ∷ [])) c.block_id.ensures in
    behind (node.BasicBlock (block_id m c.args.block)) (nodes_in c.args.nodes.now) (body_nodes m (op_nodes m) c.args.block) (nodes_in c.list_body.new.nodes) (nodes_in c.push.new.self) c.list_body.ensures last
