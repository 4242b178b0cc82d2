use Rattle.std.proofs.Common.{get_or, sym, refl, ap, ◌∙◌}
use Rattle.model.specs.declared.ids.IRNode.TheVariants as node
use Rattle.model.specs.Erasing.{erase_node}
use Rattle.model.proofs.EraseSteps.{erased_none, erase_more, erase_all}
use Rattle.tables.specs.View.{view}
use Rattle.erasing.proofs.erase.erase_nodes.Goals as goal

pub loop-node-init : goal.loop-node-init
loop-node-init c = (sym (erased_none (view c.args.tables.now)), refl)

pub loop-node-preserved : goal.loop-node-preserved
loop-node-preserved c =
    let m = view c.args.tables.now in
    let ns = c.args.nodes.now in
    let i = c.loop-node.node-index in
    let d = node.Operation (record { slot = 0; generation = 0 }) in (
      c.erase_node.ensures.after ∙ ap (λ z. erase_node z (get_or ns i d)) c.loop-node.invariant.0 ∙ sym (erase_more m ns i d c.requires c.loop-node-test.true),
      c.erase_node.ensures.sizes ∙ c.loop-node.invariant.1,
    )

pub returns : goal.returns
returns c = record {
  after = c.loop-node.invariant.0 ∙ erase_all (view c.args.tables.now) c.args.nodes.now c.loop-node.node-index c.loop-node-test.false;
  sizes = c.loop-node.invariant.1;
}
