use Rattle.std.proofs.Common.{[], ◌∷◌, ◌++◌, map, take, sym, ap, ◌∙◌}
use Rattle.std.proofs.lemmas.List.{take_more, take_all}
use Rattle.calls.specs.World.{kept, fits}
use Rattle.calls.specs.Perform.{erasing}
use Rattle.rewriter.proofs.Erasures.{room_more, told_more}
use Rattle.rewriter.proofs.rewriter.erasures.notify_erasures.Goals as goal

pub notify-requires : goal.notify-requires
notify-requires g c =
    let keeps = g.L.RewriteListener.keeps in
    ap (λ es. fits keeps es 1) c.loop-node.invariant ∙ room_more keeps (g.L.RewriteListener.log c.args.listener.now) c.args.nodes.now c.loop-node.node-index c.loop-node-test.true c.requires

pub loop-node-preserved : goal.loop-node-preserved
loop-node-preserved g c =
    let keeps = g.L.RewriteListener.keeps in
    let es = g.L.RewriteListener.log c.args.listener.now in
    let ns = c.args.nodes.now in
    let i = c.loop-node.node-index in
    c.notify.ensures
    ∙ ap (λ fs. fs ++ kept keeps (c.erased.result ∷ [])) c.loop-node.invariant
    ∙ ap (λ e. (es ++ kept keeps (map erasing (take i ns))) ++ kept keeps (e ∷ [])) c.erased.ensures
    ∙ told_more keeps es (take i ns) _
    ∙ ap (λ ks. es ++ kept keeps (map erasing ks)) (sym (take_more ns i _ c.loop-node-test.true))

pub returns : goal.returns
returns g c =
    c.loop-node.invariant
    ∙ ap (λ ks. g.L.RewriteListener.log c.args.listener.now ++ kept g.L.RewriteListener.keeps (map erasing ks)) (take_all c.loop-node.node-index c.args.nodes.now c.loop-node-test.false)
