use Rattle.std.proofs.Common.{◌+◌, [], ◌∷◌, length, get_or, drop, Err, sym, refl, ap, ◌∙◌, subst, arith}
use Rattle.std.proofs.lemmas.List.{drop_more, drop_all}
use Rattle.rules_next.specs.Driver.{meet_nodes}
use Rattle.work.specs.Setting.{env_of}
use Rattle.work.specs.Work.{Met}
use Rattle.std.proofs.lemmas.Result.{err_from_is_err_and}
use Rattle.model.specs.declared.ids.IRNode.{IRNode}
use Rattle.model.specs.declared.ids.IRNode.TheVariants as node
use Rattle.work.proofs.Turning.{joined, Turning, starts, again, fails, ends}
use Rattle.work.proofs.work.lent.Lent.meet_nodes.Goals as goal

abbrev zero_node : IRNode
zero_node = node.Operation (record { slot = 0; generation = 0 })

pub loop-node-init : goal.loop-node-init
loop-node-init g c =
    let M = g.C.DialectConversion.meaning in
    let e = env_of c.args.setting.now in
    let ns = c.args.nodes.now in (
      record { work = refl; entries = refl; blocks = refl; queued = refl },
      starts {M = M} (λ room s. meet_nodes M e room c.args.setting.now.hand s ns) e c.args.setting.now.hand c.args.self.now.work.now c.args.self.now.entries.now c.args.self.now.blocks.now c.args.self.now.queued.now ns c.args.self.now.fits (λ room l. refl),
    )

pub meet_node-requires : goal.meet_node-requires
meet_node-requires g c = omega (arith, c.loop-node.invariant.1.few, c.loop-node-test.true, c.requires)

pub returns-in_err-meet_node : goal.returns-in_err-meet_node
returns-in_err-meet_node g c =
    let M = g.C.DialectConversion.meaning in
    let e = env_of c.args.setting.now in
    let ns = c.args.nodes.now in
    let i = c.loop-node.node-index in
    let p = err_from_is_err_and c.from_residual.result c.from_residual.ensures.1 in
    let t = subst (Turning {M = M} (λ room s. meet_nodes M e room c.args.setting.now.hand s ns) e c.args.setting.now.hand c.args.self.now.work.now c.args.self.now.entries.now c.args.self.now.blocks.now c.args.self.now.queued.now c.loop-node.self.work.now c.loop-node.self.entries.now c.loop-node.self.blocks.now c.loop-node.self.queued.now i) (drop_more ns i zero_node c.loop-node-test.true) c.loop-node.invariant.1 in
    let m = subst (λ r. Met {M = M} (λ room l. meet_nodes M e room c.args.setting.now.hand l (get_or ns i zero_node ∷ [])) 1 c.loop-node.self.work.now c.loop-node.self.entries.now c.loop-node.self.blocks.now c.loop-node.self.queued.now c.meet_node.new.self.work.now c.meet_node.new.self.entries.now c.meet_node.new.self.blocks.now c.meet_node.new.self.queued.now r) c.in_err-meet_node.was c.meet_node.ensures.met in
    record {
      same = joined c.loop-node.invariant.0 c.meet_node.ensures.same;
      met = subst (Met {M = M} (λ room s. meet_nodes M e room c.args.setting.now.hand s ns) (length ns) c.args.self.now.work.now c.args.self.now.entries.now c.args.self.now.blocks.now c.args.self.now.queued.now c.meet_node.new.self.work.now c.meet_node.new.self.entries.now c.meet_node.new.self.blocks.now c.meet_node.new.self.queued.now)
          (sym (p.1 ∙ ap Err p.2))
          (fails {M = M} (λ room s. meet_nodes M e room c.args.setting.now.hand s ns) e c.args.setting.now.hand c.args.self.now.work.now c.args.self.now.entries.now c.args.self.now.blocks.now c.args.self.now.queued.now c.loop-node.self.work.now c.meet_node.new.self.work.now c.loop-node.self.entries.now c.meet_node.new.self.entries.now c.loop-node.self.blocks.now c.meet_node.new.self.blocks.now c.loop-node.self.queued.now c.meet_node.new.self.queued.now i (length ns) (get_or ns i zero_node ∷ []) (drop (i + 1) ns) _ t m (omega (arith, c.loop-node-test.true)));
    }

pub loop-node-preserved : goal.loop-node-preserved
loop-node-preserved g c =
    let M = g.C.DialectConversion.meaning in
    let e = env_of c.args.setting.now in
    let ns = c.args.nodes.now in
    let i = c.loop-node.node-index in
    let t = subst (Turning {M = M} (λ room s. meet_nodes M e room c.args.setting.now.hand s ns) e c.args.setting.now.hand c.args.self.now.work.now c.args.self.now.entries.now c.args.self.now.blocks.now c.args.self.now.queued.now c.loop-node.self.work.now c.loop-node.self.entries.now c.loop-node.self.blocks.now c.loop-node.self.queued.now i) (drop_more ns i zero_node c.loop-node-test.true) c.loop-node.invariant.1 in
    let m = subst (λ r. Met {M = M} (λ room l. meet_nodes M e room c.args.setting.now.hand l (get_or ns i zero_node ∷ [])) 1 c.loop-node.self.work.now c.loop-node.self.entries.now c.loop-node.self.blocks.now c.loop-node.self.queued.now c.meet_node.new.self.work.now c.meet_node.new.self.entries.now c.meet_node.new.self.blocks.now c.meet_node.new.self.queued.now r) c.in_ok-meet_node.was c.meet_node.ensures.met in
    (joined c.loop-node.invariant.0 c.meet_node.ensures.same, again {M = M} (λ room s. meet_nodes M e room c.args.setting.now.hand s ns) e c.args.setting.now.hand c.args.self.now.work.now c.args.self.now.entries.now c.args.self.now.blocks.now c.args.self.now.queued.now c.loop-node.self.work.now c.meet_node.new.self.work.now c.loop-node.self.entries.now c.meet_node.new.self.entries.now c.loop-node.self.blocks.now c.meet_node.new.self.blocks.now c.loop-node.self.queued.now c.meet_node.new.self.queued.now i (get_or ns i zero_node ∷ []) (drop (i + 1) ns) t m)

pub returns : goal.returns
returns g c =
    let M = g.C.DialectConversion.meaning in
    let e = env_of c.args.setting.now in
    let ns = c.args.nodes.now in
    record {
      same = c.loop-node.invariant.0;
      met = ends {M = M} (λ room s. meet_nodes M e room c.args.setting.now.hand s ns) e c.args.setting.now.hand c.args.self.now.work.now c.args.self.now.entries.now c.args.self.now.blocks.now c.args.self.now.queued.now c.loop-node.self.work.now c.loop-node.self.entries.now c.loop-node.self.blocks.now c.loop-node.self.queued.now c.loop-node.node-index (length ns) (drop c.loop-node.node-index ns)
          c.loop-node.invariant.1 (drop_all c.loop-node.node-index ns c.loop-node-test.false) (omega (arith, c.loop-node.auto));
    }
