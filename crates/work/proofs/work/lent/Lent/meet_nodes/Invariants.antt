use Rattle.std.proofs.Common.{drop}
use Rattle.rules_next.specs.Driver.{meet_nodes}
use Rattle.work.specs.Setting.{env_of}
use Rattle.work.specs.Lent.{Same}
use Rattle.work.proofs.Turning.{Turning}
use Rattle.work.proofs.work.lent.Lent.meet_nodes.Given as goal

abbrev pub invariant-loop-node : goal.invariant-loop-node
invariant-loop-node g l =
    let M = g.C.DialectConversion.meaning in
    let e = env_of l.setting in
    Same l.initial.self l.self
    × Turning {M = M} (λ room s. meet_nodes M e room l.setting.hand s l.nodes) e l.setting.hand l.initial.self.work.now l.initial.self.entries.now l.initial.self.blocks.now l.initial.self.queued.now l.self.work.now l.self.entries.now l.self.blocks.now l.self.queued.now l.node-index (drop l.node-index l.nodes)
