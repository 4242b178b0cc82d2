use Rattle.std.proofs.Common.{drop}
use Rattle.std.specs.List.{flat_map}
use Rattle.rules.specs.Setting.{inserted_by, inserted}
use Rattle.rules_next.specs.Driver.{meet_nodes}
use Rattle.work.specs.Setting.{env_of}
use Rattle.work.specs.Lent.{Same}
use Rattle.work.proofs.Turning.{Turning}
use Rattle.work.proofs.work.lent.Lent.meet_inserted.Given as goal

abbrev pub invariant-loop-event : goal.invariant-loop-event
invariant-loop-event g l =
    let M = g.C.DialectConversion.meaning in
    let e = env_of l.setting in
    Same l.initial.self l.self
    × Turning {M = M} (λ room s. meet_nodes M e room l.setting.hand s (inserted l.events)) e l.setting.hand l.initial.self.work.now l.initial.self.entries.now l.initial.self.blocks.now l.initial.self.queued.now l.self.work.now l.self.entries.now l.self.blocks.now l.self.queued.now l.event-index (flat_map (inserted_by l.events) (drop l.event-index l.events))
