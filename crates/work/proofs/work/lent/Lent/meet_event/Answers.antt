use Rattle.std.proofs.Common.{subst}
use Rattle.rules_next.specs.Driver.{meet_nodes}
use Rattle.work.specs.Setting.{env_of}
use Rattle.work.specs.Work.{Met}
use Rattle.work.proofs.work.lent.Lent.meet_event.Goals as goal

pub returns-in-Some : goal.returns-in-Some
returns-in-Some g c =
    let M = g.C.DialectConversion.meaning in
    let e = env_of c.args.setting.now in
    record {
      same = c.meet_node.ensures.same;
      met = subst (λ ns. Met {M = M} (λ room l. meet_nodes M e room c.args.setting.now.hand l ns) 1 c.args.self.now.work.now c.args.self.now.entries.now c.args.self.now.blocks.now c.args.self.now.queued.now c.meet_node.new.self.work.now c.meet_node.new.self.entries.now c.meet_node.new.self.blocks.now c.meet_node.new.self.queued.now c.meet_node.result)
          c.in-Some.ensures c.meet_node.ensures.met;
    }
