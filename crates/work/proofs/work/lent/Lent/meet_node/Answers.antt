use Rattle.work.specs.Setting.{env_of}
use Rattle.work.proofs.Turning.{met_single}
use Rattle.work.proofs.work.lent.Lent.meet_node.Goals as goal

pub returns-in-Operation : goal.returns-in-Operation
returns-in-Operation g c =
    let M = g.C.DialectConversion.meaning in
    let e = env_of c.args.setting.now in
    record { same = c.meet_op.ensures.same; met = met_single M e c.args.setting.now.hand _ _ c.in-Operation.is 1 _ _ _ _ _ _ _ _ c.meet_op.result c.meet_op.ensures.met }
