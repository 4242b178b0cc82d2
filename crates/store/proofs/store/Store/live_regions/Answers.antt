use Rattle.std.proofs.Common.{arith}
use Rattle.slots.proofs.CellLaws.{lives_few}
use Rattle.tables.specs.View.{view}
use Rattle.store.proofs.GoodLaws.{regions_sized}
use Rattle.store.proofs.store.Store.live_regions.Goals as goal

pub returns : goal.returns
returns c =
    let t = c.args.self.now.tables in
    let e = c.live_count.ensures in
    record { answer = e; few = omega (arith, e, lives_few (view t).regions, regions_sized t c.args.self.now.good) }
