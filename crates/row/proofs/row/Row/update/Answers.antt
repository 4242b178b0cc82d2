use Rattle.std.proofs.Common.{sym, refl}
use Rattle.row.proofs.Rows.{long, updated_more, updated_all}
use Rattle.row.proofs.row.Row.update.Goals as goal

pub loop-item-init : goal.loop-item-init
loop-item-init g c = (tt, refl)

pub loop-item-preserved : goal.loop-item-preserved
loop-item-preserved g c =
    updated_more _ _ c.loop-item.item-items c.loop-item.item-index c.item-item.result c.f.result c.loop-item.auto.item-items c.loop-item-test.true c.f.ensures c.loop-item.invariant

pub returns : goal.returns
returns g c =
    let r = c.args.self.now in
    updated_all _ _ _ r.len c.loop-item.item-index _ (sym (long r)) c.loop-item.auto.item-items c.loop-item-test.false c.loop-item.invariant.0
