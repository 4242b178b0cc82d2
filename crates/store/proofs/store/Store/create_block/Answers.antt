use Rattle.std.proofs.Common.{sym, subst}
use Rattle.model.specs.Later.{Later}
use Rattle.model.specs.Points.{region_at}
use Rattle.model.proofs.Laters.{create_later}
use Rattle.tables.specs.View.{view}
use Rattle.store.proofs.store.Store.create_block.Goals as goal

pub returns : goal.returns
returns c =
    let m = view c.args.self.now.tables in
    let h = c.place_block.ensures in
    record { answer = h; later = subst (Later m) (sym h.after) (create_later m (region_at m c.args.point) c.args.point _ _ h.usable) }
