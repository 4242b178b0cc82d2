use Rattle.std.proofs.Common.{◌≡◌, sym, ◌∙◌, arith}
use Rattle.slots.specs.Cells.{cells, live_count}
use Rattle.slots.proofs.CellLaws.{lives_few, lives_viewed}
use Rattle.tables.specs.View.{view, view_op}
use Rattle.store.proofs.GoodLaws.{ops_sized}
use Rattle.store.proofs.store.Store.live_operations.Goals as goal

pub returns : goal.returns
returns c =
    let t = c.args.self.now.tables in
    let e : c.live_count.result ≡ live_count (view t).ops = c.live_count.ensures ∙ sym (lives_viewed view_op (cells t.operations)) in
    record { answer = e; few = omega (arith, e, lives_few (view t).ops, ops_sized t c.args.self.now.good) }
