use Rattle.std.proofs.Common.{◌≡◌, sym, ◌∙◌, arith}
use Rattle.slots.specs.Cells.{cells, live_count}
use Rattle.slots.proofs.CellLaws.{lives_few, lives_viewed}
use Rattle.tables.specs.View.{view, view_block}
use Rattle.store.proofs.GoodLaws.{blocks_sized}
use Rattle.store.proofs.store.Store.live_blocks.Goals as goal

pub returns : goal.returns
returns c =
    let t = c.args.self.now.tables in
    let e : c.live_count.result ≡ live_count (view t).blocks = c.live_count.ensures ∙ sym (lives_viewed view_block (cells t.blocks)) in
    record { answer = e; few = omega (arith, e, lives_few (view t).blocks, blocks_sized t c.args.self.now.good) }
