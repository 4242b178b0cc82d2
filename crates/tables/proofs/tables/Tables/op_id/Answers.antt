use Rattle.std.proofs.Common.{sym, ap, ◌∙◌}
use Rattle.std.specs.Option.{unwrap_or}
use Rattle.slots.specs.Cells.{cells, cell_at}
use Rattle.slots.proofs.CellLaws.{live_of_under, live_of_viewed}
use Rattle.tables.specs.View.{view_op}
use Rattle.tables.proofs.tables.Tables.op_id.Goals as goal

pub returns : goal.returns
returns c =
    let cs = cells c.args.self.now.operations in
    ap (λ g. record { slot = c.args.slot; generation = g }) (c.unwrap_or-generation.ensures ∙ ap (λ q. unwrap_or q 0) c.live_generation.ensures ∙ live_of_under (cell_at cs c.args.slot) ∙ sym (live_of_viewed view_op cs c.args.slot))
