use Rattle.std.proofs.Common.{rules}
use Rattle.model.specs.Calls.{reused}
use Rattle.slots.specs.Cells.{cell_of}
use Rattle.tables.specs.View.{view_op}
use Rattle.tables.proofs.ChangeLaws.{cell_changed}
use Rattle.tables.proofs.tables.changes.replace_in.Goals as goal

pub returns : goal.returns
returns c = cell_changed view_op (reused c.args.old c.args.new) _ (λ x y q. search rules) (cell_of c.args.slot.now) _ c.change.ensures
