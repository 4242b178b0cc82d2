use Rattle.std.proofs.Common.{◌≡◌}
use Rattle.row.specs.Items.{row_items}
use Rattle.model.specs.Calls.{results_from}
use Rattle.store.proofs.store.reading.first_results.Given as goal

abbrev pub invariant-loop-index : goal.invariant-loop-index
invariant-loop-index l = row_items l.values ≡ results_from l.op 0 l.index
