use Rattle.std.proofs.Common.{◌≡◌, ◌+◌, ◌≤◌, length, drop}
use Rattle.row.specs.Items.{row_items}
use Rattle.rules.specs.Histories.{add_types}
use Rattle.histories.proofs.joining.add_types.Given as goal

abbrev pub invariant-loop-ty : goal.invariant-loop-ty
invariant-loop-ty l = (add_types (row_items l.all) (drop l.ty-index l.more) ≡ add_types (row_items l.initial.all) l.more) × (length (row_items l.all) ≤ length (row_items l.initial.all) + l.ty-index)
