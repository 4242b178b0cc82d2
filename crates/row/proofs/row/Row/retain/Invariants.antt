use Rattle.std.proofs.Common.{◌≡◌, ◌≤◌}
use Rattle.std.specs.Fn.{FnReturnsAt}
use Rattle.row.proofs.Rows.{Retaining}
use Rattle.row.proofs.row.Row.retain.Given as goal

abbrev pub invariant-loop-i : goal.invariant-loop-i
invariant-loop-i g l = (l.kept ≤ l.i) × (l.self.len ≡ l.initial.self.len) × Retaining (FnReturnsAt g.F.Fn l.f) l.initial.self.items l.self.len l.self.items l.kept l.i
