use Rattle.std.proofs.Common.{arith}
use Rattle.std.proofs.lemmas.Bool.Decides.{nat_tests}
use Rattle.slots.specs.Cells.{cells}
use Rattle.slots.proofs.CellLaws.{frees_viewed}
use Rattle.tables.specs.View.{view_op}
use Rattle.tables.proofs.tables.Tables.check_make.Goals as goal

pub returns-then-free_count-eq0 : goal.returns-then-free_count-eq0
returns-then-free_count-eq0 c = let f = frees_viewed view_op (cells c.args.self.now.operations) in grind (arith, nat_tests)

pub returns-then-operands-gt-MAX_OPERANDS : goal.returns-then-operands-gt-MAX_OPERANDS
returns-then-operands-gt-MAX_OPERANDS c = let f = frees_viewed view_op (cells c.args.self.now.operations) in grind (arith, nat_tests)

pub returns-then-not-are_values : goal.returns-then-not-are_values
returns-then-not-are_values c = let f = frees_viewed view_op (cells c.args.self.now.operations) in grind (arith, nat_tests)

pub returns : goal.returns
returns c = let f = frees_viewed view_op (cells c.args.self.now.operations) in grind (arith, nat_tests)
