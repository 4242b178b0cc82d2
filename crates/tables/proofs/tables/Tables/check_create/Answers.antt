use Rattle.std.proofs.Common.{arith}
use Rattle.std.proofs.lemmas.Bool.Decides.{nat_tests}
use Rattle.slots.specs.Cells.{cells}
use Rattle.slots.proofs.CellLaws.{frees_viewed}
use Rattle.tables.specs.View.{view_block}
use Rattle.tables.proofs.tables.Tables.check_create.Goals as goal

pub returns-then-free_count-eq0 : goal.returns-then-free_count-eq0
returns-then-free_count-eq0 c = let f = frees_viewed view_block (cells c.args.self.now.blocks) in grind (arith, nat_tests)

pub returns-then-arg_types-gt-MAX_ARGUMENTS : goal.returns-then-arg_types-gt-MAX_ARGUMENTS
returns-then-arg_types-gt-MAX_ARGUMENTS c = let f = frees_viewed view_block (cells c.args.self.now.blocks) in grind (arith, nat_tests)

pub returns-then-not-is_live_block_point : goal.returns-then-not-is_live_block_point
returns-then-not-is_live_block_point c = let f = frees_viewed view_block (cells c.args.self.now.blocks) in grind (arith, nat_tests)

pub returns-then-is_unset : goal.returns-then-is_unset
returns-then-is_unset c = let f = frees_viewed view_block (cells c.args.self.now.blocks) in grind (arith, nat_tests)

pub returns : goal.returns
returns c = let f = frees_viewed view_block (cells c.args.self.now.blocks) in grind (arith, nat_tests)
