use Rattle.std.proofs.Common.{eqb, rules, tests}
use Rattle.row.proofs.Rows.{retained_filter}
use Rattle.model.specs.Erasing.{disowned}
use Rattle.tables.specs.View.{view_op}
use Rattle.tables.proofs.ChangeLaws.{changed_by}
use Rattle.erasing.proofs.erase.disown.Goals as goal

pub returns : goal.returns
returns c = changed_by view_op (disowned (λ k. eqb k c.args.slot)) _ (λ x y q. search (rules, tests, retained_filter)) c.args.operations.now c.change.new.self c.args.owner c.change.ensures
