use Rattle.std.proofs.Common.{rules}
use Rattle.model.specs.Calls.{retyped, reargued}
use Rattle.tables.specs.View.{view_op, view_block, Changed}
use Rattle.tables.proofs.ChangeLaws.{changed_by}
use Rattle.tables.proofs.tables.Tables.set_value_type.Goals as goal

pub returns-in-Op-clause-after : goal.returns-in-Op-clause-after
returns-in-Op-clause-after c =
    let t = c.args.self.now in
    let h : Changed view_op (retyped c.args.value.index c.args.to) c.in-Op.op.slot t.operations c.change.new.self = changed_by view_op (retyped c.args.value.index c.args.to) _ (λ x y q. search rules) t.operations _ _ c.change.ensures in
    search rules

pub returns-in-Block-clause-after : goal.returns-in-Block-clause-after
returns-in-Block-clause-after c =
    let t = c.args.self.now in
    let h : Changed view_block (reargued c.args.value.index c.args.to) c.in-Block.block.slot t.blocks c.change-in-Block.new.self = changed_by view_block (reargued c.args.value.index c.args.to) _ (λ x y q. search rules) t.blocks _ _ c.change-in-Block.ensures in
    search rules
