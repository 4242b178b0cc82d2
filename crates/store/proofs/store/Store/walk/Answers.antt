use Rattle.std.proofs.Common.{◌++◌, length, is_some, sym, refl, ap, ◌∙◌, arith}
use Rattle.slots.proofs.CellLaws.{some_mapped}
use Rattle.model.specs.Walk.{walk}
use Rattle.model.proofs.Meeting.{walked}
use Rattle.tables.specs.View.{view}
use Rattle.store.proofs.GoodLaws.{sound_of, ops_sized, blocks_sized}
use Rattle.store.proofs.store.Store.walk.Goals as goal

pub walk_op-requires : goal.walk_op-requires
walk_op-requires c =
    let t = c.args.self.now.tables in
    let g = c.args.self.now.good in
    let w = walked (view t) (sound_of t g) (ops_sized t g) (blocks_sized t g) c.args.op (sym (ap is_some c.operation.ensures) ∙ some_mapped _ c.operation.result ∙ c.if-is_none.ensures) (walk (view t) c.args.op.slot) refl in
    record { sound = sound_of t g; room = omega (arith, w.few, ap length c.clear.ensures) }

pub returns : goal.returns
returns c =
    let t = c.args.self.now.tables in
    let g = c.args.self.now.good in
    walked (view t) (sound_of t g) (ops_sized t g) (blocks_sized t g) c.args.op (sym (ap is_some c.operation.ensures) ∙ some_mapped _ c.operation.result ∙ c.if-is_none.ensures) _ (c.walk_op.ensures ∙ ap (λ ns. ns ++ walk (view t) c.args.op.slot) c.clear.ensures)
