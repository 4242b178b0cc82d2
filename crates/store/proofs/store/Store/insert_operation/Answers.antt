use Rattle.std.proofs.Common.{sym, refl, subst}
use Rattle.std.proofs.lemmas.Result.{err_from_is_err_and}
use Rattle.model.specs.Later.{Later}
use Rattle.model.specs.Points.{block_at}
use Rattle.model.proofs.Refusals.{passes, fails}
use Rattle.model.proofs.Laters.{insert_later, later_refl}
use Rattle.tables.specs.View.{view}
use Rattle.store.proofs.store.Store.insert_operation.Goals as goal

pub link_operation-requires : goal.link_operation-requires
link_operation-requires c = passes _ c.in_ok-check_insert.ensures

pub returns-in_err-check_insert : goal.returns-in_err-check_insert
returns-in_err-check_insert c =
    let p = err_from_is_err_and c.from_residual.result c.from_residual.ensures.1 in
    record { answer = rw (p.1, p.2) (fails _ _ c.in_err-check_insert.ensures, refl); later = later_refl _ }

pub returns : goal.returns
returns c =
    let m = view c.args.self.now.tables in
    record {
      answer = (passes _ c.in_ok-check_insert.ensures, c.link_operation.ensures);
      later = subst (Later m) (sym c.link_operation.ensures) (insert_later m (block_at m c.args.point) c.args.point c.args.op.slot);
    }
