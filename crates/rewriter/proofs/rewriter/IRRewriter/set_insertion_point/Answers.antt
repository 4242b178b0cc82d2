use Rattle.std.proofs.Common.{refl}
use Rattle.calls.specs.World.{set_point, done}
use Rattle.calls.proofs.Outcomes.{performed_done}
use Rattle.rewriter.proofs.Ways.{none_picked, kept_none}
use Rattle.rewriter.proofs.rewriter.IRRewriter.set_insertion_point.Goals as goal

pub returns-clause-call : goal.returns-clause-call
returns-clause-call g c s = performed_done _ _ (set_point c.args.point) refl none_picked (g.met.L.RewriteListener.within c.args.self.now.listener) tt _ refl refl (kept_none _ _) done refl
