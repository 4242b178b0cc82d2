use Rattle.rewriter.proofs.Ways.{made_performed}
use Rattle.rewriter.proofs.rewriter.IRRewriter.make_operation.Goals as goal

pub returns : goal.returns
returns g c = made_performed _ _ _ _ _ _ _ _ (g.met.L.RewriteListener.within c.args.self.now.listener) c.make_operation.result c.make_operation.ensures.answer
