use Rattle.std.proofs.Common.{◌++◌}
use Rattle.std.specs.Iterator.Adapters.{zip_first, zip_second}
use Rattle.std.specs.Slice.Iter.{iter_rest}
use Rattle.model.specs.Calls.{replace_each}
use Rattle.store.specs.Meaning.{meaning}
use Rattle.calls.specs.World.{kept}
use Rattle.calls.specs.Perform.{replacing}
use Rattle.rewriter.proofs.Exchanges.{Ahead}
use Rattle.rewriter.proofs.rewriter.replacing.replace_each.Given as goal

abbrev pub invariant-loop-old : goal.invariant-loop-old
invariant-loop-old g l =
    let m = meaning l.initial.store in
    Ahead g.L.RewriteListener.keeps (meaning l.store) (g.L.RewriteListener.log l.listener) (iter_rest (zip_first l.old-iterator)) (iter_rest (zip_second l.old-iterator))
    (replace_each m l.olds l.news) (g.L.RewriteListener.log l.initial.listener ++ kept g.L.RewriteListener.keeps (replacing m l.olds l.news))
