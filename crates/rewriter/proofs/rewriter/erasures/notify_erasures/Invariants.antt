use Rattle.std.proofs.Common.{◌≡◌, ◌++◌, map, take}
use Rattle.calls.specs.World.{kept}
use Rattle.calls.specs.Perform.{erasing}
use Rattle.rewriter.proofs.rewriter.erasures.notify_erasures.Given as goal

abbrev pub invariant-loop-node : goal.invariant-loop-node
invariant-loop-node g l = g.L.RewriteListener.log l.listener ≡ g.L.RewriteListener.log l.initial.listener ++ kept g.L.RewriteListener.keeps (map erasing (take l.node-index l.nodes))
