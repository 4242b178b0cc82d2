use Rattle.std.proofs.Common.{◌<◌, length, Some, sym, ap, ◌∙◌, arith, rules}
use Rattle.std.specs.List.{slice_get}
use Rattle.queue.proofs.Turns.{pop}
use Rattle.queue.proofs.queue.Queue.front.Goals as goal

pub returns-else-self-eq0 : goal.returns-else-self-eq0
returns-else-self-eq0 g c =
    let xs = c.args.memory.now in
    let f = c.args.self.now.front in
    let n = c.args.self.now.count in
    let in-range : f < length xs = omega arith in
    record { test = search rules; value = ap Some c.index-memory-self.is ∙ sym (ap (λ ys. slice_get ys 0) (pop f n xs c.index-memory-self.result in-range (omega arith) (omega arith))) }
