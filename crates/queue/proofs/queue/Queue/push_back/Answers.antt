use Rattle.std.proofs.Common.{◌≡◌, ◌<◌, ◌≤◌, length, set, ap, ◌∙◌, arith}
use Rattle.queue.specs.Contents.{turned}
use Rattle.queue.proofs.Turns.{set_high, set_low, put, length_turned}
use Rattle.queue.proofs.queue.Queue.push_back.Goals as goal
use Rattle.queue.proofs.queue.Queue.push_back.Goals.{then-self-room, else-self-room}

pub returns-clause-items : goal.returns-clause-items
returns-clause-items g c =
    let xs = c.args.memory.now in
    let f = c.args.self.now.front in
    let n = c.args.self.now.count in
    let x = c.args.x in
    let le : f ≤ length xs = omega arith in
    let lt : n < length xs = omega arith in
    let placed : turned f (set xs c.if-self-room.back x) ≡ set (turned f xs) n x =
    elim c.if-self-room.branch [
      | then-self-room w ↦ ap (λ i. turned f (set xs i x)) w.back-is ∙ set_high f n xs x le (omega arith)
      | else-self-room w ↦ ap (λ i. turned f (set xs i x)) w.back-is ∙ set_low f n xs x le (omega arith) lt
    ]
    in
    put n xs _ (turned f xs) x (omega (arith, length_turned f xs le)) placed
