use borrow.Author.Tests.{ltb-true}
use Rattle.std.proofs.Common.{◌≡◌, ◌+◌, ◌-◌, ◌<◌, ◌∷◌, length, get_or, take, sym, ap, ◌∙◌, arith}
use Rattle.std.specs.List.{slice_get}
use Rattle.queue.specs.Contents.{turned}
use Rattle.queue.proofs.Turns.{pop, round}
use Rattle.queue.proofs.queue.Queue.pop_front.Goals as goal
use Rattle.queue.proofs.queue.Queue.pop_front.Goals.{then-self-memory, else-self-memory}

pub returns-clause-items : goal.returns-clause-items
returns-clause-items g c =
    let xs = c.args.memory.now in
    let f = c.args.self.now.front in
    let n = c.args.self.now.count in
    let x = c.in_ok-x.x in
    let some : 0 < n = ltb-true 0 n (sym c.in_ok-x.ensures.test) in
    let in-range : f < length xs = omega arith in
    let taken = pop f n xs x in-range some (omega arith) in
    let same : get_or xs f x ≡ x = (let e = c.in_ok-x.ensures.value ∙ ap (λ ys. slice_get ys 0) taken in cc) in
    let came-round : turned (f + 1) xs ≡ turned c.if-self-memory.self xs =
    elim c.if-self-memory.branch [
      | then-self-memory w ↦ (let last : f + 1 ≡ length xs = omega arith in ap (λ k. turned k xs) last ∙ round xs ∙ ap (λ k. turned k xs) (sym w.self-is))
      | else-self-memory w ↦ ap (λ k. turned k xs) (sym w.self-is)
    ]
    in
    taken ∙ ap (λ y. y ∷ take (n - 1) (turned (f + 1) xs)) same ∙ ap (λ ys. x ∷ take (n - 1) ys) came-round
