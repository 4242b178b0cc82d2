use Rattle.std.proofs.Common.{◌≡◌, ◌+◌, ◌<◌, ◌∷◌, length, take, sym, ap, ◌∙◌, arith}
use Rattle.queue.specs.Contents.{turned}
use Rattle.queue.proofs.Turns.{push, round}
use Rattle.queue.proofs.queue.Queue.push_front.Goals as goal
use Rattle.queue.proofs.queue.Queue.push_front.Goals.{then-self-eq0, else-self-eq0}

pub returns-clause-items : goal.returns-clause-items
returns-clause-items g c =
    let xs = c.args.memory.now in
    let f = c.args.self.now.front in
    let b = c.if-self-eq0.front in
    let n = c.args.self.now.count in
    let lt : n < length xs = omega arith in
    let in-range : b < length xs = elim c.if-self-eq0.branch [ then-self-eq0 w ↦ omega (arith, w.front-is) | else-self-eq0 w ↦ omega (arith, w.front-is) ] in
    let came-round : turned (b + 1) xs ≡ turned f xs =
    elim c.if-self-eq0.branch [
      | then-self-eq0 w ↦ (let last : b + 1 ≡ length xs = omega (arith, w.front-is) in let first : f ≡ 0 = omega arith in ap (λ k. turned k xs) last ∙ round xs ∙ ap (λ k. turned k xs) (sym first))
      | else-self-eq0 w ↦ (let same : b + 1 ≡ f = omega (arith, w.front-is) in ap (λ k. turned k xs) same)
    ]
    in
    push b n xs c.args.x in-range lt ∙ ap (λ ys. c.args.x ∷ take n ys) came-round
