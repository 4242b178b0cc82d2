-- How many elements a queue holds.
use Rattle.std.proofs.Common.{◌≡◌, List, [], length, take, ap, arith, length-take-le}
use Rattle.queue.specs.declared.queue.Queue.{Queue}
use Rattle.queue.specs.Contents.{turned, contents, Within}
use Rattle.queue.proofs.Turns.{length_turned}

module _ {X : Type 0} (q : Queue) (xs : List X) where
  pub length_contents : Within q xs → length (contents q xs) ≡ q.count
  length_contents w = length-take-le q.count (turned q.front xs) (omega (arith, length_turned q.front xs (omega (arith, w.0)), w.1))

  -- a queue of no elements holds nothing, whatever its memory
  pub contents_none : q.count ≡ 0 → contents q xs ≡ []
  contents_none e = ap (λ n. take n (turned q.front xs)) e

  -- and lies within any memory
  pub within_none : q.front ≡ 0 → q.count ≡ 0 → Within q xs
  within_none e h = (omega (arith, e), omega (arith, h))
