-- What a queue over a memory holds, front first.
use Rattle.std.specs.Prelude.{ℕ, ◌-◌, ◌≤◌, List, ◌++◌, length, take, drop}
use Rattle.queue.specs.declared.queue.Queue.{Queue}

-- the list turned so that the place f comes first
abbrev pub turned : {X : Type 0} → ℕ → List X → List X
turned f xs = drop f xs ++ take f xs

abbrev pub contents : {X : Type 0} → Queue → List X → List X
contents q xs = take q.count (turned q.front xs)

-- the queue lies in a memory of this length
abbrev pub Within : {X : Type 0} → Queue → List X → Type 0
Within q xs = (q.front ≤ length xs - 1) × (q.count ≤ length xs)
