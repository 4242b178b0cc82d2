-- Which of a line of operations are new to the worklist.
use Rattle.std.specs.Prelude.{ℕ, ◌+◌, Bool, false, cond, ◌||◌, List, [], ◌∷◌}
use Rattle.model.specs.declared.ids.OpId.{OpId}
use Rattle.law.specs.Machine.{Mark, queued, is_unmarked}
use Rattle.rules.specs.Setting.{same_op}

abbrev pub among : List OpId → OpId → Bool
among [] o = false
among (p ∷ ps) o = same_op p o || among ps o

-- the mark of one is queued now
abbrev pub marked : (OpId → Mark) → OpId → OpId → Mark
marked st o p = cond (same_op o p) queued (st p)

-- how many are unmarked, as one after another is queued
abbrev pub fresh_ops : (OpId → Mark) → List OpId → ℕ
fresh_ops st [] = 0
fresh_ops st (o ∷ os) = cond (is_unmarked (st o)) 1 0 + fresh_ops (marked st o) os
