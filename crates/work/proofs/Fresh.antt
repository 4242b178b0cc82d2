-- Marks that one after another of a line becomes queued.
use Rattle.std.proofs.Common.{◌≡◌, ℕ, ◌+◌, ◌<◌, Bool, true, false, cond, not, ◌&&◌, ◌||◌, List, [], ◌∷◌, ◌++◌, length, get_or, take, drop, refl, ap, ◌∙◌, arith}
use Rattle.std.proofs.lemmas.List.{take_more, drop_more}
use Rattle.model.specs.declared.ids.OpId.{OpId}
use Rattle.law.specs.Machine.{Mark, queued, is_unmarked, fresh}
use Rattle.rules_next.specs.Meaning.{Meaning}
use Rattle.rules.specs.Setting.{same_op}
use Rattle.rules_next.specs.Setting.{real}
use Rattle.work.specs.Waiting.{among, marked, fresh_ops}

abbrev pub zero_op : OpId
zero_op = record { slot = 0; generation = 0 }

-- the marks after the operations of a list became queued
abbrev pub marked_all : (OpId → Mark) → List OpId → OpId → Mark
marked_all st [] = st
marked_all st (o ∷ os) = marked_all (marked st o) os

marked_append : (st : OpId → Mark) (os ps : List OpId) → marked_all st (os ++ ps) ≡ marked_all (marked_all st os) ps
marked_append st [] ps = refl
marked_append st (o ∷ os) ps = marked_append (marked st o) os ps

one_mark : (st : OpId → Mark) (o p : OpId) → is_unmarked (marked st o p) ≡ (not (same_op o p) && is_unmarked (st p))
one_mark st o p = at (same_op o p)
  where
    at : (b : Bool) → is_unmarked (cond b queued (st p)) ≡ (not b && is_unmarked (st p))
    at true = refl
    at false = refl

step_bools : (a b u : Bool) → (not b && (not a && u)) ≡ (not (a || b) && u)
step_bools true true u = refl
step_bools true false u = refl
step_bools false true u = refl
step_bools false false u = refl

-- one is unmarked then if it was, and is not in the list
all_marks : (st : OpId → Mark) (os : List OpId) (p : OpId) → is_unmarked (marked_all st os p) ≡ (not (among os p) && is_unmarked (st p))
all_marks st [] p = refl
all_marks st (o ∷ os) p = all_marks (marked st o) os p ∙ ap (λ u. not (among os p) && u) (one_mark st o p) ∙ step_bools (same_op o p) (among os p) (is_unmarked (st p))

-- one more of the line
pub fresh_more : (st : OpId → Mark) (os : List OpId) (i n m : ℕ) → i < length os
    → n + fresh_ops (marked_all st (take i os)) (drop i os) ≡ fresh_ops st os
    → m ≡ n + cond (not (among (take i os) (get_or os i zero_op)) && is_unmarked (st (get_or os i zero_op))) 1 0
    → m + fresh_ops (marked_all st (take (i + 1) os)) (drop (i + 1) os) ≡ fresh_ops st os
fresh_more st os i n m h e d =
    let o = get_or os i zero_op in
    let opened : fresh_ops (marked_all st (take i os)) (drop i os) ≡ cond (not (among (take i os) o) && is_unmarked (st o)) 1 0 + fresh_ops (marked (marked_all st (take i os)) o) (drop (i + 1) os) =
    ap (fresh_ops (marked_all st (take i os))) (drop_more os i zero_op h) ∙ ap (λ b. cond b 1 0 + fresh_ops (marked (marked_all st (take i os)) o) (drop (i + 1) os)) (all_marks st (take i os) o) in
    let marks : marked_all st (take (i + 1) os) ≡ marked (marked_all st (take i os)) o =
    ap (marked_all st) (take_more os i zero_op h) ∙ marked_append st (take i os) (o ∷ []) in
    let same = ap (λ (s : OpId → Mark). fresh_ops s (drop (i + 1) os)) marks in
    omega (arith, opened, same, e, d)

-- the law's count is this one
pub fresh_is : {C : Type 0} (M : Meaning C) (st : OpId → Mark) (os : List OpId) → fresh (real M) st os ≡ fresh_ops st os
fresh_is M st [] = refl
fresh_is M st (o ∷ os) = ap (λ n. cond (is_unmarked (st o)) 1 0 + n) (fresh_is M (marked st o) os)
