-- When values take the place of others, one after the other, each operand goes through all of them.
use Rattle.std.proofs.Common.{◌≡◌, ℕ, zero, suc, ◌+◌, ◌<◌, ◌≤◌, List, [], ◌∷◌, ◌++◌, map, length, get_or, drop, sym, refl, ap, ◌∙◌, arith}
use Rattle.std.proofs.lemmas.List.{length-map, drop_more, drop_all}
use Rattle.slots.specs.Cells.{Cell}
use Rattle.slots.specs.Cells.{Free, Live, Spent}
use Rattle.slots.specs.Cells.{cell_at, holds, viewed}
use Rattle.slots.proofs.CellLaws.{cell_at_viewed}
use Rattle.model.specs.declared.ids.OpId.{OpId}
use Rattle.model.specs.declared.ids.Value.{Value}
use Rattle.model.specs.declared.ids.DefiningEntity.TheVariants as definer
use Rattle.model.specs.Model.{Model, Operation}
use Rattle.model.specs.Calls.{replaced, reused, replace_all, results_from, chained, replace_each}
use Rattle.model.specs.Erasing.{operands_of}

pub chained_none : (ws us : List Value) → map (chained [] ws) us ≡ us
chained_none ws [] = refl
chained_none ws (u ∷ us) = ap (λ l. u ∷ l) (chained_none ws us)

chained_few : (v : Value) (vs us : List Value) → map (chained (v ∷ vs) []) us ≡ us
chained_few v vs [] = refl
chained_few v vs (u ∷ us) = ap (λ l. u ∷ l) (chained_few v vs us)

chained_more : (v w : Value) (vs ws us : List Value) → map (chained vs ws) (map (replaced v w) us) ≡ map (chained (v ∷ vs) (w ∷ ws)) us
chained_more v w vs ws [] = refl
chained_more v w vs ws (u ∷ us) = ap (λ l. chained vs ws (replaced v w u) ∷ l) (chained_more v w vs ws us)

reused_operands : (v w : Value) (c : Cell Operation) → operands_of (holds (viewed (reused v w) c)) ≡ map (replaced v w) (operands_of (holds c))
reused_operands v w (Free g) = refl
reused_operands v w (Live g x) = refl
reused_operands v w Spent = refl

-- the operands of the operation at s, when the values ws have taken the place of vs
pub each_operands : (m : Model) (vs ws : List Value) (s : ℕ) → operands_of (holds (cell_at (replace_each m vs ws).ops s)) ≡ map (chained vs ws) (operands_of (holds (cell_at m.ops s)))
each_operands m [] ws s = sym (chained_none ws (operands_of (holds (cell_at m.ops s))))
each_operands m (v ∷ vs) [] s = sym (chained_few v vs (operands_of (holds (cell_at m.ops s))))
each_operands m (v ∷ vs) (w ∷ ws) s =
    each_operands (replace_all m v w) vs ws s
    ∙ ap (map (chained vs ws)) (ap (λ c. operands_of (holds c)) (cell_at_viewed (reused v w) m.ops s) ∙ reused_operands v w (cell_at m.ops s))
    ∙ chained_more v w vs ws (operands_of (holds (cell_at m.ops s)))

pub each_length : (m : Model) (vs ws : List Value) → length (replace_each m vs ws).ops ≡ length m.ops
each_length m [] ws = refl
each_length m (v ∷ vs) [] = refl
each_length m (v ∷ vs) (w ∷ ws) = each_length (replace_all m v w) vs ws ∙ length-map m.ops (viewed (reused v w))

-- as many results as asked for
pub results_length : (o : OpId) (i n : ℕ) → length (results_from o i n) ≡ n
results_length o i zero = refl
results_length o i (suc n) = ap suc (results_length o (suc i) n)

-- and one more
abbrev pub result : OpId → ℕ → Value
result o i = record { definer = definer.Op o; index = i }

results_suc : (o : OpId) (i n : ℕ) → results_from o i n ++ result o (i + n) ∷ [] ≡ results_from o i (suc n)
results_suc o i zero = ap (λ k. result o k ∷ []) (omega arith)
results_suc o i (suc n) =
    let next : i + suc n ≡ suc i + n = omega arith in
    ap (λ l. result o i ∷ l) (ap (λ k. results_from o (suc i) n ++ result o k ∷ []) next ∙ results_suc o (suc i) n)

pub results_more : (o : OpId) (n : ℕ) → results_from o 0 n ++ result o n ∷ [] ≡ results_from o 0 (n + 1)
results_more o n =
    let at : n ≡ 0 + n = omega arith in
    let more : suc n ≡ n + 1 = omega arith in
    ap (λ k. results_from o 0 n ++ result o k ∷ []) at ∙ results_suc o 0 n ∙ ap (results_from o 0) more
