-- At most one identity of each slot is live, so there are no more live nodes than slots.
use Rattle.std.proofs.Common.{◌≡◌, ℕ, ◌+◌, ◌≤◌, true, List, length, is_some, sym, ap, ◌∙◌, arith}
use Rattle.std.proofs.lemmas.Bool.{eqb-true}
use Rattle.slots.specs.Cells.{Cell}
use Rattle.slots.specs.Cells.{cell_at, found, frees, live_count, live_of}
use Rattle.slots.proofs.CellLaws.{never, lives_few}
use Rattle.model.specs.declared.ids.IRNode.TheVariants as node
use Rattle.model.specs.Model.{Model}
use Rattle.model.specs.Later.{OneEach}
use Rattle.model.proofs.Meeting.{found_under}

pub lives_within : {X : Type 0} (cs : List (Cell X)) → live_count cs ≤ length cs
lives_within cs = omega (arith, lives_few cs)

-- a free slot is one that could become live
pub ops_few : (m : Model) → frees m.ops + live_count m.ops ≤ length m.ops
ops_few m = lives_few m.ops

-- a slot is live under one generation alone
pub same_generation : {X : Type 0} (cs : List (Cell X)) (s t g h : ℕ) → s ≡ t → is_some (found cs s g) ≡ true → is_some (found cs t h) ≡ true → g ≡ h
same_generation cs s t g h e a b = found_under (cell_at cs s) g a ∙ ap (λ z. live_of (cell_at cs z)) e ∙ sym (found_under (cell_at cs t) h b)

pub one_each : (m : Model) → OneEach m
one_each m (node.Operation o) (node.Operation p) a b e =
    let d = eqb-true o.slot p.slot e in
    ap (λ s. node.Operation (record { slot = s; generation = o.generation })) d
    ∙ ap (λ g. node.Operation (record { slot = p.slot; generation = g })) (same_generation m.ops o.slot p.slot o.generation p.generation d a b)
one_each m (node.Operation o) (node.BasicBlock c) a b e = absurd (never e)
one_each m (node.Operation o) (node.Region r) a b e = absurd (never e)
one_each m (node.BasicBlock b) (node.Operation p) a c e = absurd (never e)
one_each m (node.BasicBlock b) (node.BasicBlock c) k l e =
    let d = eqb-true b.slot c.slot e in
    ap (λ s. node.BasicBlock (record { slot = s; generation = b.generation })) d
    ∙ ap (λ g. node.BasicBlock (record { slot = c.slot; generation = g })) (same_generation m.blocks b.slot c.slot b.generation c.generation d k l)
one_each m (node.BasicBlock b) (node.Region r) a c e = absurd (never e)
one_each m (node.Region r) (node.Operation p) a b e = absurd (never e)
one_each m (node.Region r) (node.BasicBlock c) a b e = absurd (never e)
one_each m (node.Region r) (node.Region q) a b e =
    let d = eqb-true r.slot q.slot e in
    ap (λ s. node.Region (record { slot = s; generation = r.generation })) d
    ∙ ap (λ g. node.Region (record { slot = q.slot; generation = g })) (same_generation m.regions r.slot q.slot r.generation q.generation d a b)
