use Rattle.std.proofs.Common.{◌≡◌, suc, ◌+◌, ◌-◌, length, sym, ap, ◌∙◌, arith}
use Rattle.std.proofs.lemmas.List.{length-map}
use Rattle.slots.specs.Cells.{viewed, cells}
use Rattle.model.specs.Model.{inside_by}
use Rattle.model.proofs.Climbs.{inside_none, inside_here, inside_top, inside_on}
use Rattle.tables.specs.View.{view, view_op}
use Rattle.tables.proofs.tables.Tables.lies_inside.Goals as goal

pub loop-init : goal.loop-init
loop-init c =
    let cs = cells c.args.self.now.operations in
    let e : length cs - 0 ≡ length cs = omega arith in
    ap (λ n. inside_by n (view c.args.self.now) c.args.op c.args.block) (e ∙ sym (length-map cs (viewed view_op)))

pub returns-in_default : goal.returns-in_default
returns-in_default c =
    let n = length (cells c.args.self.now.operations) in
    let i = c.loop.counter in
    let e : n - i ≡ suc (n - (i + 1)) = omega arith in
    sym (inside_none (view c.args.self.now) c.args.op c.loop.at (n - i) (n - (i + 1)) e (sym c.in_default.ensures)) ∙ c.loop.invariant

pub returns-then-owner-op : goal.returns-then-owner-op
returns-then-owner-op c =
    let n = length (cells c.args.self.now.operations) in
    let i = c.loop.counter in
    let e : n - i ≡ suc (n - (i + 1)) = omega arith in
    sym (inside_here (view c.args.self.now) c.args.op c.loop.at (n - i) (n - (i + 1)) e c.in-Some.owner (sym c.in-Some.ensures) c.if-owner-op.true) ∙ c.loop.invariant

pub returns-in_default-get_container : goal.returns-in_default-get_container
returns-in_default-get_container c =
    let n = length (cells c.args.self.now.operations) in
    let i = c.loop.counter in
    let e : n - i ≡ suc (n - (i + 1)) = omega arith in
    sym (inside_top (view c.args.self.now) c.args.op c.loop.at (n - i) (n - (i + 1)) e c.in-Some.owner (sym c.in-Some.ensures) c.if-owner-op.false (sym c.in_default-get_container.ensures)) ∙ c.loop.invariant

pub loop-preserved : goal.loop-preserved
loop-preserved c =
    let n = length (cells c.args.self.now.operations) in
    let i = c.loop.counter in
    let e : n - i ≡ suc (n - (i + 1)) = omega arith in
    sym (inside_on (view c.args.self.now) c.args.op c.loop.at (n - i) (n - (i + 1)) e c.in-Some.owner c.in-Some-get_container.home (sym c.in-Some.ensures) c.if-owner-op.false (sym c.in-Some-get_container.ensures)) ∙ c.loop.invariant

pub returns : goal.returns
returns c =
    let n = length (cells c.args.self.now.operations) in
    let e : n - c.loop.counter ≡ 0 = omega arith in
    sym (ap (λ k. inside_by k (view c.args.self.now) c.args.op c.loop.at) e) ∙ c.loop.invariant
