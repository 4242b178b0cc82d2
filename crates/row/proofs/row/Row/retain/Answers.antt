use Rattle.std.proofs.Common.{◌≡◌, get_or, ◌<◌, ◌≤◌, length, refl, sym, ap, ◌∙◌, subst, arith, length-take-le}
use Rattle.std.specs.Fn.{FnReturnsAt}
use Rattle.row.proofs.Rows.{retain_on, retain_off, retain_all}
use Rattle.row.proofs.row.Row.retain.Goals.{then-f, else-f}
use Rattle.row.proofs.row.Row.retain.Goals as goal

pub loop-i-preserved : goal.loop-i-preserved
loop-i-preserved g c =
    let r = c.args.self.now in
    let at = c.loop-i in
    let R = FnReturnsAt g.F.Fn c.args.f in
    let x = get_or at.self.items at.i c.index-self-i.result in
    let is : x ≡ get_or at.self.items at.i x = ap (get_or at.self.items at.i) c.index-self-i.is in
    let said : R x c.f.result = record { shown = _; shows = refl; says = record { met = c.f.ensures } } in
    let l : at.i < at.self.len = omega (arith, at.invariant.1) in
    let room : at.self.len ≤ length r.items = omega (arith, at.self.within, r.sized) in
    let same = at.self.sized ∙ sym r.sized in
    elim c.if-f.branch [
      | then-f w ↦ rw (w.self-is, w.kept-is) (
        omega arith,
        at.invariant.1,
        retain_on R r.items at.self.len at.self.items at.kept at.i x l room same is at.invariant.2 at.invariant.0 (subst (R x) w.if-f.true said),
      )
      | else-f w ↦ rw (w.self-is, w.kept-is) (
        omega arith,
        at.invariant.1,
        retain_off R r.items at.self.len at.self.items at.kept at.i x l room same is at.invariant.2 (subst (R x) w.if-f.false said),
      )
    ]

pub returns : goal.returns
returns g c =
    let r = c.args.self.now in
    let at = c.loop-i in
    let h = retain_all (FnReturnsAt g.F.Fn c.args.f) r.items r.len at.self.items at.kept at.i (omega (arith, length-take-le r.len r.items (omega (arith, r.sized, r.within)), c.loop-i-test.false)) in
    h (rw (sym at.invariant.1) at.invariant.2)
