use Rattle.std.proofs.Common.{rules, refl, sym, subst}
use Rattle.std.specs.Fn.{FnOnceReturnsAtMut}
use Rattle.slots.specs.Cells.{CellChanged, cell_of, Live}
use Rattle.slots.proofs.table.Slot.change.Goals as goal

pub returns-in-Live : goal.returns-in-Live
returns-in-Live g c =
    subst (λ s. CellChanged (λ x y. FnOnceReturnsAtMut g.F.FnOnce c.args.f x tt y) (cell_of s) (Live c.in-Live.field-0 c.f.new.arg2)) (sym c.in-Live.is)
    (c.f.new.arg2, refl, search rules)
