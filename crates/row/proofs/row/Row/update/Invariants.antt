use Rattle.std.proofs.Common.{◌≡◌, take, drop}
use Rattle.std.specs.List.{AllZip}
use Rattle.row.proofs.row.Row.update.Given as goal

abbrev pub invariant-loop-item : goal.invariant-loop-item
invariant-loop-item g l = AllZip (λ x y. g.F.Fn.post l.f (x, tt) y) (take l.item-index l.initial.item-items) (take l.item-index l.item-items) × (drop l.item-index l.item-items ≡ drop l.item-index l.initial.item-items)
