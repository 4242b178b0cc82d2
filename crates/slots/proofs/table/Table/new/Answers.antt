use Rattle.std.proofs.Common.{rules, map, replicate, ap, ◌∙◌, refl}
use Rattle.slots.specs.Cells.{Free, cell_of}
use Rattle.slots.proofs.SlotLaws.{unused}
use Rattle.slots.proofs.table.Table.new.Goals as goal

pub returns : goal.returns
returns g c = ap (map cell_of) (c.in_ok-slots.ensures.items_if_clones_equal (λ y h. search rules)) ∙ unused c.args.n _ refl
