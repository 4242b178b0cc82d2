use Rattle.std.proofs.Common.{rules, tests, sym, ◌∙◌}
use Rattle.std.proofs.lemmas.Iterator.{YieldsList-from_slice}
use Rattle.std.proofs.lemmas.Iterator.Search.{position_from_yields_List}
use Rattle.slots.specs.Cells.{cell_of, is_free}
use Rattle.slots.specs.declared.table.Slot.{Slot}
use Rattle.slots.proofs.SlotLaws.{free_place}
use Rattle.slots.proofs.table.Table.free_slot.Goals as goal

pub returns : goal.returns
returns g c =
    free_place c.args.self.now.slots.items c.position.result
    (position_from_yields_List (λ (s : Slot _). is_free (cell_of s)) _ _ _ c.position.ensures.ran (YieldsList-from_slice c.args.self.now.slots.items cc) (λ x b q k. search (rules, tests)))
