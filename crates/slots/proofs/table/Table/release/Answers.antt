use Rattle.std.proofs.Common.{map, set, vec_items, sym, ap, ◌∙◌, arith}
use Rattle.std.proofs.lemmas.List.{map-set}
use Rattle.slots.specs.Cells.{cell_of, retired}
use Rattle.slots.proofs.SlotLaws.{cell_read}
use Rattle.slots.proofs.table.Table.release.Goals as goal

pub returns-then-slot-len : goal.returns-then-slot-len
returns-then-slot-len g c =
    let xs = vec_items c.args.self.now.slots in
    map-set cell_of xs c.args.slot _
    ∙ ap (set (map cell_of xs) c.args.slot) (c.release.ensures ∙ ap retired (sym (cell_read xs c.args.slot _ (omega arith) c.index_mut.ensures.value)))
