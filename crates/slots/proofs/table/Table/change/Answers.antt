use Rattle.std.proofs.Common.{vec_items, sym, subst, arith}
use Rattle.std.specs.Fn.{FnOnceReturnsAtMut}
use Rattle.std.proofs.lemmas.List.{map-set}
use Rattle.slots.specs.Cells.{CellChanged, cell_of}
use Rattle.slots.proofs.SlotLaws.{cell_read}
use Rattle.slots.proofs.table.Table.change.Goals as goal

pub returns-then-slot-len : goal.returns-then-slot-len
returns-then-slot-len g c =
    let xs = vec_items c.args.self.now.slots in
    let at = cell_read xs c.args.slot _ (omega arith) c.index_mut.ensures.value in (
      _,
      map-set cell_of xs c.args.slot _,
      subst (λ k. CellChanged (λ x y. FnOnceReturnsAtMut g.F.FnOnce c.args.f x tt y) k (cell_of c.change.new.self)) (sym at) c.change.ensures,
    )
