use Rattle.std.proofs.Common.{◌<◌, map, length, set, sym, ap, ◌∙◌, arith}
use Rattle.std.proofs.lemmas.List.Edits.{map_over_more}
use Rattle.std.proofs.lemmas.List.{length-map, length-set, map-set, get_or-map}
use Rattle.slots.specs.Cells.{viewed, cell_of}
use Rattle.model.specs.Calls.{reused}
use Rattle.tables.specs.View.{view_op}
use Rattle.tables.proofs.tables.changes.replace_everywhere.Goals as goal

pub loop-slot-preserved : goal.loop-slot-preserved
loop-slot-preserved c =
    let i = c.loop-slot.slot-index in
    let items = c.loop-slot.slot-items in
    let xs = map (viewed view_op) (map cell_of c.deref_mut-slot-items.result.now) in
    let ys = map (viewed view_op) (map cell_of items) in
    let G = viewed (reused c.args.old c.args.new) in
    let v = viewed view_op (cell_of c.slot-item.result) in
    let few : i < length items = omega (arith, c.loop-slot.invariant.1) in
    let lt : i < length xs = omega (arith, length-map (map cell_of c.deref_mut-slot-items.result.now) (viewed view_op), length-map c.deref_mut-slot-items.result.now cell_of) in
    let lty : i < length (map cell_of items) = omega (arith, length-map items cell_of) in
    let here = get_or-map (viewed view_op) (map cell_of items) i (cell_of c.slot-item.result) v lty ∙ ap (viewed view_op) (get_or-map cell_of items i c.slot-item.result (cell_of c.slot-item.result) few ∙ ap cell_of (sym c.slot-item.is)) in (
      ap (map (viewed view_op)) (map-set cell_of items i _) ∙ map-set (viewed view_op) (map cell_of items) i _ ∙ ap (set ys i) (c.replace_in.ensures ∙ ap (λ s. G (viewed view_op (cell_of s))) (sym c.slot-item.is))
          ∙ map_over_more G xs ys i v lt c.loop-slot.invariant.0 (sym here),
      length-set items i _ ∙ c.loop-slot.invariant.1,
    )
