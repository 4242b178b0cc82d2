use Rattle.std.proofs.Common.{cond, vec_items, rules, tests, arith, sym, ◌∙◌}
use Rattle.std.proofs.lemmas.List.Sums.{length-filter, count_by-le-length}
use Rattle.std.proofs.lemmas.Iterator.{YieldsList-from_slice, YieldsList-from_map}
use Rattle.std.proofs.lemmas.Iterator.Consumers.{sum_by_from_yields_List, fits_by_from_yields_list}
use Rattle.slots.specs.Cells.{cell_of, is_free}
use Rattle.slots.specs.declared.table.Slot.{Slot}
use Rattle.slots.proofs.SlotLaws.{frees_filtered}
use Rattle.slots.proofs.table.Table.free_count.Goals as goal

pub sum-requires-clause-fits : goal.sum-requires-clause-fits
sum-requires-clause-fits g c =
    let xs = vec_items c.args.self.now.slots in
    fits_by_from_yields_list _ _ c.map.result _ (YieldsList-from_map _ (λ (s : Slot _). cond (is_free (cell_of s)) 1 0) (YieldsList-from_slice xs cc) c.map.ensures.closure (λ x r q k. search (rules, tests)))
    (omega (arith, count_by-le-length (λ (s : Slot _). is_free (cell_of s)) xs))

pub returns : goal.returns
returns g c =
    let xs = vec_items c.args.self.now.slots in
    sum_by_from_yields_List _ _ c.map.result _ c.sum.ensures.ran (YieldsList-from_map _ (λ (s : Slot _). cond (is_free (cell_of s)) 1 0) (YieldsList-from_slice xs cc) c.map.ensures.closure (λ x r q k. search (rules, tests)))
    ∙ sym (length-filter (λ (s : Slot _). is_free (cell_of s)) xs)
    ∙ frees_filtered xs
