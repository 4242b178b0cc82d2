use Rattle.std.proofs.Common.{◌≡◌, ◌+◌, [], length, sym, ap, ◌∙◌, subst, arith, lit<}
use Rattle.std.proofs.lemmas.List.{take_more, take_all, length-take-le}
use Rattle.slots.specs.Cells.{frees, cells}
use Rattle.row.specs.Items.{row_items}
use Rattle.slots.proofs.CellLaws.{frees_occupied}
use Rattle.model.specs.Calls.{Opened}
use Rattle.model.proofs.Opens.{opened_none, opened_more, length_next_ids}
use Rattle.tables.proofs.tables.opens.open_regions.Goals as goal

pub loop-graph-init : goal.loop-graph-init
loop-graph-init c =
    let cs = cells c.args.regions.now in
    (subst (Opened cs cs c.args.owner []) (sym c.default-ids.ensures) (opened_none cs c.args.owner), omega arith)

pub open_region-requires : goal.open_region-requires
open_region-requires c = omega (arith, c.loop-graph.invariant.1, c.requires.room)

pub push-requires : goal.push-requires
push-requires c =
    let h = c.loop-graph.invariant.0 in
    let i = c.loop-graph.graph-index in
    let ms = c.args.marks.now in
    (lit< tt, omega (arith, ap length h.given ∙ length_next_ids (cells c.args.regions.now) h.slots ∙ h.count ∙ length-take-le i ms (omega arith), c.requires.few))

pub loop-graph-preserved : goal.loop-graph-preserved
loop-graph-preserved c =
    let ms = c.args.marks.now in
    let i = c.loop-graph.graph-index in
    let o = c.open_region in (
      subst (λ gs. Opened (cells c.args.regions.now) (cells o.new.regions) c.args.owner gs (row_items c.push.new.self)) (sym (take_more ms i _ c.loop-graph-test.true))
          (subst (Opened (cells c.args.regions.now) (cells o.new.regions) c.args.owner _) (sym c.push.ensures)
          (opened_more _ _ _ c.args.owner _ _ o.result.slot o.result.generation _ c.loop-graph.invariant.0 o.ensures.free o.ensures.next o.ensures.cells)),
      (let f : frees (cells o.new.regions) + 1 ≡ frees (cells c.loop-graph.regions) = ap (λ z. frees z + 1) o.ensures.cells ∙ frees_occupied _ _ _ _ o.ensures.free in
          omega (arith, f, c.loop-graph.invariant.1)),
    )

pub returns : goal.returns
returns c = subst (λ gs. Opened (cells c.args.regions.now) (cells c.loop-graph.regions) c.args.owner gs (row_items c.loop-graph.ids)) (take_all c.loop-graph.graph-index c.args.marks.now c.loop-graph-test.false) c.loop-graph.invariant.0
