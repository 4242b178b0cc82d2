use Rattle.std.proofs.Common.{[], ◌∷◌, map, length, set, sym, ap, ◌∙◌, ap₂}
use Rattle.std.proofs.lemmas.List.{length-set}
use Rattle.slots.specs.Cells.{cell_at, is_free, next_of, viewed, Live, cells}
use Rattle.row.specs.Items.{row_items}
use Rattle.slots.proofs.CellLaws.{cell_at_viewed, free_viewed, next_viewed, next_of_given}
use Rattle.lists.specs.Lists.{nodes, containers, members, home}
use Rattle.model.specs.Calls.{opened}
use Rattle.model.proofs.Opens.{length_opened}
use Rattle.tables.specs.View.{view_op, block_cells}
use Rattle.tables.proofs.MakeLaws.{view_occupied}
use Rattle.tables.proofs.tables.Tables.make.Goals as goal

pub returns : goal.returns
returns c =
    let t = c.args.self.now in
    let cs = cells t.operations in
    let s = c.args.slot in
    let h = c.open_regions-regions.ensures in
    let is = ap (λ g. record { slot = s; generation = g }) (next_of_given (cell_at cs s) _ (sym c.next_generation.ensures ∙ c.unwrap-generation.ensures) ∙ sym (ap next_of (cell_at_viewed view_op cs s) ∙ next_viewed view_op (cell_at cs s))) in
    record {
      made = record {
        slots = h.slots;
        usable = record { op = ap is_free (cell_at_viewed view_op cs s) ∙ free_viewed view_op (cell_at cs s) ∙ c.requires.free; regions = h.free; apart = h.apart; count = h.count };
        is = is;
        after =
            let old = map (viewed view_op) cs in
            ap₂ (λ a b. record { ops = a; blocks = block_cells t; regions = b; ops_of = members t.op_lists; home_of = home t.op_lists; blocks_of = members t.block_lists; place_of = home t.block_lists })
            (view_occupied view_op cs (cells c.occupy.new.self) s c.occupy.result _ c.occupy.ensures.cells c.occupy.ensures.was
            ∙ ap (λ ids. set old s (Live (next_of (cell_at old s)) (record { kind = c.args.kind; note = c.args.note; operands = row_items c.args.operands; results = row_items c.args.results; regions = ids }))) h.given)
            (h.after ∙ ap (λ o. opened (cells t.regions) o h.slots c.args.marks.now) is);
      };
      sizes = ap₂ (λ a b. a ∷ length (cells t.blocks) ∷ b ∷ nodes t.op_lists ∷ containers t.op_lists ∷ nodes t.block_lists ∷ containers t.block_lists ∷ [])
          (ap length c.occupy.ensures.cells ∙ length-set cs s _)
          (ap length h.after ∙ length_opened _ (cells t.regions) h.slots c.args.marks.now);
    }
