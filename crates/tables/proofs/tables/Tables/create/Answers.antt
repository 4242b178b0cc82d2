use Rattle.std.proofs.Common.{[], ◌∷◌, length, sym, ap, ◌∙◌}
use Rattle.std.proofs.lemmas.List.{length-set}
use Rattle.slots.specs.Cells.{next_of, viewed, cells}
use Rattle.slots.proofs.CellLaws.{cell_at_viewed}
use Rattle.lists.specs.Lists.{nodes, containers, members, home}
use Rattle.row.specs.Items.{row_items}
use Rattle.model.specs.Points.{region_at, created_in}
use Rattle.tables.specs.View.{view, view_block, op_cells}
use Rattle.tables.proofs.MakeLaws.{view_occupied}
use Rattle.tables.proofs.LinkLaws.{members_put, home_put, some_is}
use Rattle.tables.proofs.tables.Tables.create.Goals as goal

pub returns : goal.returns
returns c =
    let t = c.args.self.now in
    let cs = cells t.blocks in
    let s = c.args.slot in
    let p = c.args.point in
    let q = some_is (region_at (view t) p) c.requires.linked in
    let h = c.link_block.ensures q.0 q.1 in
    let blocks = view_occupied view_block cs (cells c.occupy-generation.new.self) s c.occupy-generation.result _ c.occupy-generation.ensures.cells c.occupy-generation.ensures.was in
    let lists = members_put t.block_lists c.link_block.new.lists _ _ _ _ h in
    let places = home_put t.block_lists c.link_block.new.lists _ _ _ _ h in
    record {
      is = ap (λ g. record { slot = s; generation = g }) (sym (ap next_of (cell_at_viewed view_block cs s ∙ ap (viewed view_block) c.occupy-generation.ensures.was)));
      after = (λ i. record { ops = op_cells t; blocks = blocks i; regions = cells t.regions; ops_of = members t.op_lists; home_of = home t.op_lists; blocks_of = lists i; place_of = places i })
          ∙ ap (λ r. created_in (view t) r p s (row_items c.args.arguments)) (sym q.1);
      sizes = λ i. length (cells t.operations) ∷ (ap length c.occupy-generation.ensures.cells ∙ length-set cs s _) i ∷ length (cells t.regions) ∷ nodes t.op_lists ∷ containers t.op_lists ∷ h.nodes i ∷ h.containers i ∷ [];
    }
