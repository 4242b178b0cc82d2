use Rattle.std.proofs.Common.{[], ◌∷◌, map, length, ap, ◌∙◌}
use mathlib.Core.Path.{fun_ext}
use Rattle.std.proofs.lemmas.List.{length-replicate}
use Rattle.slots.specs.Cells.{viewed}
use Rattle.slots.proofs.CellLaws.{viewed_unused}
use Rattle.tables.specs.View.{view_op, view_block}
use Rattle.tables.proofs.tables.Tables.new.Goals as goal

pub returns : goal.returns
returns c =
    let o = c.in_ok-operation_table.ensures in
    let b = c.in_ok-block_table.ensures in
    let r = c.in_ok-region_table.ensures in
    let l = c.in_ok-op_lists.ensures in
    let k = c.in_ok-block_lists.ensures in (
      λ i. record {
        ops = (ap (map (viewed view_op)) o ∙ viewed_unused view_op c.args.ops) i;
        blocks = (ap (map (viewed view_block)) b ∙ viewed_unused view_block c.args.blocks) i;
        regions = r i;
        ops_of = fun_ext l.2 i;
        home_of = fun_ext l.3 i;
        blocks_of = fun_ext k.2 i;
        place_of = fun_ext k.3 i;
      },
      λ i. (ap length o ∙ length-replicate c.args.ops _) i ∷ (ap length b ∙ length-replicate c.args.blocks _) i ∷ (ap length r ∙ length-replicate c.args.regions _) i
          ∷ l.0 i ∷ l.1 i ∷ k.0 i ∷ k.1 i ∷ [],
    )
