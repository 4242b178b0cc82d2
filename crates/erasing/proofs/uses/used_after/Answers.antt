use Rattle.std.proofs.Common.{◌≡◌, ◌-◌, length, rules, tests, ◌∙◌, arith}
use Rattle.std.proofs.lemmas.List.{length-map}
use Rattle.std.proofs.lemmas.Iterator.{YieldsList-from_range}
use Rattle.std.proofs.lemmas.Iterator.Search.{any_from_yields_List}
use Rattle.slots.specs.Cells.{cells, cell_at, viewed}
use Rattle.model.specs.Calls.{replace_each}
use Rattle.model.proofs.Chains.{each_length}
use Rattle.tables.specs.View.{view, view_op}
use Rattle.erasing.proofs.Usings.{uses_out, used_all}
use Rattle.erasing.proofs.uses.used_after.Goals as goal

pub returns : goal.returns
returns c =
    let m = view c.args.tables.now in
    let ns = c.args.nodes.now in
    let cs = (replace_each m c.args.olds.now c.args.news.now).ops in
    let as_many : c.len.result - 0 ≡ length cs = omega (arith, each_length m c.args.olds.now c.args.news.now, length-map (cells c.args.tables.now.operations) (viewed view_op), c.len.ensures) in
    any_from_yields_List (λ s. uses_out ns s (cell_at cs s)) _ _ _ c.any.ensures.ran (YieldsList-from_range 0 c.len.result (length cs) (cc) as_many) (λ s b q k. search (rules, tests))
    ∙ used_all ns cs
