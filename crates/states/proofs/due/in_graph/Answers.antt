use Rattle.std.proofs.Common.{◌∙◌, rules}
use Rattle.store.specs.Meaning.{meaning}
use Rattle.store.proofs.GoodLaws.{sound_of}
use Rattle.states.proofs.GraphLaws.{read_graph_lem, read_steps, weaker}
use Rattle.states.proofs.due.in_graph.Goals as goal

pub returns : goal.returns
returns c =
    let s = c.args.store.now in
    c.unwrap_or.ensures
    ∙ read_steps (meaning s) c.args.op _ _ _ c.get_parent_block.ensures
    (weaker _ _ _ c.get_parent_block.result (λ b k. search rules) c.and_then.ensures)
    (weaker _ _ _ c.and_then.result (λ r k. search rules) c.and_then-2.ensures)
    ∙ read_graph_lem (meaning s) (sound_of s.tables s.good) c.args.op
