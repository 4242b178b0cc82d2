use Rattle.std.proofs.Common.{◌≡◌, replicate, ap, ◌∙◌, rules}
use Rattle.states.specs.States.{fresh}
use Rattle.states.proofs.StateLaws.{table, all_fresh}
use Rattle.states.proofs.states.States.new.Goals as goal

pub returns : goal.returns
returns c =
    let e : c.default.result ≡ fresh = search rules in
    ap table (c.in_ok-entries.ensures.items_if_clones_equal (λ y k. search rules)) ∙ ap (λ x. table (replicate 512 x)) e ∙ all_fresh 512
