use Rattle.std.proofs.Common.{◌≡◌, replicate, vec_len, ap, ◌∙◌, rules}
use Rattle.states.specs.States.{fresh}
use Rattle.states.proofs.StateLaws.{table, all_fresh}
use Rattle.states.proofs.states.States.clear.Goals as goal

pub returns : goal.returns
returns c =
    let e : c.default.result ≡ fresh = search rules in
    ap table (c.fill.ensures.items (λ y k. search rules)) ∙ ap (λ x. table (replicate (vec_len c.args.self.now.entries) x)) e ∙ all_fresh (vec_len c.args.self.now.entries)
