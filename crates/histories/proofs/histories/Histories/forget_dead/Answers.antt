use Rattle.std.proofs.Common.{vec_items, ap, ◌∙◌, rules}
use Rattle.std.proofs.lemmas.Fn.{filter_same}
use Rattle.model.specs.Model.{is_value}
use Rattle.store.specs.Meaning.{meaning}
use Rattle.histories.specs.Kept.{histories, entries_of}
use Rattle.histories.proofs.Puts.{kept_histories}
use Rattle.histories.proofs.histories.Histories.forget_dead.Goals as goal

pub returns : goal.returns
returns c =
    let lives = is_value (meaning c.args.store.now) in
    ap histories (filter_same _ (entries_of lives) _ (λ x b f k. search rules) _ _ c.retain.ensures.filtered) ∙ kept_histories lives (vec_items c.args.self.now.entries)
