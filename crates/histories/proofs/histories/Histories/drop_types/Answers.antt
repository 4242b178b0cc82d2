use Rattle.std.proofs.Common.{not, vec_items, filter, ap, ◌∙◌, rules}
use mathlib.Core.Path.{fun_ext}
use Rattle.std.proofs.lemmas.Fn.{filter_same}
use Rattle.model.specs.contracts.ids.ValuePartialEq.TheImpl.{ghosts}
use Rattle.rules.specs.Histories.{History}
use Rattle.histories.specs.Kept.{histories, entries_of}
use Rattle.histories.specs.Many.{kept}
use Rattle.histories.proofs.Puts.{kept_histories}
use Rattle.model.proofs.Equal.{value_eq}
use Rattle.histories.proofs.histories.Histories.drop_types.Goals as goal

pub returns : goal.returns
returns c =
    let v = c.args.value in
    ap histories (filter_same _ (entries_of (λ u. not (ghosts.eq u v))) _ (λ x b f k. search rules) _ _ c.retain.ensures.filtered)
    ∙ kept_histories (λ u. not (ghosts.eq u v)) (vec_items c.args.self.now.entries)
    ∙ ap (λ same. filter (λ (h : History). not (same h.value)) (kept c.args.self.now)) (fun_ext (λ u. value_eq u v))
