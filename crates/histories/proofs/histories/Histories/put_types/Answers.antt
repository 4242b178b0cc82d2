use Rattle.std.proofs.Common.{vec_items, ap, ◌∙◌}
use Rattle.histories.specs.Kept.{histories, place_in}
use Rattle.histories.proofs.Puts.{put_at, put_end}
use Rattle.histories.proofs.histories.Histories.put_types.Goals as goal

pub returns-in-Some : goal.returns-in-Some
returns-in-Some c =
    put_at (vec_items c.args.self.now.entries) c.args.value c.in-Some.place c.args.types
    (c.in-Some.ensures.place ∙ ap (λ ys. place_in (histories ys) c.args.value) c.as_slice.ensures.value)

pub returns-in-None : goal.returns-in-None
returns-in-None c =
    ap histories c.push_reserved.ensures.items
    ∙ put_end (vec_items c.args.self.now.entries) c.args.value c.args.types
    (c.in-None.ensures.place ∙ ap (λ ys. place_in (histories ys) c.args.value) c.as_slice.ensures.value)
