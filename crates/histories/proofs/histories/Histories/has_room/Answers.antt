use Rattle.std.proofs.Common.{◌≤◌, leb, vec_items, sym, ap, ◌∙◌, arith}
use Rattle.std.proofs.lemmas.List.{length-map}
use Rattle.std.proofs.lemmas.Bool.{le-leb}
use Rattle.rules.specs.Histories.{drop_types}
use Rattle.histories.specs.Kept.{history, size_with}
use Rattle.histories.specs.Many.{kept}
use Rattle.histories.proofs.Limits.{drop_none, room_left}
use Rattle.histories.proofs.histories.Histories.has_room.Goals as goal

pub returns-then-is_kept : goal.returns-then-is_kept
returns-then-is_kept c =
    let hs = kept c.args.self.now in
    let room = room_left c.args.old hs c.args.new (sym c.if-is_kept.ensures) in
    let few : size_with (drop_types hs c.args.old) c.args.new ≤ 1024 = omega (arith, room, length-map (vec_items c.args.self.now.entries) history, c.args.self.now.within) in
    c.if-is_kept.true ∙ sym (le-leb _ _ few)

pub returns-else-is_kept : goal.returns-else-is_kept
returns-else-is_kept c =
    let hs = kept c.args.self.now in
    ap (λ n. leb n 1024) c.size_with.ensures ∙ ap (λ ys. leb (size_with ys c.args.new) 1024) (sym (drop_none c.args.old hs (sym c.if-is_kept.ensures)))
