use Rattle.std.proofs.Common.{is_some, sym, ap, ◌∙◌, subst}
use mathlib.Core.Logic.{∥∥₁_map}
use Rattle.model.specs.Sound.{Sound}
use Rattle.model.proofs.Placing.{insert_allowed, insert_sound, point_block}
use Rattle.tables.specs.View.{view}
use Rattle.store.proofs.GoodLaws.{sound_of, op_node, block_within}
use Rattle.store.proofs.store.Store.link_operation.Goals as goal

pub insert-requires : goal.insert-requires
insert-requires c =
    let t = c.args.self.now.tables in
    let g = c.args.self.now.good in
    let p = c.args.point in
    let o = c.args.op in
    let a = insert_allowed (view t) p o c.requires in
    record { node = op_node t g o a.op; unlinked = a.out; linked = ap is_some a.at; container = λ b e. block_within t g b (point_block (view t) (sound_of t g) p b a.live e) }

pub invariant_of-self : goal.invariant_of-self
invariant_of-self c = record {
  good = ∥∥₁_map c.args.self.now.good (λ z. record {
    sized = c.insert.ensures.sizes ∙ z.sized;
    sound = subst Sound (sym c.insert.ensures.after) (insert_sound (view c.args.self.now.tables) z.sound c.args.point c.args.op c.requires);
  });
}
