use Rattle.std.proofs.Common.{◌++◌, length, sym, refl, ap, ◌∙◌, arith}
use Rattle.model.specs.Erasing.{part_of}
use Rattle.tables.specs.View.{view}
use Rattle.store.proofs.GoodLaws.{sound_of, part_listed}
use Rattle.store.proofs.store.Store.list_part.Goals as goal

pub list_part-requires : goal.list_part-requires
list_part-requires c =
    let t = c.args.self.now.tables in
    let g = c.args.self.now.good in
    let p = part_listed t g c.args.node (part_of (view t) c.args.node) (sym c.if-not-is_live.ensures.answer) refl in
    record { sound = sound_of t g; room = omega (arith, p.few, ap length c.clear.ensures) }

pub returns : goal.returns
returns c =
    let t = c.args.self.now.tables in
    part_listed t c.args.self.now.good c.args.node _ (sym c.if-not-is_live.ensures.answer) (c.list_part.ensures ∙ ap (λ ns. ns ++ part_of (view t) c.args.node) c.clear.ensures)
