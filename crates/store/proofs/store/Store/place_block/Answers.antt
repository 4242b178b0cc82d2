use Rattle.std.proofs.Common.{◌≡◌, true, is_some, sym, ap, ◌∙◌, subst}
use mathlib.Core.Logic.{∥∥₁_map}
use Rattle.std.proofs.lemmas.Bool.{some_since}
use Rattle.slots.specs.Cells.{cell_at, is_free, is_live, cells}
use Rattle.slots.proofs.CellLaws.{frees_viewed, cell_at_viewed, free_viewed}
use Rattle.lists.proofs.Chains.{some_some}
use Rattle.model.specs.Calls.{next_block}
use Rattle.model.specs.Points.{created_at}
use Rattle.model.specs.Sound.{Sound}
use Rattle.model.proofs.Placing.{create_allowed, created_sound, point_region}
use Rattle.tables.specs.View.{view, view_block}
use Rattle.store.proofs.GoodLaws.{sound_of, free_block_node, free_block_unplaced, region_within}
use Rattle.tables.proofs.ReadLaws.{cases_some, cases_ok}
use Rattle.store.proofs.store.Store.place_block.Goals as goal

pub unwrap-slot-requires : goal.unwrap-slot-requires
unwrap-slot-requires c =
    let t = c.args.self.now.tables in
    some_since c.free_slot.result _ _ c.free_slot.ensures
    (λ z. (create_allowed (view t) c.args.point c.args.arg_types.now c.requires).free (frees_viewed view_block (cells t.blocks) ∙ z))

pub create-requires : goal.create-requires
create-requires c =
    let t = c.args.self.now.tables in
    let g = c.args.self.now.good in
    let s = c.unwrap-slot.result in
    let a = create_allowed (view t) c.args.point c.args.arg_types.now c.requires in
    let q = point_region (view t) (sound_of t g) c.args.point a.live a.set in
    let free = cases_some _ _ _ _ c.free_slot.ensures c.unwrap-slot.ensures in
    record {
      free = free;
      node = free_block_node t g s free;
      unlinked = free_block_unplaced t g s free;
      linked = ap is_some q.at;
      container = λ r e. region_within t g r (ap (λ z. is_live (cell_at (view t).regions z)) (some_some r q.region (sym e ∙ q.at)) ∙ q.live);
    }

pub invariant_of-self : goal.invariant_of-self
invariant_of-self c =
    let t = c.args.self.now.tables in
    let m = view t in
    let s = c.unwrap-slot.result in
    let p = c.args.point in
    let cs = cells t.blocks in
    let free : is_free (cell_at m.blocks s) ≡ true = ap is_free (cell_at_viewed view_block cs s) ∙ free_viewed view_block (cell_at cs s) ∙ cases_some _ _ _ _ c.free_slot.ensures c.unwrap-slot.ensures in
    let a = create_allowed m p c.args.arg_types.now c.requires in record {
      good = ∥∥₁_map c.args.self.now.good (λ z. record {
        sized = c.create.ensures.sizes ∙ z.sized;
        sound = subst Sound (sym c.create.ensures.after) (created_sound m z.sound p s _ free a.live a.set);
      });
    }

pub returns : goal.returns
returns c =
    let t = c.args.self.now.tables in
    let m = view t in
    let s = c.unwrap-slot.result in
    let p = c.args.point in
    let cs = cells t.blocks in
    let e = cases_ok _ _ _ _ c.try_from.ensures c.unwrap-arguments.ensures in
    let is = c.create.ensures.is in
    record {
      allowed = c.requires;
      usable = ap (λ b. is_free (cell_at m.blocks b.slot)) is ∙ ap is_free (cell_at_viewed view_block cs s) ∙ free_viewed view_block (cell_at cs s) ∙ cases_some _ _ _ _ c.free_slot.ensures c.unwrap-slot.ensures;
      is = is ∙ ap (next_block m) (sym (ap (λ b. b.slot) is));
      after = c.create.ensures.after ∙ ap (created_at m p s) e ∙ ap (λ b. created_at m p b.slot c.args.arg_types.now) (sym is);
    }
