use Rattle.std.proofs.Common.{sym, refl, ◌∙◌, subst}
use mathlib.Core.Logic.{∥∥₁_map}
use Rattle.model.specs.Sound.{Sound}
use Rattle.model.proofs.Unlinking.{unlink_sound}
use Rattle.tables.specs.View.{view}
use Rattle.model.specs.Later.{Later}
use Rattle.model.proofs.Refusals.{passes}
use Rattle.model.proofs.Laters.{unlink_later}
use Rattle.store.proofs.store.Store.unlink_operation.Goals as goal

pub invariant_of-self : goal.invariant_of-self
invariant_of-self c =
    let m = view c.args.self.now.tables in
    let s = c.args.op.slot in record {
      good = ∥∥₁_map c.args.self.now.good (λ z. record {
        sized = c.unlink.ensures.sizes ∙ z.sized;
        sound = subst Sound (sym c.unlink.ensures.after) (unlink_sound m s (m.home_of s) refl z.sound);
      });
    }

pub returns : goal.returns
returns c =
    let m = view c.args.self.now.tables in
    let s = c.args.op.slot in
    let after = c.unlink.ensures.after in
    record { answer = (passes _ c.in_ok-check_unlink.ensures, after); later = subst (Later m) (sym after) (unlink_later m s (m.home_of s)) }
