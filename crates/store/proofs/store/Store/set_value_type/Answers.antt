use Rattle.std.proofs.Common.{cond, Some, None, sym, ap, ◌∙◌, subst}
use Rattle.model.specs.declared.refusal.Refusal.TheVariants.{NotLive}
use mathlib.Core.Logic.{∥∥₁_map}
use Rattle.model.specs.Sound.{Sound}
use Rattle.model.proofs.Changing.{typed_sound}
use Rattle.tables.specs.View.{view}
use Rattle.model.specs.Later.{Later}
use Rattle.model.proofs.Laters.{typed_later}
use Rattle.store.proofs.store.Store.set_value_type.Goals as goal

pub invariant_of-self : goal.invariant_of-self
invariant_of-self c =
    let v = c.args.value in record {
      good = ∥∥₁_map c.args.self.now.good (λ z. record {
        sized = c.set_value_type.ensures.sizes ∙ z.sized;
        sound = subst Sound (sym c.set_value_type.ensures.after) (typed_sound (view c.args.self.now.tables) v.definer v.index c.args.to z.sound);
      });
    }

pub returns : goal.returns
returns c =
    let m = view c.args.self.now.tables in
    let v = c.args.value in
    let after = c.set_value_type.ensures.after in
    record { answer = (ap (λ b. cond b None (Some NotLive)) (sym c.if-not-is_value.ensures), after); later = subst (Later m) (sym after) (typed_later m v.definer v.index c.args.to) }
