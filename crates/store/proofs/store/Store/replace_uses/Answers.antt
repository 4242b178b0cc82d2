use Rattle.std.proofs.Common.{sym, ◌∙◌, subst}
use mathlib.Core.Logic.{∥∥₁_map}
use Rattle.model.specs.Sound.{Sound}
use Rattle.model.proofs.Changing.{replace_sound}
use Rattle.tables.specs.View.{view}
use Rattle.store.proofs.store.Store.replace_uses.Goals as goal

pub invariant_of-self : goal.invariant_of-self
invariant_of-self c = record {
  good = ∥∥₁_map c.args.self.now.good (λ z. record {
    sized = c.replace_all_uses.ensures.sizes ∙ z.sized;
    sound = subst Sound (sym c.replace_all_uses.ensures.after) (replace_sound (view c.args.self.now.tables) c.args.old c.args.new c.requires z.sound);
  });
}
