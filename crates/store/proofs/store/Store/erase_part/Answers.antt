use Rattle.std.proofs.Common.{sym, ap, ◌∙◌, subst}
use mathlib.Core.Logic.{∥∥₁_map}
use Rattle.model.specs.Erasing.{erased}
use Rattle.model.specs.Sound.{Sound}
use Rattle.model.proofs.Erased.{erase_sound}
use Rattle.walkers.specs.Listed.{nodes_in}
use Rattle.tables.specs.View.{view}
use Rattle.store.proofs.GoodLaws.{sound_of}
use Rattle.store.proofs.store.Store.erase_part.Goals as goal

pub erase_nodes-requires : goal.erase_nodes-requires
erase_nodes-requires c = sound_of c.args.self.now.tables c.args.self.now.good

pub invariant_of-self : goal.invariant_of-self
invariant_of-self c =
    let m = view c.args.self.now.tables in
    let ns = nodes_in c.args.part.now in record {
      good = ∥∥₁_map c.args.self.now.good (λ z. record {
        sized = c.erase_nodes.ensures.sizes ∙ z.sized;
        sound = subst Sound (sym (c.erase_nodes.ensures.after ∙ ap (erased m) c.as_slice.ensures)) (erase_sound m ns z.sound c.requires.closed c.requires.unused);
      });
    }
