use Rattle.std.proofs.Common.{ap}
use Rattle.lists.proofs.Edits.{place_next, insert_after_lem}
use Rattle.lists.proofs.Props.{sound}
use Rattle.lists.proofs.lists.LinkedLists.insert_after.Goals as goal

pub link-requires-clause-container : goal.link-requires-clause-container
link-requires-clause-container c =
    let at = rw c.unwrap.ensures at c.gap_of.ensures in
    (sound _ _ c.args.self.now.sound).bound _ c.args.mark (ap (λ l. l.container) at)

pub link-requires-clause-next : goal.link-requires-clause-next
link-requires-clause-next c =
    let at = rw c.unwrap.ensures at c.gap_of.ensures in
    rw at at (place_next _ _ (sound _ _ c.args.self.now.sound) c.args.mark)

pub invariant_of-self : goal.invariant_of-self
invariant_of-self c =
    let at = rw c.unwrap.ensures at c.gap_of.ensures in
    record { sound = ∣ (insert_after_lem _ _ (sound _ _ c.args.self.now.sound) _ _ c.args.node _ c.args.mark _ _ at (c.link.ensures.links, c.link.ensures.ends) c.requires.node c.requires.unlinked).0 ∣₁ }

pub returns : goal.returns
returns c =
    let at = rw c.unwrap.ensures at c.gap_of.ensures in
    (insert_after_lem _ _ (sound _ _ c.args.self.now.sound) _ _ c.args.node _ c.args.mark _ _ at (c.link.ensures.links, c.link.ensures.ends) c.requires.node c.requires.unlinked).1
