use Rattle.std.proofs.Common.{ap}
use Rattle.lists.proofs.Edits.{place_next, place_prev, unlink}
use Rattle.lists.proofs.Props.{sound}
use Rattle.lists.proofs.lists.LinkedLists.unlink.Goals as goal

pub unlink-requires-clause-container : goal.unlink-requires-clause-container
unlink-requires-clause-container c =
    let at = rw c.unwrap-gap.ensures at c.gap_of.ensures in
    (sound _ _ c.args.self.now.sound).bound _ c.args.node (ap (λ l. l.container) at)

pub unlink-requires-clause-prev : goal.unlink-requires-clause-prev
unlink-requires-clause-prev c =
    let at = rw c.unwrap-gap.ensures at c.gap_of.ensures in
    rw at at (place_prev _ _ (sound _ _ c.args.self.now.sound) c.args.node)

pub unlink-requires-clause-next : goal.unlink-requires-clause-next
unlink-requires-clause-next c =
    let at = rw c.unwrap-gap.ensures at c.gap_of.ensures in
    rw at at (place_next _ _ (sound _ _ c.args.self.now.sound) c.args.node)

pub invariant_of-self : goal.invariant_of-self
invariant_of-self c =
    let at = rw c.unwrap-gap.ensures at c.gap_of.ensures in
    record { sound = ∣ (unlink _ _ (sound _ _ c.args.self.now.sound) _ _ c.args.node _ _ _ at (c.unlink.ensures.links, c.unlink.ensures.ends)).0 ∣₁ }

pub returns : goal.returns
returns c =
    let at = rw c.unwrap-gap.ensures at c.gap_of.ensures in
    (unlink _ _ (sound _ _ c.args.self.now.sound) _ _ c.args.node _ _ _ at (c.unlink.ensures.links, c.unlink.ensures.ends)).1
