use Rattle.std.proofs.Common.{ap, ◌∙◌}
use Rattle.lists.proofs.Edits.{prev_read}
use Rattle.lists.proofs.Props.{sound}
use Rattle.lists.proofs.lists.LinkedLists.get_prev.Goals as goal

pub returns : goal.returns
returns c = ap (λ l. l.prev) c.at.ensures ∙ prev_read _ _ (sound _ _ c.args.self.now.sound) c.args.node
