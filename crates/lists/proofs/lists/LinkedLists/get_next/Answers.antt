use Rattle.std.proofs.Common.{ap, ◌∙◌}
use Rattle.lists.proofs.Edits.{next_read}
use Rattle.lists.proofs.Props.{sound}
use Rattle.lists.proofs.lists.LinkedLists.get_next.Goals as goal

pub returns : goal.returns
returns c = ap (λ l. l.next) c.at.ensures ∙ next_read _ _ (sound _ _ c.args.self.now.sound) c.args.node
