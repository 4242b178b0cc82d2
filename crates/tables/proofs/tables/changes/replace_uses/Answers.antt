use Rattle.std.proofs.Common.{rules}
use Rattle.model.specs.Calls.{replaced}
use Rattle.row.proofs.Rows.{updated_map}
use Rattle.tables.proofs.tables.changes.replace_uses.Goals as goal

pub returns : goal.returns
returns c = updated_map _ (replaced c.args.old c.args.new) (λ x y p. search rules) _ _ c.update.ensures
