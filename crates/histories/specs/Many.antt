-- The histories that are kept.
use Rattle.std.specs.Prelude.{List, vec_items}
use Rattle.rules.specs.Histories.{History}
use Rattle.histories.specs.declared.histories.Histories.{Histories}
use Rattle.histories.specs.Kept.{histories}

abbrev pub kept : Histories → List History
kept h = histories (vec_items h.entries)
