-- The types that values had.
use Rattle.std.specs.Prelude.{List}
use Rattle.model.specs.declared.ids.Value.{Value}
use Rattle.rules.specs.Histories.{History, types_had}

abbrev pub history_of : List History → Value → History
history_of hs v = record { value = v; types = types_had hs v }
