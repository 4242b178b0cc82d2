-- What a history means.
use Rattle.std.specs.Prelude.{ℕ, suc, ◌+◌, Bool, cond, List, [], ◌∷◌, map, length, Some, None, Option, nat_lt}
use Rattle.model.specs.declared.ids.Value.{Value}
use Rattle.model.specs.Calls.{same_value}
use Rattle.row.specs.Items.{row_items}
use Rattle.rules.specs.Histories.{History}
use Rattle.histories.specs.declared.history.TypeHistory.{TypeHistory}

abbrev pub history : TypeHistory → History
history h = record { value = h.value; types = row_items h.types }

abbrev pub histories : List TypeHistory → List History
histories hs = map history hs

-- where the history of a value stands, and the length where it has none
abbrev pub place_of : List History → Value → ℕ
place_of [] v = 0
place_of (h ∷ hs) v = cond (same_value h.value v) 0 (suc (place_of hs v))

-- the test of an entry by its value
abbrev pub entries_of : (Value → Bool) → TypeHistory → Bool
entries_of f h = f h.value

abbrev pub is_kept : List History → Value → Bool
is_kept hs v = nat_lt (place_of hs v) (length hs)

-- where the history of a value stands, if it has one
abbrev pub place_in : List History → Value → Option ℕ
place_in hs v = cond (is_kept hs v) (Some (place_of hs v)) None

-- the history of a value, if it has one
abbrev pub history_in : List History → Value → Option History
history_in [] v = None
history_in (h ∷ hs) v = cond (same_value h.value v) (Some h) (history_in hs v)

-- how many histories there are once the value has one
abbrev pub size_with : List History → Value → ℕ
size_with hs v = cond (is_kept hs v) (length hs) (length hs + 1)
