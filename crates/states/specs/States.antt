-- What the table of states says.
use Rattle.std.specs.Prelude.{ℕ, vec_items, slice_index_or}
use Rattle.rules.specs.declared.interface.StateEntry.{StateEntry}
use Rattle.rules.specs.declared.interface.OpState.TheVariants as state
use Rattle.states.specs.declared.states.States.{States}

abbrev pub fresh : StateEntry
fresh = record { generation = 0; state = state.Unmarked }

abbrev pub states_in : States → ℕ → StateEntry
states_in k s = slice_index_or (vec_items k.entries) s fresh

abbrev pub unmarked_all : ℕ → StateEntry
unmarked_all _ = fresh
