-- What is read and written of the states.
use Rattle.std.proofs.Common.{◌≡◌, ℕ, ◌≤◌, false, List, length, get_or, replicate, is_some, ap, inl, inr}
use mathlib.Core.Path.{fun_ext}
use Rattle.std.proofs.lemmas.List.{length-replicate, get_or_past, get_or-replicate}
use Rattle.std.proofs.lemmas.Bool.{cases_lt}
use Rattle.slots.specs.Cells.{Cell, found, under, Spent}
use Rattle.rules.specs.declared.interface.StateEntry.{StateEntry}
use Rattle.states.specs.States.{fresh, unmarked_all}

abbrev pub table : List StateEntry → ℕ → StateEntry
table xs s = get_or xs s fresh

pub all_fresh : (n : ℕ) → table (replicate n fresh) ≡ unmarked_all
all_fresh n = fun_ext (λ i. elim (cases_lt i n) [
  | inl h ↦ get_or-replicate n i fresh fresh h
  | inr h ↦ get_or_past (replicate n fresh) i fresh (simp length-replicate h)
])

-- past the last slot nothing is live
pub dead_past : {X : Type 0} (cs : List (Cell X)) (s g : ℕ) → length cs ≤ s → is_some (found cs s g) ≡ false
dead_past cs s g h = ap (λ c. is_some (under c g)) (get_or_past cs s Spent h)
