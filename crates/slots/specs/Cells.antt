-- What the slots of a table say.
use Rattle.std.specs.Prelude.{ℕ, ◌+◌, Bool, true, false, cond, List, [], ◌∷◌, map, Some, None, vec_items, Option, ◌==◌, nat_lt, slice_index_or, slice_set, ◌≡◌}
use Rattle.slots.specs.declared.table.Slot.{Slot}
use Rattle.slots.specs.declared.table.Slot.TheVariants as slot
use Rattle.slots.specs.declared.table.Table.{Table}

-- A slot as its users see it: free with the generation that it gives next, live with the one that it gave, or spent.
pub data Cell (X : Type 0) : Type 0 where
  Free : ℕ → Cell X
  Live : ℕ → X → Cell X
  Spent : Cell X

abbrev pub cell_of : {X : Type 0} → Slot X → Cell X
cell_of (slot.Free g) = Free g
cell_of (slot.Live g x) = Live g x
cell_of slot.Spent = Spent

abbrev pub cells : {X : Type 0} → Table X → List (Cell X)
cells t = map cell_of (vec_items t.slots)

-- what stands in the slot s; past the last slot nothing ever will
abbrev pub cell_at : {X : Type 0} → List (Cell X) → ℕ → Cell X
cell_at cs s = slice_index_or cs s Spent

-- what lives in a cell under the generation h
abbrev pub under : {X : Type 0} → Cell X → ℕ → Option X
under (Free g) h = None
under (Live g x) h = cond (g == h) (Some x) None
under Spent h = None

abbrev pub found : {X : Type 0} → List (Cell X) → ℕ → ℕ → Option X
found cs s g = under (cell_at cs s) g

abbrev pub is_free : {X : Type 0} → Cell X → Bool
is_free (Free g) = true
is_free (Live g x) = false
is_free Spent = false

abbrev pub is_live : {X : Type 0} → Cell X → Bool
is_live (Free g) = false
is_live (Live g x) = true
is_live Spent = false

-- how many slots can be used
abbrev pub frees : {X : Type 0} → List (Cell X) → ℕ
frees [] = 0
frees (c ∷ cs) = cond (is_free c) 1 0 + frees cs

-- in how many slots something lives
abbrev pub live_count : {X : Type 0} → List (Cell X) → ℕ
live_count [] = 0
live_count (c ∷ cs) = cond (is_live c) 1 0 + live_count cs

-- the cell, when what lives in it has gone
abbrev pub retired : {X : Type 0} → Cell X → Cell X
retired (Free g) = Free g
retired (Live g x) = cond (nat_lt g 4294967295) (Free (g + 1)) Spent
retired Spent = Spent

-- the generation that a slot gives next, where it gives one
abbrev pub next_given : {X : Type 0} → Cell X → Option ℕ
next_given (Free g) = Some g
next_given (Live g x) = None
next_given Spent = None

-- the generation under which something lives in a slot, where something does
abbrev pub live_under : {X : Type 0} → Cell X → Option ℕ
live_under (Free g) = None
live_under (Live g x) = Some g
live_under Spent = None

-- the generation that a slot gives next, 0 where it gives none
abbrev pub next_of : {X : Type 0} → Cell X → ℕ
next_of (Free g) = g
next_of (Live g x) = 0
next_of Spent = 0

-- the generation under which something lives in a slot, 0 where nothing does
abbrev pub live_of : {X : Type 0} → Cell X → ℕ
live_of (Free g) = 0
live_of (Live g x) = g
live_of Spent = 0

-- the cell, with f of what lives in it
abbrev pub viewed : {X Y : Type 0} → (X → Y) → Cell X → Cell Y
viewed f (Free g) = Free g
viewed f (Live g x) = Live g (f x)
viewed f Spent = Spent

-- what lives in a cell, under whatever generation
abbrev pub holds : {X : Type 0} → Cell X → Option X
holds (Free g) = None
holds (Live g x) = Some x
holds Spent = None

-- what lives in a cell was changed as R says; a cell in which nothing lives is as it was
abbrev pub CellChanged : {X : Type 0} → (X → X → Type 0) → Cell X → Cell X → Type 0
CellChanged R (Live g x) d = (y : _) × (d ≡ Live g y) × R x y
CellChanged R (Free g) d = d ≡ Free g
CellChanged R Spent d = d ≡ Spent

-- what lives in the slot s was changed as R says, and all else is as it was
abbrev pub ChangedBy : {X : Type 0} → (X → X → Type 0) → ℕ → List (Cell X) → List (Cell X) → Type 0
ChangedBy R s cs ds = (d : Cell _) × (ds ≡ slice_set cs s d) × CellChanged R (cell_at cs s) d
