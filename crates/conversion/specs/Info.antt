-- What the operands had been, and what a look-up finds.
use Rattle.std.specs.Prelude.{ℕ, ◌/◌, cond, List, [], ◌∷◌, Some, None, Option, ◌==◌}
use Rattle.row.specs.Items.{row_items}
use Rattle.rules.specs.Histories.{History}
use Rattle.histories.specs.Kept.{histories}
use Rattle.conversion.specs.declared.operands_info.OperandsInfo.{OperandsInfo}

abbrev pub info_of : OperandsInfo → List History
info_of i = histories (row_items i.operands)

-- nothing where there is none
abbrev pub some_types : List ℕ → Option (List ℕ)
some_types [] = None
some_types (t ∷ ts) = Some (t ∷ ts)

abbrev pub or_before : Option ℕ → Option ℕ → Option ℕ
or_before None q = q
or_before (Some t) q = Some t

-- the last one
abbrev pub last_type : List ℕ → Option ℕ
last_type [] = None
last_type (t ∷ ts) = or_before (last_type ts) (Some t)

-- the last one of this type kind, which its high 16 bits give
abbrev pub of_kind : ℕ → ℕ → Option ℕ
of_kind k t = cond (t / 65536 == k) (Some t) None

abbrev pub last_of_kind : ℕ → List ℕ → Option ℕ
last_of_kind k [] = None
last_of_kind k (t ∷ ts) = or_before (last_of_kind k ts) (of_kind k t)
