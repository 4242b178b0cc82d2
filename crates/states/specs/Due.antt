-- What questions about operations are put to: a store and a conversion. The insertion point and the records play no part in them.
use Rattle.std.specs.Prelude.{[], Some, None, Option}
use Rattle.std.proofs.Math.Option as mathlib_option
use Rattle.model.specs.declared.points.OpInsertionPoint.TheVariants as point
use Rattle.model.specs.Model.{Model}
use Rattle.store.specs.Meaning.{meaning}
use Rattle.rules.specs.Setting.{Env}
use Rattle.states.specs.declared.due.Asked.{Asked}

abbrev pub at : {C : Type 0} → Model → C → Env C
at m c = record { world = record { model = m; point = point.Unset; records = [] }; value = c }

abbrev pub asked_of : {C : Type 0} → Asked C → Env C
asked_of a = at (meaning a.store.now) a.conversion.now

-- the same option, as code has it
abbrev pub plain : {X : Type 0} → mathlib_option.Option X → Option X
plain mathlib_option.none = None
plain (mathlib_option.some x) = Some x
