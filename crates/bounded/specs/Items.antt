-- What a bounded list holds.
use Rattle.std.specs.Prelude.{ℕ, List, vec_items}
use Rattle.bounded.specs.declared.bounded.Bounded.{Bounded}

abbrev pub bounded_items : {X : Type 0} {n : ℕ} → Bounded X n → List X
bounded_items list = vec_items list.items
