-- Two values are one just where they are equal.
use Rattle.std.proofs.Common.{◌≡◌, true, false, eqb, sym, refl, ap, ◌∙◌, inl, inr}
use Rattle.std.proofs.lemmas.Bool.{and_parts, and_from, eqb-true, eq-eqb, both_ways, cases_Bool}
use Rattle.model.specs.declared.ids.DefiningEntity.{DefiningEntity}
use Rattle.model.specs.declared.ids.DefiningEntity.TheVariants as definer
use Rattle.model.specs.declared.ids.Value.{Value}
use Rattle.model.specs.Calls.{same_definer, same_value}
use Rattle.rules.proofs.Reals.{same_is, same_self}

definer_self : (d : DefiningEntity) → same_definer d d ≡ true
definer_self (definer.Op o) = same_self o
definer_self (definer.Block b) = and_from (eqb b.slot b.slot) (eqb b.generation b.generation) (eq-eqb _ _ refl) (eq-eqb _ _ refl)

definer_is : (d e : DefiningEntity) → same_definer d e ≡ true → d ≡ e
definer_is (definer.Op o) (definer.Op p) h = ap definer.Op (same_is o p h)
definer_is (definer.Op o) (definer.Block b) h = absurd (both_ways false refl h)
definer_is (definer.Block b) (definer.Op o) h = absurd (both_ways false refl h)
definer_is (definer.Block c) (definer.Block d) h =
    let both = and_parts (eqb c.slot d.slot) (eqb c.generation d.generation) h in
    λ i. definer.Block (record { slot = eqb-true c.slot d.slot both.0 i; generation = eqb-true c.generation d.generation both.1 i })

pub value_self : (v : Value) → same_value v v ≡ true
value_self v = and_from (same_definer v.definer v.definer) (eqb v.index v.index) (definer_self v.definer) (eq-eqb _ _ refl)

pub value_is : (v u : Value) → same_value v u ≡ true → v ≡ u
value_is v u h =
    let both = and_parts (same_definer v.definer u.definer) (eqb v.index u.index) h in
    λ i. record { definer = definer_is v.definer u.definer both.0 i; index = eqb-true v.index u.index both.1 i }

-- a third value is not two that differ
pub value_apart : (x v u : Value) → same_value x v ≡ true → same_value u v ≡ false → same_value x u ≡ false
value_apart x v u h k = elim (cases_Bool (same_value x u)) [
  | inl t ↦ absurd (both_ways (same_value u v) k (ap (λ y. same_value y v) (sym (value_is x u t)) ∙ h))
  | inr f ↦ f
]

pub value_other : (x v u : Value) → same_value x v ≡ false → same_value u v ≡ true → same_value x u ≡ false
value_other x v u h k = elim (cases_Bool (same_value x u)) [
  | inl t ↦ absurd (both_ways (same_value x v) h (ap (λ y. same_value y v) (value_is x u t) ∙ k))
  | inr f ↦ f
]
