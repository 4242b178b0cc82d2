-- The derived equality is that of the specs, and equal means identical.
use Rattle.std.proofs.Common.{◌≡◌, ℕ, true, ◌&&◌, eqb, refl, ap, arith}
use Rattle.std.proofs.lemmas.Bool.{and_parts, eqb-true}
use Rattle.model.specs.declared.ids.OpId.{OpId}
use Rattle.model.specs.declared.ids.BlockId.{BlockId}
use Rattle.model.specs.declared.ids.Value.{Value}
use Rattle.model.specs.declared.ids.DefiningEntity.{DefiningEntity}
use Rattle.model.specs.declared.ids.DefiningEntity.TheVariants as definer
use Rattle.model.specs.contracts.ids.OpIdPartialEq.TheImpl as op
use Rattle.model.specs.contracts.ids.BlockIdPartialEq.TheImpl as block
use Rattle.model.specs.contracts.ids.DefiningEntityPartialEq.TheImpl as entity
use Rattle.model.specs.contracts.ids.ValuePartialEq.TheImpl as value
use Rattle.model.specs.Calls.{same_definer, same_value}

pub definer_eq : (a b : DefiningEntity) → (entity.ghosts).eq a b ≡ same_definer a b
definer_eq (definer.Op o) (definer.Op p) = refl
definer_eq (definer.Op o) (definer.Block b) = refl
definer_eq (definer.Block b) (definer.Op o) = refl
definer_eq (definer.Block b) (definer.Block c) = refl

pub value_eq : (v w : Value) → (value.ghosts).eq v w ≡ same_value v w
value_eq v w = ap (λ b. b && eqb v.index w.index) (definer_eq v.definer w.definer)

pub op_is : (o p : OpId) → (op.ghosts).eq o p ≡ true → o ≡ p
op_is o p e =
    let h = and_parts (eqb o.slot p.slot) (eqb o.generation p.generation) e in
    λ i. record { slot = eqb-true o.slot p.slot h.0 i; generation = eqb-true o.generation p.generation h.1 i }

pub block_is : (b c : BlockId) → (block.ghosts).eq b c ≡ true → b ≡ c
block_is b c e =
    let h = and_parts (eqb b.slot c.slot) (eqb b.generation c.generation) e in
    λ i. record { slot = eqb-true b.slot c.slot h.0 i; generation = eqb-true b.generation c.generation h.1 i }

pub definer_is : (a b : DefiningEntity) → (entity.ghosts).eq a b ≡ true → a ≡ b
definer_is (definer.Op o) (definer.Op p) e = ap definer.Op (op_is o p e)
definer_is (definer.Op o) (definer.Block b) e = let z : ◌≡◌ {A = ℕ} 0 1 = cc in absurd (omega arith)
definer_is (definer.Block b) (definer.Op o) e = let z : ◌≡◌ {A = ℕ} 0 1 = cc in absurd (omega arith)
definer_is (definer.Block b) (definer.Block c) e = ap definer.Block (block_is b c e)

pub value_is : (v w : Value) → (value.ghosts).eq v w ≡ true → v ≡ w
value_is v w e =
    let h = and_parts ((entity.ghosts).eq v.definer w.definer) (eqb v.index w.index) e in
    λ i. record { definer = definer_is v.definer w.definer h.0 i; index = eqb-true v.index w.index h.1 i }
