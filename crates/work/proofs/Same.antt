-- The equality that identities and records derive is that of the rules.
use Rattle.std.proofs.Common.{◌≡◌, ℕ, zero, suc, eqb, ◌&&◌, ◌||◌, List, [], ◌∷◌, sym, refl, ap, ◌∙◌}
use Rattle.std.proofs.Math.Dec.{eqb-zero-suc, eqb-suc-zero, eqb-suc-suc}
use Rattle.std.specs.List.{list_any}
use Rattle.model.specs.declared.ids.OpId.{OpId}
use Rattle.model.specs.declared.ids.BlockId.{BlockId}
use Rattle.model.specs.contracts.ids.OpIdPartialEq.TheImpl as op
use Rattle.calls.specs.declared.events.RecorderEvent.{RecorderEvent}
use Rattle.calls.specs.declared.events.RecorderEvent.TheVariants as event
use Rattle.calls.specs.contracts.events.RecorderEventPartialEq.TheImpl as records
use Rattle.rules.specs.Setting.{same_op, erases_block, block_erased}
use Rattle.work.specs.Waiting.{among}

pub any_among : (os : List OpId) (o : OpId) → list_any (λ p. (op.ghosts).eq p o) os ≡ among os o
any_among [] o = refl
any_among (p ∷ os) o = ap (λ b. same_op p o || b) (any_among os o)

turned : (a b : ℕ) → eqb a b ≡ eqb b a
turned zero zero = refl
turned zero (suc b) = eqb-zero-suc b ∙ sym (eqb-suc-zero b)
turned (suc a) zero = eqb-suc-zero a ∙ sym (eqb-zero-suc a)
turned (suc a) (suc b) = eqb-suc-suc a b ∙ turned a b ∙ sym (eqb-suc-suc b a)

erases_is : (e : RecorderEvent) (b : BlockId) → (records.ghosts).eq e (event.ErasedBlock b) ≡ erases_block b e
erases_is (event.InsertedOperation o) b = refl
erases_is (event.InsertedBlock c) b = refl
erases_is (event.ErasedOperation o) b = refl
erases_is (event.ErasedBlock c) b = λ i. turned c.slot b.slot i && turned c.generation b.generation i
erases_is (event.ErasedRegion r) b = refl
erases_is (event.ReplacedValueUses v t u) b = refl
erases_is (event.ValueTypeChanged v t u) b = refl
erases_is (event.UnlinkedOperation o p) b = refl

pub any_erased : (es : List RecorderEvent) (b : BlockId) → list_any (λ e. (records.ghosts).eq e (event.ErasedBlock b)) es ≡ block_erased es b
any_erased [] b = refl
any_erased (e ∷ es) b = λ i. erases_is e b i || any_erased es b i
