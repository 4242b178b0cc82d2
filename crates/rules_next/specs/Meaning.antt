-- What a conversion means.
use Rattle.std.specs.Prelude.{◌≡◌, ℕ, Bool, true, List, Result}
use Rattle.model.specs.declared.ids.OpId.{OpId}
use Rattle.model.specs.Model.{Model}
use Rattle.calls.specs.World.{World, Pick}
use Rattle.calls.specs.After.{after, CouldAll}
use Rattle.rules.specs.declared.interface.ConversionFault.{ConversionFault}
use Rattle.rules.specs.Histories.{History}
use Rattle.rules.specs.Meaning.{Converted, Plan}

pub record Meaning (C : Type 0) : Type 0 where
  -- is the operation convertible, or the type?
  pub can_op : C → Model → OpId → Bool
  pub can_type : C → Model → ℕ → Bool
  pub convert : C → Model → ℕ → Converted C
  -- the operands are given in their order with the types that they had, and the slots that the calls pick
  pub rewrite : C → World → OpId → List History → List Pick → Plan C

-- From the value c and the world w to d and v, the operation o was rewritten, with this answer. The calls picked slots that they could use.
pub record Rewrote {C : Type 0} (M : Meaning C) (c : C) (w : World) (o : OpId) (hs : List History) (ks : List Pick) (d : C) (v : World) (r : Result (Unit {0}) ConversionFault) : Type 0 where
  pub could : CouldAll true w (M.rewrite c w o hs ks).calls ks
  pub leaves : v ≡ (after true w (M.rewrite c w o hs ks).calls ks).world
  pub next : d ≡ (M.rewrite c w o hs ks).next
  pub answer : r ≡ (M.rewrite c w o hs ks).answer
