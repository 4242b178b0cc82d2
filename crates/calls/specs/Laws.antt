-- What holds between the worlds before and after calls.
use Rattle.std.specs.Prelude.{◌≡◌, Bool, true, false, List, ◌++◌}
use Rattle.model.specs.declared.ids.OpId.{OpId}
use Rattle.model.specs.declared.ids.IRNode.{IRNode}
use Rattle.model.specs.declared.refusal.Refusal.{Refusal}
use Rattle.model.specs.Sound.{Sound, Among}
use Rattle.model.specs.Erasing.{is_node}
use Rattle.model.specs.Later.{Later}
use Rattle.calls.specs.declared.events.RecorderEvent.{RecorderEvent}
use Rattle.calls.specs.declared.events.RecorderEvent.TheVariants as event
use Rattle.calls.specs.World.{World, Call, Pick, refused, kept}
use Rattle.calls.specs.Perform.{erasing, perform}
use Rattle.calls.specs.After.{after, trail, trails, CouldHere, CouldAll, Placed}

-- from the world w to v, with the records es made on the way
pub record Lawful (keeps : Bool) (w v : World) (es : List RecorderEvent) : Type 0 where
  -- the store stays sound, and its identities went one way only
  pub sound : Sound v.model
  pub later : Later w.model v.model
  -- the records kept stand behind those that were
  pub records : v.records ≡ w.records ++ kept keeps es
  -- an operation that has come to lie in a block was recorded as inserted
  pub inserted : (o : OpId) → Placed v.model o → (Placed w.model o → ⊥) → Among (event.InsertedOperation o) es
  -- and what has gone, as erased
  pub gone : (n : IRNode) → is_node w.model n ≡ true → is_node v.model n ≡ false → Among (erasing n) es

-- of one call, and of a list of them
abbrev pub LawfulCall : Type 0
LawfulCall = (keeps : Bool) (w : World) (c : Call) (k : Pick) → Sound w.model → CouldHere keeps w c k → Lawful keeps w (perform keeps w c k).world (trail keeps w c k)

abbrev pub LawfulCalls : Type 0
LawfulCalls = (keeps : Bool) (w : World) (cs : List Call) (ks : List Pick) → Sound w.model → CouldAll keeps w cs ks → Lawful keeps w (after keeps w cs ks).world (trails keeps w cs ks)

-- a refused call leaves the world as it was
abbrev pub RefusedSame : Type 0
RefusedSame = (keeps : Bool) (w : World) (c : Call) (k : Pick) (e : Refusal) → (perform keeps w c k).reply ≡ refused e → (perform keeps w c k).world ≡ w
