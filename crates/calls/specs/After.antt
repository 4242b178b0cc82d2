-- A list of calls, one after the other.
use Rattle.std.specs.Prelude.{◌≡◌, Bool, true, List, [], ◌∷◌, ◌++◌, is_some, Some, None, Option}
use Rattle.model.specs.declared.ids.OpId.{OpId}
use Rattle.model.specs.declared.refusal.Refusal.{Refusal}
use Rattle.model.specs.Model.{Model, find_op}
use Rattle.calls.specs.declared.events.RecorderEvent.{RecorderEvent}
use Rattle.calls.specs.World.{World, Call, Pick, Reply}
use Rattle.calls.specs.Refusing.{refusal}
use Rattle.calls.specs.Perform.{events, allowing, perform, Could}

-- why the call is refused, if it is
abbrev pub answer : Bool → World → Call → Pick → Option Refusal
answer keeps w c k = allowing keeps w (events w c k) (refusal w c)

-- the world after the calls, and what they answered; the picks are used in turn, and the shorter list ends it
pub record After : Type 0 where
  pub world : World
  pub replies : List Reply

abbrev pub after : Bool → World → List Call → List Pick → After
after keeps w [] ks = record { world = w; replies = [] }
after keeps w (c ∷ cs) [] = record { world = w; replies = [] }
after keeps w (c ∷ cs) (k ∷ ks) = record {
  world = (after keeps (perform keeps w c k).world cs ks).world;
  replies = (perform keeps w c k).reply ∷ (after keeps (perform keeps w c k).world cs ks).replies;
}

-- the records that a call makes: none where it is refused
abbrev pub told : Option Refusal → List RecorderEvent → List RecorderEvent
told (Some e) es = []
told None es = es

abbrev pub trail : Bool → World → Call → Pick → List RecorderEvent
trail keeps w c k = told (answer keeps w c k) (events w c k)

-- the records that the calls make
abbrev pub trails : Bool → World → List Call → List Pick → List RecorderEvent
trails keeps w [] ks = []
trails keeps w (c ∷ cs) [] = []
trails keeps w (c ∷ cs) (k ∷ ks) = trail keeps w c k ++ trails keeps (perform keeps w c k).world cs ks

-- the slots picked can be used by the call, where it is accepted
abbrev pub CouldHere : Bool → World → Call → Pick → Type 0
CouldHere keeps w c k = answer keeps w c k ≡ None → Could w.model c k

-- there is a pick for each call, which can be used when its turn comes
abbrev pub CouldAll : Bool → World → List Call → List Pick → Type 0
CouldAll keeps w [] [] = Unit {0}
CouldAll keeps w [] (k ∷ ks) = ⊥
CouldAll keeps w (c ∷ cs) [] = ⊥
CouldAll keeps w (c ∷ cs) (k ∷ ks) = CouldHere keeps w c k × CouldAll keeps (perform keeps w c k).world cs ks

-- the operation is live and lies in a block
abbrev pub Placed : Model → OpId → Type 0
Placed m o = (is_some (find_op m o) ≡ true) × (is_some (m.home_of o.slot) ≡ true)
