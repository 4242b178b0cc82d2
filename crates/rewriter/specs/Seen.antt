-- What a rewriter and a store are together, and what an answer says.
use Rattle.std.specs.Prelude.{Bool, List, Ok, Err, Result}
use Rattle.model.specs.declared.points.OpInsertionPoint.{OpInsertionPoint}
use Rattle.model.specs.declared.refusal.Refusal.{Refusal}
use Rattle.store.specs.declared.store.Store.{Store}
use Rattle.store.specs.Meaning.{meaning}
use Rattle.calls.specs.declared.events.RecorderEvent.{RecorderEvent}
use Rattle.calls.specs.World.{World, Call, Reply, set_point, done, refused}
use Rattle.calls.specs.Perform.{Performed}
use Rattle.rewriter.specs.declared.rewriter.IRRewriter.{IRRewriter}

-- the world that they make, where `log` gives the records of the listener
abbrev pub world : {L : Type 0} → (L → List RecorderEvent) → Store → IRRewriter L → World
world log s r = record { model = meaning s; point = r.point; records = log r.listener }

-- the reply that an answer is, where `f` gives that of what was asked for
abbrev pub answered : {A : Type 0} → (A → Reply) → Result A Refusal → Reply
answered f (Ok x) = f x
answered f (Err e) = refused e

abbrev pub told : Result (Unit {0}) Refusal → Reply
told = answered (λ _. done)

-- the call leads from the store s and the rewriter r to t and q, with this reply
abbrev pub Does : {L : Type 0} → Bool → (L → List RecorderEvent) → Store → IRRewriter L → Call → Store → IRRewriter L → Reply → Type 0
Does keeps log s r c t q a = Performed keeps (world log s r) c (world log t q) a

-- the point was set, whatever the store is
abbrev pub PointSet : {L : Type 0} → Bool → (L → List RecorderEvent) → IRRewriter L → OpInsertionPoint → IRRewriter L → Type 0
PointSet keeps log r p t = (s : Store) → Does keeps log s r (set_point p) s t done
