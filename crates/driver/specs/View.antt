-- The driver's world.
use Rattle.std.specs.Prelude.{◌≡◌, Bool, true, false, List, ◌∷◌, length, Ok, Err, Option, Result}
use Rattle.std.specs.Option.{option_to_list}
use Rattle.model.specs.declared.ids.OpId.{OpId}
use Rattle.model.specs.declared.ids.BlockId.{BlockId}
use Rattle.store.specs.declared.store.Store.{Store}
use Rattle.conversion.specs.Asked.{seen}
use Rattle.rules.specs.declared.interface.IRStatus.{IRStatus}
use Rattle.rules.specs.declared.interface.IRStatus.TheVariants as status
use Rattle.rules.specs.declared.interface.TrailRecord.{TrailRecord}
use Rattle.rules_next.specs.declared.interface.Failure.{Failure}
use Rattle.rules_next.specs.Meaning.{Meaning}
use Rattle.rules.specs.Driver.{Room}
use Rattle.rules_next.specs.Driver.{World}
use Rattle.rules_next.specs.Rules.{Told, Step, Fails}
use Rattle.histories.specs.Many.{kept}
use Rattle.work.specs.Work.{memory_of}
use Rattle.driver.specs.declared.driver.Driver.{Driver}

abbrev pub room : Driver → Room
room d = record { entries = d.entries; blocks = d.blocks }

-- was a record made since the beginning?
abbrev pub is_changed : IRStatus → Bool
is_changed status.Changed = true
is_changed status.Unchanged = false

-- a store, a conversion and a driver, with the memory that is lent
abbrev pub world_of : {C : Type 0} → Store → C → Driver → List OpId → List BlockId → World C
world_of s c d xs ys = record {
  env = record { world = seen s d.rewriter; value = c };
  memory = memory_of d.work xs ys (kept d.histories);
  counts = d.counts;
  steps = d.steps;
  phase = d.phase;
  changed = is_changed d.status;
  room = room d;
}

-- the memory is that of the beginning
pub record Lent (d : Driver) (xs : List OpId) (ys : List BlockId) : Type 0 where
  pub entries : length xs ≡ d.entries
  pub blocks : length ys ≡ d.blocks

-- with an entry for o before the others, which has just been taken
abbrev pub with_front : {C : Type 0} → World C → OpId → World C
with_front w o = record {
  env = w.env;
  memory = record { worklist = o ∷ w.memory.worklist; pending = w.memory.pending; states = w.memory.states; histories = w.memory.histories };
  counts = w.counts;
  steps = w.steps;
  phase = w.phase;
  changed = w.changed;
  room = w.room;
}

-- one step, which leaves a record of the trail or none, or closes
abbrev pub Stepped : {C : Type 0} (M : Meaning C) → World C → Result (Option TrailRecord) Failure → World C → Type 0
Stepped M w (Ok o) w' = (t : Told M) × Step M w t w' × (t.trail ≡ option_to_list o)
Stepped M w (Err f) w' = (t : Told M) × Fails M w f t w'
