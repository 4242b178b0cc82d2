-- Lists of `begin` and `run` calls.
use Rattle.std.specs.Prelude.{◌≡◌, ℕ, true, false, List, ◌++◌, Some, None, Ok, Err, Option}
use Rattle.model.specs.declared.ids.OpId.{OpId}
use Rattle.law.specs.Machine.{Moment}
use Rattle.rules.specs.declared.interface.Phase.TheVariants as phase
use Rattle.rules_next.specs.declared.interface.Failure.{Failure}
use Rattle.rules_next.specs.declared.interface.Report.{Report}
use Rattle.rules_next.specs.Meaning.{Meaning}
use Rattle.rules.specs.Setting.{Env, Good}
use Rattle.rules_next.specs.Setting.{real}
use Rattle.rules.specs.Driver.{Pending, Memory, Room}
use Rattle.rules_next.specs.Driver.{World}
use Rattle.rules_next.specs.Rules.{Told, Run, Ran, Begun, tidied, runs, clear_env, no_counts}

module _ {C : Type 0} (M : Meaning C) where
  -- what happened, the oldest first
  abbrev pub Past : Type 0
  Past = List (Moment (real M))

  -- a new driver: never begun, and nothing counted, whatever it is lent
  abbrev pub new_world : Env C → Memory → Room → World C
  new_world e y room = record { env = e; memory = y; counts = no_counts; steps = 0; phase = phase.NeverBegun; changed = false; room = room }

  -- Between two calls store, conversion and lent memory (entries and pending blocks) may be changed in any way; the rest is the driver's own.
  abbrev pub touched : World C → Env C → List OpId → List Pending → World C
  touched w e os ps = record {
    env = e;
    memory = record { worklist = os; pending = ps; states = w.memory.states; histories = w.memory.histories };
    counts = w.counts;
    steps = w.steps;
    phase = w.phase;
    changed = w.changed;
    room = w.room;
  }

  -- and then more happened
  abbrev pub longer : Option Past → Past → Option Past
  longer None new = None
  longer (Some ms) new = Some (ms ++ new)

  -- A list of calls leads from a new driver to this world. With it goes what happened since the last accepted `begin`: none where there was none, or where something was touched since.
  pub data Called : Option Past → World C → Type 0 where
    is_new : {o : Option Past} {w' : World C} (e : Env C) (y : Memory) (room : Room) → o ≡ None → w' ≡ new_world e y room → Called o w'
    is_touched : {o : Option Past} {w' : World C} (before : Option Past) (w : World C) (e : Env C) (os : List OpId) (ps : List Pending) → Called before w
        → o ≡ None → w' ≡ touched w e os ps → Called o w'
    begin_refused : {o : Option Past} {w' : World C} (w : World C) (root : OpId) (room : Room) (f : Failure) (t : Told M) → Called o w
        → Begun M w root room (Err f) t w' → Called o w'
    begin_accepted : {o : Option Past} {w' : World C} (before : Option Past) (w : World C) (root : OpId) (room : Room) (n : ℕ) (t : Told M) → Called before w
        → Good (clear_env M w) → Begun M w root room (Ok n) t w' → o ≡ Some t.moments → Called o w'
    run_answered : {o : Option Past} {w' : World C} (before : Option Past) (w : World C) (budget size : ℕ) (room : Room) (r : Report) (t : Told M) → Called before w
        → Ran M w budget size room r t w' → o ≡ longer before t.moments → Called o w'

  -- a world in which a `run` of such a list is about to take a step
  pub data Amid : Past → World C → Type 0 where
    amid : {ms : Past} {w : World C} (before : Past) (u v : World C) (budget size n : ℕ) (room : Room) (t : Told M) → Called (Some before) u → runs M u room ≡ true
        → Run M u budget size t n v → ms ≡ before ++ t.moments → w ≡ tidied M v → Amid ms w
