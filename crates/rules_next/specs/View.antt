-- The driver's world as the law sees it.
use Rattle.std.specs.Prelude.{length}
use Rattle.law.specs.Machine.{State}
use Rattle.rules_next.specs.Meaning.{Meaning}
use Rattle.rules_next.specs.Setting.{real}
use Rattle.rules.specs.Driver.{model_of, marks_of, shed}
use Rattle.rules_next.specs.Driver.{World}

-- pending blocks with nothing to ask do not count
abbrev pub view : {C : Type 0} (M : Meaning C) → World C → State (real M)
view M w = record {
  env = w.env;
  worklist = w.memory.worklist;
  marks = marks_of w.memory.states;
  pending = length (shed (model_of w.env) w.memory.pending);
  taken = w.counts.taken;
  rewrites = w.counts.rewritten;
  waits = w.counts.waits;
}
