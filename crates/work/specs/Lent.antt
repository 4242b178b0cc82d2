-- Batches over the work with the memory that is lent to it.
use Rattle.std.specs.Prelude.{◌≡◌, ℕ, List, Option, Result}
use Rattle.model.specs.declared.ids.OpId.{OpId}
use Rattle.calls.specs.declared.events.RecorderEvent.{RecorderEvent}
use Rattle.rules_next.specs.declared.interface.Fault.{Fault}
use Rattle.rules_next.specs.Meaning.{Meaning}
use Rattle.rules.specs.Histories.{History}
use Rattle.rules.specs.Setting.{Env}
use Rattle.rules.specs.Driver.{Pending, Room}
use Rattle.rules_next.specs.Driver.{Load, Handled}
use Rattle.work.specs.declared.work.lent.Lent.{Lent}
use Rattle.work.specs.Work.{pending_in, Met}
use Rattle.work.specs.Batches.{HandledBy}

-- the same work and the same memory are lent
pub record Same (s s' : Lent) : Type 0 where
  pub work : s'.work.ghost_name ≡ s.work.ghost_name
  pub entries : s'.entries.ghost_name ≡ s.entries.ghost_name
  pub blocks : s'.blocks.ghost_name ≡ s.blocks.ghost_name
  pub queued : s'.queued.ghost_name ≡ s.queued.ghost_name

-- the blocks that are pending
abbrev pub pending_of : Lent → List Pending
pending_of s = pending_in s.work.now s.blocks.now

-- a batch F that meets at most n operations leads from the one to the other; r is how it ends
pub record MetBy {C : Type 0} {M : Meaning C} (F : Room → Load M → Handled M) (n : ℕ) (s s' : Lent) (r : Result (Unit {0}) Fault) : Type 0 where
  pub same : Same s s'
  pub met : Met F n s.work.now s.entries.now s.blocks.now s.queued.now s'.work.now s'.entries.now s'.blocks.now s'.queued.now r

-- the records es are handled as the rules say
pub record Handles {C : Type 0} (M : Meaning C) (e : Env C) (hand : Option OpId) (es : List RecorderEvent) (s : Lent) (hs : List History) (s' : Lent) (hs' : List History) (r : Result (Unit {0}) Fault) : Type 0 where
  pub same : Same s s'
  pub handled : HandledBy M e hand es s.work.now s.entries.now s.blocks.now hs s.queued.now s'.work.now s'.entries.now s'.blocks.now hs' s'.queued.now r
