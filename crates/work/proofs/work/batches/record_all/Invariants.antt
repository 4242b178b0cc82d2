use Rattle.std.proofs.Common.{◌≡◌, drop}
use Rattle.histories.specs.Many.{kept}
use Rattle.work.specs.Batches.{record_all}
use Rattle.work.proofs.work.batches.record_all.Given as goal

abbrev pub invariant-loop-event : goal.invariant-loop-event
invariant-loop-event l = record_all (kept l.histories) (drop l.event-index l.events) ≡ record_all (kept l.initial.histories) l.events
