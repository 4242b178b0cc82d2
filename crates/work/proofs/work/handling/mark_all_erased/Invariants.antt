use Rattle.std.proofs.Common.{◌≡◌, drop}
use Rattle.store.specs.Meaning.{meaning as model}
use Rattle.rules_next.specs.Driver.{mark_all_erased}
use Rattle.states.specs.States.{states_in}
use Rattle.work.proofs.work.handling.mark_all_erased.Given as goal

abbrev pub invariant-loop-event : goal.invariant-loop-event
invariant-loop-event l = mark_all_erased (model l.store) (states_in l.states) (drop l.event-index l.events) ≡ mark_all_erased (model l.store) (states_in l.initial.states) l.events
