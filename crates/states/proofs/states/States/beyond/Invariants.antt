use Rattle.std.proofs.Common.{◌≡◌, ◌-◌}
use Rattle.store.specs.Meaning.{meaning as model}
use Rattle.law.specs.Lists.{member}
use Rattle.law.specs.Machine.{first_due}
use Rattle.rules_next.specs.Setting.{real}
use Rattle.rules.specs.Driver.{marks_of}
use Rattle.states.specs.States.{states_in}
use Rattle.states.specs.Due.{at}
use Rattle.states.proofs.states.States.beyond.Given as goal

-- what is found from here is what is found from the start
abbrev pub invariant-loop : goal.invariant-loop
invariant-loop g l =
    let next = first_due (real g.C.DialectConversion.meaning) (at (model l.asked.store.now) l.asked.conversion.now) (marks_of (states_in l.self)) in
    member next (512 - l.counter) l.link ≡ member next 512 l.initial.link
