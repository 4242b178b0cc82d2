-- What questions are put to while operations and blocks are met.
use Rattle.store.specs.Meaning.{meaning as model}
use Rattle.rules.specs.Setting.{Env}
use Rattle.states.specs.Due.{at}
use Rattle.work.specs.declared.work.meeting.Setting.{Setting}

abbrev pub env_of : {C : Type 0} → Setting C → Env C
env_of s = at (model s.store.now) s.conversion.now
