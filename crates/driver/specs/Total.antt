-- All that is counted.
use Rattle.std.specs.Prelude.{ℕ, ◌+◌}
use Rattle.rules_next.specs.declared.interface.Counts.{Counts}

abbrev pub total : Counts → ℕ
total c = c.queued + c.taken + c.rewritten + c.aside + c.waits + c.stale + c.questions
