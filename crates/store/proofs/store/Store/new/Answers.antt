use Rattle.std.proofs.Common.{sym, subst, rules}
use Rattle.model.specs.Sound.{Sound}
use Rattle.model.proofs.Blank.{blank_sound}
use Rattle.model.proofs.Kept.{keeping}
use Rattle.store.proofs.store.Store.new.Goals as goal

pub invariant_of-result : goal.invariant_of-result
invariant_of-result c =
    let h = c.in_ok-tables.ensures in
    record { good = ∣ record { sized = h.1; sound = subst Sound (sym h.0) (blank_sound 512 128 128) } ∣₁ }

pub returns-in_err-tables : goal.returns-in_err-tables
returns-in_err-tables c = record { empty = search rules; keeping = keeping }

pub returns : goal.returns
returns c = record { empty = c.in_ok-tables.ensures.0; keeping = keeping }
