-- A batch of records.
use Rattle.std.specs.Prelude.{◌≡◌, ℕ, ◌+◌, ◌≤◌, Bool, true, false, List, [], ◌∷◌, length, Some, None, Option, Result}
use Rattle.model.specs.declared.ids.OpId.{OpId}
use Rattle.model.specs.declared.ids.BlockId.{BlockId}
use Rattle.calls.specs.declared.events.RecorderEvent.{RecorderEvent}
use Rattle.rules_next.specs.declared.interface.Fault.{Fault}
use Rattle.rules_next.specs.Meaning.{Meaning}
use Rattle.rules.specs.Histories.{History, recorded}
use Rattle.rules.specs.Setting.{Env}
use Rattle.rules_next.specs.Driver.{handle}
use Rattle.work.specs.declared.work.Work.{Work}
use Rattle.work.specs.Work.{memory_of, room_of, Fits, load_of, Leaves}

-- the histories after records, in order, and whether none of them would have passed a limit
pub record Recorded : Type 0 where
  pub histories : List History
  pub all : Bool

abbrev pub kept_or : List History → Option (List History) → (List History → Recorded) → Recorded
kept_or hs None more = record { histories = hs; all = false }
kept_or hs (Some ks) more = more ks

abbrev pub record_all : List History → List RecorderEvent → Recorded
record_all hs [] = record { histories = hs; all = true }
record_all hs (e ∷ es) = kept_or hs (recorded hs e) (λ ks. record_all ks es)

-- The records es are handled as the rules say, over the memory that is lent; r is how it ends.
pub record HandledBy {C : Type 0} (M : Meaning C) (e : Env C) (hand : Option OpId) (es : List RecorderEvent) (k : Work) (xs : List OpId) (ys : List BlockId) (hs : List History) (q : ℕ) (k' : Work) (xs' : List OpId) (ys' : List BlockId) (hs' : List History) (q' : ℕ) (r : Result (Unit {0}) Fault) : Type 0 where
  pub fits : Fits k' xs' ys'
  pub entries : length xs' ≡ length xs
  pub blocks : length ys' ≡ length ys
  pub few : q' ≤ q + length es
  pub leaves : Leaves (λ ms. handle M e (room_of xs ys) hand (load_of M (memory_of k xs ys hs) q ms) es) (memory_of k' xs' ys' hs') q' r
