-- What holds of every conversion, from its beginning on.
use Rattle.std.specs.Prelude.{◌≡◌, ℕ, ◌+◌, ◌-◌, ◌*◌, ◌≤◌, true, false, ◌⊎◌, List, ◌++◌, length, is_some, Ok}
use Rattle.std.proofs.Math.Option as mathlib_option
use Rattle.model.specs.declared.ids.OpId.{OpId}
use Rattle.model.specs.Model.{find_op}
use Rattle.law.specs.Lists.{In, Apart, member}
use Rattle.law.specs.Machine.{Moment, due}
use Rattle.law.specs.Law.{rewrites_of, mets_of, ever_of, last_answer}
use Rattle.rules.specs.declared.interface.IRStatus.{IRStatus}
use Rattle.rules.specs.declared.interface.Answer.{Answer}
use Rattle.rules.specs.declared.interface.Answer.TheVariants as answer
use Rattle.rules.specs.declared.interface.Failure.{Failure}
use Rattle.rules.specs.Meaning.{Meaning}
use Rattle.rules.specs.Setting.{real, Good, definers_in}
use Rattle.rules.specs.Driver.{World, Room, model_of, marks_of}
use Rattle.rules.specs.Rules.{Told, Step, Fails, Begun, Ran, convertible, first_one, beyond, tidied, has_work, done_world, clear_env}

module _ {C : Type 0} (M : Meaning C) where
  -- A world that is reached from an accepted beginning, with all that happened since, the oldest first.
  pub data Reaches : List (Moment (real M)) → World C → Type 0 where
    begins : {ms : List (Moment (real M))} {w' : World C} (w : World C) (root : OpId) (room : Room) (n : ℕ) (t : Told M) → Good (clear_env M w) → Begun M w root room (Ok n) t w' → ms ≡ t.moments → Reaches ms w'
    goes : {ms : List (Moment (real M))} {w' : World C} (ns : List (Moment (real M))) (v : World C) (t : Told M) → Reaches ns v → Step M (tidied M v) t w' → ms ≡ ns ++ t.moments → Reaches ms w'
    tidies : {ms : List (Moment (real M))} {w' : World C} (v : World C) → Reaches ms v → w' ≡ tidied M v → Reaches ms w'
    rests : {ms : List (Moment (real M))} {w' : World C} (v : World C) → Reaches ms v → w' ≡ done_world M v → Reaches ms w'

  -- its chain of first due definers has a k-th member for every k
  abbrev pub Endless : World C → OpId → Type 0
  Endless w x = (k : ℕ) → (y : OpId) × (member (first_one M w) k x ≡ mathlib_option.some y)

  -- n is the number of different operations ever queued, which the driver counts
  pub record Lawfully (ms : List (Moment (real M))) (w : World C) : Type 0 where
    -- no operation is rewritten twice
    pub once : Apart (rewrites_of ms)
    -- where one is rewritten, it is live and convertible, and none of its definers is due
    pub ready : (t : Told M) (w' : World C) → Step M (tidied M w) t w' → (x : OpId) → In x (rewrites_of t.moments)
        → (is_some (find_op (model_of w.env) x) ≡ true) × (convertible M w x ≡ true) × ((d : OpId) → In d (definers_in (model_of w.env) x) → due (real M) w.env (marks_of w.memory.states) d ≡ false)
    -- when no work is left, each operation that was met is rewritten, or not live, or its last answer is no
    pub complete : has_work M (tidied M w) ≡ false → (y : OpId) → In y (mets_of ms)
        → In y (rewrites_of ms) ⊎ ((is_some (find_op (model_of w.env) y) ≡ false) ⊎ (last_answer {S = real M} y ms ≡ mathlib_option.some false))
    pub counted : w.counts.queued ≡ length (ever_of {S = real M} ms)
    pub waits_few : 2 * w.counts.waits ≤ w.counts.queued * (w.counts.queued - 1)
    pub taken_few : w.counts.taken + length w.memory.worklist ≤ 2 * w.counts.queued + 9 * w.counts.waits
    -- 512 links decide whether following the first due definers ends
    pub circle : (x z : OpId) → is_some (find_op (model_of w.env) x) ≡ true → beyond M w x ≡ mathlib_option.some z → Endless w x
    pub no_circle : (x : OpId) → is_some (find_op (model_of w.env) x) ≡ true → beyond M w x ≡ mathlib_option.none → Endless w x → ⊥

  -- what holds where a fault ends the run, n being the number of different operations ever queued
  pub record ClosedLawfully (ms : List (Moment (real M))) (w : World C) : Type 0 where
    pub once : Apart (rewrites_of ms)
    pub waits_few : 2 * w.counts.waits ≤ length (ever_of {S = real M} ms) * (length (ever_of {S = real M} ms) - 1)
    pub taken_few : w.counts.taken ≤ 2 * length (ever_of {S = real M} ms) + 9 * w.counts.waits

  abbrev pub FaultsLawful : Type 0
  FaultsLawful = (ms : List (Moment (real M))) (w : World C) → Reaches ms w → (f : Failure) (t : Told M) (w' : World C) → Fails M (tidied M w) f t w' → ClosedLawfully (ms ++ t.moments) w'

  -- a run that does not fail leads on, and where it is done no work is left
  pub record RunsOn : Type 0 where
    pub reaches : (ms : List (Moment (real M))) (w : World C) → Reaches ms w → (budget size : ℕ) (room : Room) (a : Answer) (t : Told M) (w' : World C) → Ran M w budget size room (Ok a) t w' → Reaches (ms ++ t.moments) w'
    pub is_over : (w : World C) (budget size : ℕ) (room : Room) (s : IRStatus) (t : Told M) (w' : World C) → Ran M w budget size room (Ok (answer.Done s)) t w' → has_work M (tidied M w') ≡ false

-- for every meaning of a conversion of this type
abbrev pub DriverLaw : Type 0 → Type 0
DriverLaw C = (M : Meaning C) → RunsOn M × FaultsLawful M × ((ms : List (Moment (real M))) (w : World C) → Reaches M ms w → Lawfully M ms w)
