-- The law of the driver, over every list of calls.
use Rattle.std.specs.Prelude.{◌≡◌, ℕ, ◌+◌, ◌-◌, ◌*◌, ◌≤◌, true, false, ◌⊎◌, List, [], ◌∷◌, ◌++◌, length, is_some, Some, Ok}
use Rattle.std.proofs.Math.Option as mathlib_option
use Rattle.model.specs.declared.ids.OpId.{OpId}
use Rattle.model.specs.Model.{find_op}
use Rattle.model.specs.Walk.{walk}
use Rattle.calls.specs.World.{Pick}
use Rattle.calls.specs.World as calls
use Rattle.calls.specs.After.{after}
use Rattle.law.specs.Lists.{In, Apart, member}
use Rattle.law.specs.Machine.{due}
use Rattle.law.specs.Law.{rewrites_of, mets_of, ever_of, last_answer}
use Rattle.rules.specs.declared.interface.IRStatus.{IRStatus}
use Rattle.rules.specs.declared.interface.Answer.TheVariants as answer
use Rattle.rules_next.specs.declared.interface.Fault.TheVariants as fault
use Rattle.rules_next.specs.declared.interface.Failure.{Failure}
use Rattle.rules_next.specs.declared.interface.Counts.{Counts}
use Rattle.rules_next.specs.declared.interface.Report.{Report}
use Rattle.rules.specs.Meaning.{Plan}
use Rattle.rules_next.specs.Meaning.{Meaning}
use Rattle.rules.specs.Setting.{Good, aimed, definers_in, inserted, ops_among}
use Rattle.rules_next.specs.Setting.{real}
use Rattle.rules.specs.Driver.{Room, model_of, marks_of}
use Rattle.rules_next.specs.Driver.{World}
use Rattle.rules_next.specs.Called.{Past, Called, Amid}
use Rattle.rules_next.specs.Rules.{Told, Step, Fails, Ran, Begun, Takes, state_in, convertible, first_one, operand_types, at_op, clear_env}

module _ {C : Type 0} (M : Meaning C) where
  -- a step, or one that closes
  abbrev pub Moves : World C → Told M → World C → Type 0
  Moves w t w' = Step M w t w' ⊎ ((f : Failure) × Fails M w f t w')

  -- none of the definers of x outside graph regions is due
  abbrev pub NoneDue : World C → OpId → Type 0
  NoneDue w x = (d : OpId) → In d (definers_in (model_of w.env) x) → due (real M) w.env (marks_of w.memory.states) d ≡ false

  -- it may be rewritten
  pub record Ready (w : World C) (x : OpId) : Type 0 where
    pub live : is_some (find_op (model_of w.env) x) ≡ true
    pub can_convert : convertible M w x ≡ true
    pub none_due : NoneDue w x

  -- the step takes the entry of x, which is queued and convertible
  pub record Tries (w : World C) (x : OpId) : Type 0 where
    pub rest : List OpId
    pub takes : Takes M w x rest
    pub queued : state_in M w x ≡ true
    pub can_convert : convertible M w x ≡ true

  -- its chain of first due definers has a k-th member for every k
  abbrev pub Endless : World C → OpId → Type 0
  Endless w x = (k : ℕ) → (y : OpId) × (member (first_one M w) k x ≡ mathlib_option.some y)

  -- Circle ends just the steps whose chain of first due definers never ends.
  pub record CircleExact (w : World C) : Type 0 where
    pub only_then : (f : Failure) (t : Told M) (w' : World C) → Fails M w f t w' → f.fault ≡ fault.Circle → (x : OpId) × (f ≡ at_op M x fault.Circle) × Tries w x × Endless w x
    pub no_step : (x : OpId) → Tries w x → Endless w x → (t : Told M) (w' : World C) → Step M w t w' → ⊥
    pub no_other : (x : OpId) → Tries w x → Endless w x → (f : Failure) (t : Told M) (w' : World C) → Fails M w f t w' → f ≡ at_op M x fault.Circle
    pub always_then : (x : OpId) → Tries w x → Endless w x → (t : Told M) × (w' : World C) × Fails M w (at_op M x fault.Circle) t w'

  -- n, the count of queued, is the number of different operations ever queued: at most n (n - 1) / 2 waits, and 2n + 9 waits entries taken
  pub record Few (ms : Past M) (c : Counts) : Type 0 where
    pub counted : c.queued ≡ length (ever_of {S = real M} ms)
    pub waits_few : 2 * c.waits ≤ c.queued * (c.queued - 1)
    pub taken_few : c.taken ≤ 2 * c.queued + 9 * c.waits

  -- rewritten, or not live, or its last answer is no
  abbrev pub Settled : Past M → World C → OpId → Type 0
  Settled ms w y = In y (rewrites_of ms) ⊎ ((is_some (find_op (model_of w.env) y) ≡ false) ⊎ (last_answer {S = real M} y ms ≡ mathlib_option.some false))

  -- what the conversion does with x, given the slots that its calls pick, and what these calls leave
  abbrev pub plan_of : World C → OpId → List Pick → Plan C
  plan_of w x ks = M.rewrite w.env.value (aimed w.env.world x) x (operand_types M w x) ks

  abbrev pub left_by : World C → OpId → List Pick → calls.World
  left_by w x ks = (after true (aimed w.env.world x) (plan_of w x ks).calls ks).world

  pub record Lawful : Type 0 where
    -- no operation is rewritten twice
    pub once : (ms : Past M) (w : World C) → Called M (Some ms) w → Apart (rewrites_of ms)
    -- and each is ready when it is rewritten, also where that ends in a fault
    pub ready : (ms : Past M) (w : World C) → Amid M ms w → (t : Told M) (w' : World C) → Moves w t w' → (x : OpId) → In x (rewrites_of t.moments) → Ready w x
    -- at Done, all that was met is settled: what the walk of `begin` met, and what the records of rewrites say was inserted
    pub complete : (ms : Past M) (w : World C) → Called M (Some ms) w → (budget size : ℕ) (room : Room) (r : Report) (s : IRStatus) (t : Told M) (w' : World C) → Ran M w budget size room r t w'
        → r.answer ≡ Ok (answer.Done s) → (y : OpId) → In y (mets_of (ms ++ t.moments)) → Settled (ms ++ t.moments) w' y
    pub walks : (w : World C) (root : OpId) (room : Room) (n : ℕ) (t : Told M) (w' : World C) → Begun M w root room (Ok n) t w' → mets_of t.moments ≡ ops_among (walk (model_of w.env) root.slot)
    pub inserts : (ms : Past M) (w : World C) → Amid M ms w → (t : Told M) (w' : World C) → Step M w t w' → (x : OpId) (ks : List Pick) → In x (rewrites_of t.moments) → t.picks ≡ ks ∷ []
        → mets_of t.moments ≡ ops_among (inserted (left_by w x ks).records)
    pub circle : (ms : Past M) (w : World C) → Amid M ms w → CircleExact w
    -- whatever a run answers, the counts that it reports are few
    pub few : (ms : Past M) (w : World C) → Called M (Some ms) w → (budget size : ℕ) (room : Room) (r : Report) (t : Told M) (w' : World C) → Ran M w budget size room r t w' → Few (ms ++ t.moments) r.counts
    -- and an accepted `begin` answers how many it queued
    pub begun : (w : World C) (root : OpId) (room : Room) (n : ℕ) (t : Told M) (w' : World C) → Good (clear_env M w) → Begun M w root room (Ok n) t w' → n ≡ length (ever_of {S = real M} t.moments)

-- for every meaning of a conversion of this type
abbrev pub DriverLaw : Type 0 → Type 0
DriverLaw C = (M : Meaning C) → Lawful M
