-- What the rules do not let through.
use Rattle.std.specs.Prelude.{◌≡◌, ℕ, ◌+◌, ◌<◌, ◌≤◌, true, false, List, [], ◌∷◌, length, Ok, ◌≢◌}
use Rattle.model.specs.declared.ids.OpId.{OpId}
use Rattle.calls.specs.World.{Pick}
use Rattle.law.specs.Lists.{In, Follows}
use Rattle.law.specs.Machine.{asked}
use Rattle.law.specs.Law.{rewrites_of}
use Rattle.rules.specs.declared.interface.Fate.TheVariants as fate
use Rattle.rules.specs.declared.interface.IRStatus.{IRStatus}
use Rattle.rules.specs.declared.interface.Answer.TheVariants as answer
use Rattle.rules_next.specs.declared.interface.Fault.TheVariants as fault
use Rattle.rules_next.specs.declared.interface.Counts.{Counts}
use Rattle.rules_next.specs.declared.interface.Report.{Report}
use Rattle.rules_next.specs.Meaning.{Meaning}
use Rattle.rules.specs.Driver.{Room, model_of}
use Rattle.rules_next.specs.Driver.{World}
use Rattle.rules_next.specs.Rules.{Told, Step, Fails, Ran, Takes, convertible, first_one, one_record, at_op, has_work}
use Rattle.rules_next.specs.Law.{Moves, NoneDue, Tries, plan_of, left_by}

-- the work done: entries taken, and questions about types
abbrev pub work_of : Counts → ℕ
work_of c = c.taken + c.questions

module _ {C : Type 0} (M : Meaning C) where
  -- store and value are what the conversion's list of calls leaves
  pub record Leaves (w : World C) (x : OpId) (t : Told M) (w' : World C) : Type 0 where
    pub picks : List Pick
    pub told : t.picks ≡ picks ∷ []
    pub model : model_of w'.env ≡ (left_by M w x picks).model
    pub value : w'.env.value ≡ (plan_of M w x picks).next

  pub record Calls (w : World C) (budget size : ℕ) (room : Room) (r : Report) (t : Told M) (w' : World C) : Type 0 where
    -- no Done while there is work
    pub done_early : (s : IRStatus) → r.answer ≡ Ok (answer.Done s) → has_work M w' ≢ true
    -- no Stopped while budget, steps and trail are left, and none without work
    pub stopped_early : r.answer ≡ Ok answer.Stopped → w'.steps < w.steps + budget → w'.steps < 1099511627776 → length t.trail < size → ⊥
    pub stopped_idle : r.answer ≡ Ok answer.Stopped → has_work M w' ≢ false
    -- no more work than the budget has steps, and no longer trail than asked for
    pub within_budget : work_of w'.counts ≤ work_of w.counts + budget
    pub within_trail : length t.trail ≤ size

  pub record Steps (w : World C) (t : Told M) (w' : World C) : Type 0 where
    -- no wait without a due definer
    pub waits_due : (x : OpId) → t.trail ≡ one_record M x fate.Waits → NoneDue M w x → ⊥
    pub waits_told : w.counts.waits < w'.counts.waits → (x : OpId) × (t.trail ≡ one_record M x fate.Waits)
    -- what can be rewritten is, at once
    pub rewrites_ready : (x : OpId) → Tries M w x → NoneDue M w x → rewrites_of t.moments ≡ x ∷ []
    -- nothing is set aside but on a no
    pub aside_told : w.counts.aside < w'.counts.aside → (x : OpId) × (t.trail ≡ one_record M x fate.SetAside)
    pub aside_asked : (x : OpId) → t.trail ≡ one_record M x fate.SetAside → (t.moments ≡ asked x false ∷ []) × (convertible M w x ≡ false)
    -- what takes an entry and rewrites nothing leaves store, records and value
    pub quiet_leaves : (x : OpId) (rest : List OpId) → Takes M w x rest → rewrites_of t.moments ≡ [] → w'.env ≡ w.env

  pub record Rejects : Type 0 where
    pub calls : (w : World C) (budget size : ℕ) (room : Room) (r : Report) (t : Told M) (w' : World C) → Ran M w budget size room r t w' → Calls w budget size room r t w'
    pub steps : (w : World C) (t : Told M) (w' : World C) → Step M w t w' → Steps w t w'
    -- no Circle where following the first due definers ends
    pub no_circle : (w : World C) (x : OpId) (ds : List OpId) → Follows (first_one M w) x ds → length ds < 512 → (t : Told M) (w' : World C) → Fails M w (at_op M x fault.Circle) t w' → ⊥
    -- no other store than the list's, also where the rewrite ends in a fault
    pub list_leaves : (w : World C) (t : Told M) (w' : World C) → Moves M w t w' → (x : OpId) → In x (rewrites_of t.moments) → Leaves w x t w'

abbrev pub RulesReject : Type 0 → Type 0
RulesReject C = (M : Meaning C) → Rejects M
