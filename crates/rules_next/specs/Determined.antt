-- The rules leave nothing open but the slots picked.
use Rattle.std.specs.Prelude.{◌≡◌, ℕ, Result, ◌≢◌}
use Rattle.model.specs.declared.ids.OpId.{OpId}
use Rattle.rules_next.specs.declared.interface.Report.{Report}
use Rattle.rules_next.specs.declared.interface.Failure.{Failure}
use Rattle.rules_next.specs.Meaning.{Meaning}
use Rattle.rules.specs.Driver.{Room}
use Rattle.rules_next.specs.Driver.{World}
use Rattle.rules_next.specs.Rules.{Told, Step, Fails, Ran, Begun}

-- of single steps
pub record StepsDetermined {C : Type 0} (M : Meaning C) : Type 0 where
  pub one_step : (w : World C) (t u : Told M) (v v' : World C) → Step M w t v → Step M w u v' → t.picks ≡ u.picks → (t ≡ u) × (v ≡ v')
  pub one_fault : (w : World C) (f g : Failure) (t u : Told M) (v v' : World C) → Fails M w f t v → Fails M w g u v' → t.picks ≡ u.picks → (f ≡ g) × (t ≡ u) × (v ≡ v')
  -- a step that closes is no other step
  pub not_both : (w : World C) (f : Failure) (t u : Told M) (v v' : World C) → Step M w t v → Fails M w f u v' → t.picks ≢ u.picks

-- and of the calls
pub record Determined {C : Type 0} (M : Meaning C) : Type 0 where
  pub steps : StepsDetermined M
  pub one_run : (w : World C) (budget size : ℕ) (room : Room) (r r' : Report) (t u : Told M) (v v' : World C) → Ran M w budget size room r t v → Ran M w budget size room r' u v' → t.picks ≡ u.picks
      → (r ≡ r') × (t ≡ u) × (v ≡ v')
  pub one_begin : (w : World C) (root : OpId) (room : Room) (r r' : Result ℕ Failure) (t u : Told M) (v v' : World C) → Begun M w root room r t v → Begun M w root room r' u v' → (r ≡ r') × (t ≡ u) × (v ≡ v')

abbrev pub RulesDetermined : Type 0 → Type 0
RulesDetermined C = (M : Meaning C) → Determined M
