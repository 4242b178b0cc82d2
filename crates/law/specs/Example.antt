-- A small setting: b uses a (once, twice, or each uses the other), and each of the two has a recipe. Operation 0 is b, 1 is a, 2 and 3 are what comes of a and b, 4 is the root.
use Rattle.std.specs.Prelude.{◌≡◌, ℕ, Bool, true, false, cond, List, [], ◌∷◌, length, ◌==◌, nat_eq}
use Rattle.law.specs.Lists.{keep, mem}
use Rattle.law.specs.Setting.{Setting}
use Rattle.law.specs.Machine.{Moment, State, Step, Reached}
use Rattle.law.specs.Law.{ever_of, Endless}

pub data Stage : Type 0 where
  at_first then-a then-b : Stage

pub data Shape : Type 0 where
  single double circle : Shape

abbrev pub lives : Stage → List ℕ
lives at_first = 4 ∷ 0 ∷ 1 ∷ []
lives then-a = 4 ∷ 0 ∷ 2 ∷ []
lives then-b = 4 ∷ 3 ∷ 2 ∷ []

abbrev pub gones : Stage → List ℕ
gones at_first = []
gones then-a = 1 ∷ []
gones then-b = 1 ∷ 0 ∷ []

abbrev pub user : Stage → ℕ
user at_first = 0
user then-a = 0
user then-b = 3

abbrev pub used : Stage → ℕ
used at_first = 1
used then-a = 2
used then-b = 2

abbrev pub operands : Shape → ℕ → List ℕ
operands single d = d ∷ []
operands double d = d ∷ d ∷ []
operands circle d = d ∷ []

abbrev pub back : Shape → List ℕ
back single = []
back double = []
back circle = 0 ∷ []

abbrev pub alive : Stage → ℕ → Bool
alive e x = mem nat_eq x (lives e)

abbrev pub definers_in : Shape → Stage → ℕ → List ℕ
definers_in h e x = keep (alive e) (cond (x == user e) (operands h (used e)) (cond (x == 1) (back h) []))

-- what can happen: a is rewritten, and then b
abbrev pub before : Bool → Stage
before false = at_first
before true = then-a

abbrev pub after : Bool → Stage
after false = then-a
after true = then-b

abbrev pub target : Bool → ℕ
target false = 1
target true = 0

abbrev pub made : Bool → List ℕ
made false = 2 ∷ []
made true = 3 ∷ []

abbrev pub example : Shape → Setting
example h = record {
  Op = ℕ;
  same = nat_eq;
  Env = Stage;
  Good = λ e. Unit {0};
  live = alive;
  convertible = λ e x. mem nat_eq x (0 ∷ 1 ∷ []);
  definers = definers_in h;
  Rewrite = λ e x d is. (m : Bool) × (before m ≡ e) × (target m ≡ x) × (after m ≡ d) × (made m ≡ is);
  Retype = λ e d. ⊥;
}

-- a run comes to its end with these numbers
abbrev pub Ends : Shape → ℕ → ℕ → ℕ → ℕ → Type 0
Ends h n taken rewrites waits =
    (ms : List (Moment (example h))) × (s : State (example h)) × Reached (example h) ms s × (s.worklist ≡ []) × (s.pending ≡ 0)
    × (length (ever_of ms) ≡ n) × (s.taken ≡ taken) × (s.rewrites ≡ rewrites) × (s.waits ≡ waits)

-- b(a), a: b waits, a and b are rewritten, a is stale. b(a, a), a: two are stale. a(b), b(a): a circle.
pub record Cases : Type 0 where
  pub one_use : Ends single 2 4 2 1
  pub two_uses : Ends double 2 5 2 1
  pub a_circle : (ms : List (Moment (example circle))) × (s : State (example circle)) × Reached (example circle) ms s × Endless (example circle) s 0
      × ((new : List (Moment (example circle))) (t : State (example circle)) → Step (example circle) s new t → ⊥)
