-- What holds of every run.
use Rattle.std.specs.Prelude.{◌≡◌, ℕ, suc, ◌+◌, ◌-◌, ◌*◌, ◌<◌, ◌≤◌, Bool, true, false, cond, ◌⊎◌, List, [], ◌∷◌, ◌++◌, length}
use Rattle.std.proofs.Math.Option.{Option, none, some}
use Rattle.law.specs.Lists.{In, Apart, add_all, Follows, member}
use Rattle.law.specs.Setting.{Setting}
use Rattle.law.specs.Plain.{Plain, setting}
use Rattle.law.specs.Machine.{queued, Moment, met, asked, queues, rewrote, State, Step, Reached, due, first_due}

-- what f finds in each moment, in order
abbrev pub each : {S : Setting} → (Moment S → List S.Op) → List (Moment S) → List S.Op
each f [] = []
each f (m ∷ ms) = f m ++ each f ms

abbrev pub rewrite_of : {S : Setting} → Moment S → List S.Op
rewrite_of (met x) = []
rewrite_of (asked x b) = []
rewrite_of (queues x) = []
rewrite_of (rewrote x) = x ∷ []

abbrev pub met_of : {S : Setting} → Moment S → List S.Op
met_of (met x) = x ∷ []
met_of (asked x b) = []
met_of (queues x) = []
met_of (rewrote x) = []

abbrev pub queue_of : {S : Setting} → Moment S → List S.Op
queue_of (met x) = []
queue_of (asked x b) = []
queue_of (queues x) = x ∷ []
queue_of (rewrote x) = []

-- the operations rewritten, in order
abbrev pub rewrites_of : {S : Setting} → List (Moment S) → List S.Op
rewrites_of {S} ms = each {S = S} rewrite_of ms

-- the operations that the walk met or that an insertion record names
abbrev pub mets_of : {S : Setting} → List (Moment S) → List S.Op
mets_of {S} ms = each {S = S} met_of ms

abbrev pub queues_of : {S : Setting} → List (Moment S) → List S.Op
queues_of {S} ms = each {S = S} queue_of ms

-- the different operations ever queued
abbrev pub ever_of : {S : Setting} → List (Moment S) → List S.Op
ever_of {S} ms = add_all S.same [] (queues_of ms)

abbrev pub answer_in : {S : Setting} → S.Op → Moment S → Option Bool
answer_in y (met x) = none
answer_in {S} y (asked x b) = cond (S.same x y) (some b) none
answer_in y (queues x) = none
answer_in y (rewrote x) = none

abbrev pub or_else : Option Bool → Option Bool → Option Bool
or_else none o = o
or_else (some b) o = some b

-- the last answer about y
abbrev pub last_answer : {S : Setting} → S.Op → List (Moment S) → Option Bool
last_answer y [] = none
last_answer y (m ∷ ms) = or_else (last_answer y ms) (answer_in y m)

-- No operation is rewritten twice; where one is rewritten, it is live and convertible and none of its definers is due.
pub record Once (S : Setting) (ms : List (Moment S)) (s : State S) : Type 0 where
  pub once : Apart (rewrites_of ms)
  pub ready : (new : List (Moment S)) (t : State S) → Step S s new t → (x : S.Op) → In x (rewrites_of new)
      → (S.live s.env x ≡ true) × (S.convertible s.env x ≡ true) × ((d : S.Op) → In d (S.definers s.env x) → due S s.env s.marks d ≡ false)

-- n is the number of different operations ever queued: there are few waits, and few entries are taken.
pub record Few (S : Setting) (ms : List (Moment S)) (s : State S) : Type 0 where
  -- waits ≤ n (n - 1) / 2
  pub waits_few : 2 * s.waits ≤ length (ever_of ms) * (length (ever_of ms) - 1)
  pub taken_few : s.taken + length s.worklist ≤ 2 * length (ever_of ms) + 9 * s.waits

-- its chain of first due definers has a k-th member for every k
abbrev pub Endless : (S : Setting) → State S → S.Op → Type 0
Endless S s x = (k : ℕ) → (y : S.Op) × (member (first_due S s.env s.marks) k x ≡ some y)

-- Chains of first due definers: whether one has a member 512, itself counted as member 0, tells whether it ends.
-- A front entry with an endless one has no step (Circle); one that has due definers and whose chain ends waits.
pub record Chains (S : Setting) (s : State S) : Type 0 where
  pub ends : (x : S.Op) → S.live s.env x ≡ true → member (first_due S s.env s.marks) 512 x ≡ none
      → (ds : List S.Op) × Follows (first_due S s.env s.marks) x ds × (length ds < 512)
  pub never : (x z : S.Op) → S.live s.env x ≡ true → member (first_due S s.env s.marks) 512 x ≡ some z → Endless S s x
  pub not_both : (x : S.Op) (ds : List S.Op) → Follows (first_due S s.env s.marks) x ds → Endless S s x → ⊥
  pub stuck : (x : S.Op) (rest : List S.Op) → s.pending ≡ 0 → s.worklist ≡ x ∷ rest → S.live s.env x ≡ true → s.marks x ≡ queued → S.convertible s.env x ≡ true
      → Endless S s x → (new : List (Moment S)) (t : State S) → Step S s new t → ⊥
  pub goes : (x : S.Op) (rest : List S.Op) (d : S.Op) → s.pending ≡ 0 → s.worklist ≡ x ∷ rest → S.live s.env x ≡ true → s.marks x ≡ queued → S.convertible s.env x ≡ true
      → member (first_due S s.env s.marks) 512 x ≡ none → first_due S s.env s.marks x ≡ some d → (new : List (Moment S)) × (t : State S) × Step S s new t

-- When no work is left, each operation that was met is rewritten, or not live, or its last answer is no.
pub record Complete (S : Setting) (ms : List (Moment S)) (s : State S) : Type 0 where
  pub complete : s.worklist ≡ [] → s.pending ≡ 0 → (y : S.Op) → In y (mets_of ms)
      → In y (rewrites_of ms) ⊎ ((S.live s.env y ≡ false) ⊎ (last_answer y ms ≡ some false))

-- A fault with the front entry in hand ends the run. It may come before the entry's operation is rewritten or in its rewrite, and what that had queued till then counts.
pub record Closes (S : Setting) (s : State S) (new : List (Moment S)) (t : State S) : Type 0 where
  pub front : S.Op
  pub rest : List S.Op
  pub calm : s.pending ≡ 0
  pub is_front : s.worklist ≡ front ∷ rest
  pub at_most_it : (rewrites_of new ≡ [])
      ⊎ ((rewrites_of new ≡ front ∷ []) × (S.live s.env front ≡ true) × (s.marks front ≡ queued) × (S.convertible s.env front ≡ true) × (first_due S s.env s.marks front ≡ none))
  pub taken_one : t.taken ≡ suc s.taken
  pub no_wait : t.waits ≡ s.waits

-- what holds after such an end
pub record Closed (S : Setting) (ms : List (Moment S)) (s : State S) : Type 0 where
  pub closed_once : (new : List (Moment S)) (t : State S) → Closes S s new t → Apart (rewrites_of (ms ++ new))
  pub closed_ready : (new : List (Moment S)) (t : State S) → Closes S s new t → (x : S.Op) → In x (rewrites_of new)
      → (S.live s.env x ≡ true) × (S.convertible s.env x ≡ true) × ((d : S.Op) → In d (S.definers s.env x) → due S s.env s.marks d ≡ false)
  pub closed_waits : (new : List (Moment S)) (t : State S) → Closes S s new t → 2 * t.waits ≤ length (ever_of (ms ++ new)) * (length (ever_of (ms ++ new)) - 1)
  pub closed_taken : (new : List (Moment S)) (t : State S) → Closes S s new t → t.taken ≤ 2 * length (ever_of (ms ++ new)) + 9 * t.waits

-- what holds of every run over a setting
abbrev pub Lawful : Setting → Type 0
Lawful S = (ms : List (Moment S)) (s : State S) → Reached S ms s → Once S ms s × Complete S ms s × Few S ms s × Chains S s × Closed S ms s

-- For every setting. A statement over all settings is none of `Type 0`, so that a contract cannot cite it as it stands:
-- here the types are the caller's, and the relations are given by what they relate.
abbrev pub Law : Type 0 → Type 0 → Type 0 → Type 0 → Type 0
Law O E M T = (P : Plain O E M T) → Lawful (setting P)
