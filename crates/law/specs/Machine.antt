-- The rules of the worklist, over any setting.
use Rattle.std.specs.Prelude.{◌≡◌, ℕ, suc, ◌+◌, ◌<◌, Bool, true, false, cond, ◌&&◌, List, [], ◌∷◌, ◌++◌, ◌≢◌}
use Rattle.std.proofs.Math.Option.{Option, none}
use Rattle.law.specs.Lists.{In, keep, first, Follows}
use Rattle.law.specs.Setting.{Setting}

pub data Mark : Type 0 where
  unmarked queued rewritten aside : Mark

-- An operation is asked only while it has one of these marks.
abbrev pub asking : Mark → Bool
asking unmarked = true
asking queued = true
asking rewritten = false
asking aside = false

abbrev pub is_unmarked : Mark → Bool
is_unmarked unmarked = true
is_unmarked queued = false
is_unmarked rewritten = false
is_unmarked aside = false

-- What happens, as far as the law speaks of it.
pub data Moment (S : Setting) : Type 0 where
  -- the walk met it, or an insertion record names it
  met : S.Op → Moment S
  asked : S.Op → Bool → Moment S
  -- it became queued
  queues : S.Op → Moment S
  rewrote : S.Op → Moment S

pub record State (S : Setting) : Type 0 where
  pub env : S.Env
  pub worklist : List S.Op
  -- the mark of each live operation; of others nothing is read
  pub marks : S.Op → Mark
  pub pending : ℕ
  pub taken : ℕ
  pub rewrites : ℕ
  pub waits : ℕ

abbrev pub put : (S : Setting) → (S.Op → Mark) → S.Op → Mark → S.Op → Mark
put S st x m y = cond (S.same x y) m (st y)

abbrev pub queue_all : (S : Setting) → (S.Op → Mark) → List S.Op → S.Op → Mark
queue_all S st [] = st
queue_all S st (x ∷ xs) = put S (queue_all S st xs) x queued

-- the same marks, as far as they are read
abbrev pub Agree : (S : Setting) → S.Env → (S.Op → Mark) → (S.Op → Mark) → Type 0
Agree S e st st' = (y : S.Op) → S.live e y ≡ true → st y ≡ st' y

-- the marks after a change of the environment: what was not live before has none
abbrev pub kept : (S : Setting) → S.Env → (S.Op → Mark) → S.Op → Mark
kept S e st y = cond (S.live e y) (st y) unmarked

-- An operation may be asked while it lives and is unmarked or queued; it is due if the answer is then yes.
abbrev pub askable : (S : Setting) → S.Env → (S.Op → Mark) → S.Op → Bool
askable S e st y = S.live e y && asking (st y)

abbrev pub due : (S : Setting) → S.Env → (S.Op → Mark) → S.Op → Bool
due S e st y = askable S e st y && S.convertible e y

abbrev pub dues : (S : Setting) → S.Env → (S.Op → Mark) → S.Op → List S.Op
dues S e st x = keep (due S e st) (S.definers e x)

abbrev pub first_due : (S : Setting) → S.Env → (S.Op → Mark) → S.Op → Option S.Op
first_due S e st x = first (dues S e st x)

-- questions
abbrev pub ask : (S : Setting) → S.Env → (S.Op → Mark) → S.Op → List (Moment S)
ask S e st y = cond (askable S e st y) (asked y (S.convertible e y) ∷ []) []

abbrev pub ask_all : (S : Setting) → S.Env → (S.Op → Mark) → List S.Op → List (Moment S)
ask_all S e st [] = []
ask_all S e st (y ∷ ys) = ask S e st y ++ ask_all S e st ys

-- the definers of each of a list
abbrev pub ask_along : (S : Setting) → S.Env → (S.Op → Mark) → List S.Op → List (Moment S)
ask_along S e st [] = []
ask_along S e st (x ∷ xs) = ask_all S e st (S.definers e x) ++ ask_along S e st xs

abbrev pub queue_each : (S : Setting) → List S.Op → List (Moment S)
queue_each S [] = []
queue_each S (y ∷ ys) = queues y ∷ queue_each S ys

-- Operations that the walk meets, or that insertion records name, in order: each that is due and not queued gets an entry.
abbrev pub newly : (S : Setting) → S.Env → (S.Op → Mark) → S.Op → Bool
newly S e st y = S.live e y && is_unmarked (st y) && S.convertible e y

abbrev pub mark_new : (S : Setting) → S.Env → (S.Op → Mark) → S.Op → S.Op → Mark
mark_new S e st y = cond (newly S e st y) (put S st y queued) st

abbrev pub lay_new : (S : Setting) → S.Env → (S.Op → Mark) → S.Op → List S.Op
lay_new S e st y = cond (newly S e st y) (y ∷ []) []

abbrev pub mark_all : (S : Setting) → S.Env → (S.Op → Mark) → List S.Op → S.Op → Mark
mark_all S e st [] = st
mark_all S e st (y ∷ ys) = mark_all S e (mark_new S e st y) ys

abbrev pub lay_all : (S : Setting) → S.Env → (S.Op → Mark) → List S.Op → List S.Op
lay_all S e st [] = []
lay_all S e st (y ∷ ys) = lay_new S e st y ++ lay_all S e (mark_new S e st y) ys

abbrev pub meet_all : (S : Setting) → S.Env → (S.Op → Mark) → List S.Op → List (Moment S)
meet_all S e st [] = []
meet_all S e st (y ∷ ys) = met y ∷ ask S e st y ++ queue_each S (lay_new S e st y) ++ meet_all S e (mark_new S e st y) ys

-- how many of a list get their first mark, as one after another is queued
abbrev pub fresh : (S : Setting) → (S.Op → Mark) → List S.Op → ℕ
fresh S st [] = 0
fresh S st (y ∷ ys) = cond (is_unmarked (st y)) 1 0 + fresh S (put S st y queued) ys

-- the marks while x is rewritten
abbrev pub during : (S : Setting) → S.Env → (S.Op → Mark) → S.Op → S.Op → Mark
during S e st x = put S (kept S e st) x unmarked

pub data Step (S : Setting) (s : State S) : List (Moment S) → State S → Type 0 where
  -- a type question
  retype : (e : S.Env) (st : S.Op → Mark) (p : ℕ) → 0 < s.pending → S.Retype s.env e → Agree S e st (kept S s.env s.marks)
      → Step S s []
      (record { env = e; worklist = s.worklist; marks = st; pending = p; taken = s.taken; rewrites = s.rewrites; waits = s.waits })
  -- the front entry is not live, or not queued
  stale : (x : S.Op) (rest : List S.Op) (st : S.Op → Mark) → s.pending ≡ 0 → s.worklist ≡ x ∷ rest
      → (S.live s.env x ≡ true → s.marks x ≢ queued) → Agree S s.env st s.marks
      → Step S s []
      (record { env = s.env; worklist = rest; marks = st; pending = 0; taken = suc s.taken; rewrites = s.rewrites; waits = s.waits })
  -- it is not convertible
  sets_aside : (x : S.Op) (rest : List S.Op) (st : S.Op → Mark) → s.pending ≡ 0 → s.worklist ≡ x ∷ rest
      → S.live s.env x ≡ true → s.marks x ≡ queued → S.convertible s.env x ≡ false → Agree S s.env st (put S s.marks x aside)
      → Step S s (asked x false ∷ [])
      (record { env = s.env; worklist = rest; marks = st; pending = 0; taken = suc s.taken; rewrites = s.rewrites; waits = s.waits })
  -- it has due definers, and the chain of first due definers, d and then ds, ends
  wait : (x d : S.Op) (rest ds : List S.Op) (st : S.Op → Mark) → s.pending ≡ 0 → s.worklist ≡ x ∷ rest
      → S.live s.env x ≡ true → s.marks x ≡ queued → S.convertible s.env x ≡ true
      → Follows (first_due S s.env s.marks) x (d ∷ ds)
      → Agree S s.env st (queue_all S s.marks (dues S s.env s.marks x))
      → Step S s (asked x true ∷ ask_along S s.env s.marks (x ∷ d ∷ ds) ++ queue_each S (dues S s.env s.marks x ++ x ∷ []))
      (record { env = s.env; worklist = dues S s.env s.marks x ++ x ∷ rest; marks = st; pending = 0; taken = suc s.taken; rewrites = s.rewrites; waits = suc s.waits })
  -- it has none
  rewrite : (x : S.Op) (rest is : List S.Op) (e : S.Env) (st : S.Op → Mark) (p : ℕ) → s.pending ≡ 0 → s.worklist ≡ x ∷ rest
      → S.live s.env x ≡ true → s.marks x ≡ queued → S.convertible s.env x ≡ true
      → first_due S s.env s.marks x ≡ none
      → S.Rewrite s.env x e is
      → Agree S e st (put S (mark_all S e (during S s.env s.marks x) is) x rewritten)
      → Step S s (asked x true ∷ ask_all S s.env s.marks (S.definers s.env x) ++ rewrote x ∷ meet_all S e (during S s.env s.marks x) is)
      (record { env = e; worklist = rest ++ lay_all S e (during S s.env s.marks x) is; marks = st; pending = p; taken = suc s.taken; rewrites = suc s.rewrites; waits = s.waits })

-- A state that is reached, with all that has happened, the oldest first.
pub data Reached (S : Setting) : List (Moment S) → State S → Type 0 where
  -- the walk has met ws
  begun : (e : S.Env) (ws : List S.Op) (st : S.Op → Mark) (p : ℕ) → S.Good e → ((y : S.Op) → In y ws → S.live e y ≡ true)
      → Agree S e st (mark_all S e (λ y. unmarked) ws)
      → Reached S (meet_all S e (λ y. unmarked) ws)
      (record { env = e; worklist = lay_all S e (λ y. unmarked) ws; marks = st; pending = p; taken = 0; rewrites = 0; waits = 0 })
  more : {ms new : List (Moment S)} {s t : State S} → Reached S ms s → Step S s new t → Reached S (ms ++ new) t
