-- Few waits.
use Rattle.std.proofs.Common.{◌≡◌, ℕ, zero, suc, ◌+◌, ◌-◌, ◌*◌, ◌≤◌, true, ◌⊎◌, List, [], ◌∷◌, ◌++◌, length, sym, refl, ap, ◌∙◌, subst, inl, inr, mul-le-mul_left, arith, length-append}
use Rattle.std.proofs.lemmas.Bool.{both_ways}
use Rattle.law.specs.Lists.{In, Follows}
use Rattle.law.specs.Setting.{Setting}
use Rattle.law.specs.Laws.{Laws}
use Rattle.law.specs.Machine.{Mark, queued, asking, Moment, State, due, dues, first_due, queue_all, Agree, Step, retype, stale, sets_aside, wait, rewrite, Reached, begun, more}
use Rattle.law.specs.Law.{rewrites_of, ever_of}
use Rattle.law.proofs.Lists.{apart_append, in_cases, fits, first_some}
use Rattle.law.proofs.Moments.{ever_grows}
use Rattle.law.proofs.Chains.{Came, came_apart}
use Rattle.law.proofs.Marks.{un_q, q_r, op_dec, queue_in, queue_out, in_dues}
use Rattle.law.proofs.Circle.{first_due_lem, due_same, first_same}
use Rattle.law.proofs.Once.{Marked, marked, rewrites_few}

-- A streak of waits is under way: `pre` waited, the last first, and each had the next one as its first due definer, down to the front entry.
pub record Under (S : Setting) (s : State S) (pre : List S.Op) : Type 0 where
  pub front : S.Op
  pub rest : List S.Op
  pub is_front : s.worklist ≡ front ∷ rest
  pub calm : s.pending ≡ 0
  pub live : S.live s.env front ≡ true
  pub queues : s.marks front ≡ queued
  pub converts : S.convertible s.env front ≡ true
  pub came : Came (first_due S s.env s.marks) front pre
  pub on : List S.Op
  pub ends : Follows (first_due S s.env s.marks) front on
  pub waited : (y : S.Op) → In y pre → (S.live s.env y ≡ true) × (s.marks y ≡ queued)

pub record Streak (S : Setting) (ms : List (Moment S)) (s : State S) : Type 0 where
  pub pre : List S.Op
  pub under : (pre ≡ []) ⊎ Under S s pre
  pub few : 2 * s.waits + s.rewrites * suc s.rewrites ≤ 2 * (s.rewrites * length (ever_of ms)) + 2 * length pre

pub square : (m : ℕ) → m ≤ m * m
square zero = omega arith
square (suc m) = omega arith

square3 : (m : ℕ) → 3 * m ≤ m * m + 2
square3 zero = omega arith
square3 (suc m) = omega (arith, square m)

sum_rests : (w r n : ℕ) → r ≤ n → 2 * w + r * suc r ≤ 2 * (r * n) → 2 * w + n ≤ n * n
sum_rests w r n l h = go (n - r) (omega arith)
  where
    go : (m : ℕ) → n ≡ r + m → 2 * w + n ≤ n * n
    go m e =
        let h' : 2 * w + r * suc r ≤ 2 * (r * (r + m)) = subst (λ z. 2 * w + r * suc r ≤ 2 * (r * z)) e h in
        subst (λ z. 2 * w + z ≤ z * z) (sym e) (omega (arith, h', square m))

sum_runs : (w r n k : ℕ) → r + suc k ≤ n → 2 * w + r * suc r ≤ 2 * (r * n) + 2 * k → 2 * w + n ≤ n * n
sum_runs w r n k l h = go (n - r) (omega arith) (omega arith)
  where
    go : (m : ℕ) → n ≡ r + m → suc k ≤ m → 2 * w + n ≤ n * n
    go m e b =
        let h' : 2 * w + r * suc r ≤ 2 * (r * (r + m)) + 2 * k = subst (λ z. 2 * w + r * suc r ≤ 2 * (r * z) + 2 * k) e h in
        subst (λ z. 2 * w + z ≤ z * z) (sym e) (omega (arith, h', square3 m))

-- the same as a product
pub halves : (w n : ℕ) → 2 * w + n ≤ n * n → 2 * w ≤ n * (n - 1)
halves w zero h = omega arith
halves w (suc m) h =
    let e : suc m - 1 ≡ m = omega arith in
    rw e (omega arith)

-- marks after a wait
module _ (S : Setting) (L : Laws S) (e : S.Env) (st st' : S.Op → Mark) (x : S.Op) (a : Agree S e st' (queue_all S st (dues S e st x))) where
  pub wait_queued : (y : S.Op) → S.live e y ≡ true → In y (dues S e st x) → st' y ≡ queued
  wait_queued y l i = a y l ∙ queue_in S L st (dues S e st x) y i

  pub wait_other : (y : S.Op) → S.live e y ≡ true → (In y (dues S e st x) → ⊥) → st' y ≡ st y
  wait_other y l ni = a y l ∙ queue_out S L st (dues S e st x) y ni

  pub wait_stays : (y : S.Op) → S.live e y ≡ true → st y ≡ queued → st' y ≡ queued
  wait_stays y l q = elim (op_dec S L y (dues S e st x)) [ inl i ↦ wait_queued y l i | inr ni ↦ wait_other y l ni ∙ q ]

  pub wait_due : due S e st' ≡ due S e st
  wait_due = due_same S L e st st' (λ y l. elim (op_dec S L y (dues S e st x)) [
    | inl i ↦ ap asking (wait_queued y l i) ∙ sym (in_dues S L e st x y i).2
    | inr ni ↦ ap asking (wait_other y l ni)
  ])

  pub wait_first : first_due S e st' ≡ first_due S e st
  wait_first = first_same S L e st st' wait_due

module _ (S : Setting) (L : Laws S) where
  -- the front entry, those that waited for it and those rewritten are different
  room : (ms : List (Moment S)) (s : State S) → Marked S L ms s → (x : S.Op) (pre on : List S.Op) → S.live s.env x ≡ true → s.marks x ≡ queued
      → Came (first_due S s.env s.marks) x pre → Follows (first_due S s.env s.marks) x on
      → ((y : S.Op) → In y pre → (S.live s.env y ≡ true) × (s.marks y ≡ queued)) → s.rewrites + suc (length pre) ≤ length (ever_of ms)
  room ms s m x pre on lx qx c f wt =
      let all : (y : S.Op) → In y (x ∷ pre) → (S.live s.env y ≡ true) × (s.marks y ≡ queued) =
      λ y i. elim i [ inl e ↦ (ap (S.live s.env) e ∙ lx, ap s.marks e ∙ qx) | inr j ↦ wt y j ] in
      let k = fits ((x ∷ pre) ++ rewrites_of ms) (ever_of ms)
      (apart_append (x ∷ pre) (rewrites_of ms) (came_apart (first_due S s.env s.marks) x pre on c f) m.once (λ y i j. elim (m.done y j) [
        | inl g ↦ both_ways _ (L.gone_dead s.env y g) (all y i).0
        | inr r ↦ q_r _ (all y i).1 r.1
      ]))
      (λ y i. elim (in_cases y (x ∷ pre) (rewrites_of ms) i) [
        | inl j ↦ let r = all y j in m.marked_ever y r.0 (λ u. un_q _ u r.1)
        | inr j ↦ m.done_ever y j
      ]) in
      omega (arith, k, length-append (x ∷ pre) (rewrites_of ms), m.count)

  under_room : (ms : List (Moment S)) (s : State S) → Marked S L ms s → (pre : List S.Op) → Under S s pre → s.rewrites + suc (length pre) ≤ length (ever_of ms)
  under_room ms s m pre u = room ms s m u.front pre u.on u.live u.queues u.came u.ends u.waited

  heads : (x y : S.Op) (us vs zs : List S.Op) → zs ≡ x ∷ us → zs ≡ y ∷ vs → x ≡ y
  heads x y us vs zs d e = cc

  -- what is known of those that waited, once the front entry is at hand
  behind : (s : State S) (pre : List S.Op) (x : S.Op) (rest : List S.Op) → s.worklist ≡ x ∷ rest → (pre ≡ []) ⊎ Under S s pre
      → Came (first_due S s.env s.marks) x pre × ((y : S.Op) → In y pre → (S.live s.env y ≡ true) × (s.marks y ≡ queued))
  behind s pre x rest w (inl e) = subst (λ zs. Came (first_due S s.env s.marks) x zs × ((y : S.Op) → In y zs → (S.live s.env y ≡ true) × (s.marks y ≡ queued))) (sym e) (tt, λ y i. absurd i)
  behind s pre x rest w (inr u) =
      (subst (λ z. Came (first_due S s.env s.marks) z pre) (heads u.front x u.rest rest s.worklist u.is_front w) u.came, u.waited)

  rest_few : (ms new : List (Moment S)) (s : State S) (k : Streak S ms s) → k.pre ≡ [] → 2 * s.waits + s.rewrites * suc s.rewrites ≤ 2 * (s.rewrites * length (ever_of (ms ++ new))) + 2 * 0
  rest_few ms new s k z = omega (arith, k.few, ap length z, mul-le-mul_left s.rewrites (ever_grows S L ms new))

  streak_step : (ms : List (Moment S)) (s : State S) (new : List (Moment S)) (t : State S) → Marked S L ms s → Streak S ms s → Step S s new t → Streak S (ms ++ new) t
  streak_step ms s new t m k (retype e st p pos h a) = record {
    pre = [];
    under = inl refl;
    few = elim k.under [ inl z ↦ rest_few ms new s k z | inr u ↦ absurd (omega (arith, u.calm)) ];
  }
  streak_step ms s new t m k (stale x rest st p w h a) = record {
    pre = [];
    under = inl refl;
    few = elim k.under [
      | inl z ↦ rest_few ms new s k z
      | inr u ↦
          let e = heads x u.front rest u.rest s.worklist w u.is_front in
          absurd (h (ap (S.live s.env) e ∙ u.live) (ap s.marks e ∙ u.queues))
    ];
  }
  streak_step ms s new t m k (sets_aside x rest st p w lx qx c a) = record {
    pre = [];
    under = inl refl;
    few = elim k.under [
      | inl z ↦ rest_few ms new s k z
      | inr u ↦
          let e = heads x u.front rest u.rest s.worklist w u.is_front in
          absurd (both_ways _ c (ap (S.convertible s.env) e ∙ u.converts))
    ];
  }
  streak_step ms s new t m k (wait x d rest ds st p w lx qx c f a) =
      let D = dues S s.env s.marks x in
      let b = behind s k.pre x rest w k.under in
      let i = first_due_lem S L s.env s.marks x d f.0 in
      let r = in_dues S L s.env s.marks x d i in
      let q = first_some D d f.0 in
      let same = sym (wait_first S L s.env s.marks st x a) in
      record {
        pre = x ∷ k.pre;
        under = inr (record {
          front = d;
          rest = q.0 ++ x ∷ rest;
          is_front = ap (λ zs. zs ++ x ∷ rest) q.1;
          calm = refl;
          live = r.1;
          queues = wait_queued S L s.env s.marks st x a d r.1 i;
          converts = r.3;
          came = subst (λ g. Came g d (x ∷ k.pre)) same (f.0, b.0);
          on = ds;
          ends = subst (λ g. Follows g d ds) same f.1;
          waited = λ y j. elim j [
            | inl e ↦ let ly = ap (S.live s.env) e ∙ lx in (ly, wait_stays S L s.env s.marks st x a y ly (ap s.marks e ∙ qx))
            | inr l ↦ let z = b.1 y l in (z.0, wait_stays S L s.env s.marks st x a y z.0 z.1)
          ];
        });
        few = omega (arith, k.few, mul-le-mul_left s.rewrites (ever_grows S L ms new));
      }
  streak_step ms s new t m k (rewrite x rest is e st p pz w lx qx c f h a) =
      let b = behind s k.pre x rest w k.under in
      let g = ever_grows S L ms new in
      record {
        pre = [];
        under = inl refl;
        few = omega (arith, k.few, room ms s m x k.pre [] lx qx b.0 f b.1, g, mul-le-mul_left s.rewrites g);
      }

  streak : (ms : List (Moment S)) (s : State S) → Reached S ms s → Streak S ms s
  streak ms s (begun e ws st p ok lv a) = record { pre = []; under = inl refl; few = omega arith }
  streak ms s (more {ms = ns} {new = new} {s = r} h k) = streak_step ns r new s (marked S L ns r h) (streak ns r h) k

  pub waits_few : (ms : List (Moment S)) (s : State S) → Reached S ms s → 2 * s.waits + length (ever_of ms) ≤ length (ever_of ms) * length (ever_of ms)
  waits_few ms s h =
      let m = marked S L ms s h in
      let k = streak ms s h in
      elim k.under [
        | inl z ↦ sum_rests s.waits s.rewrites (length (ever_of ms)) (rewrites_few S L ms s m) (omega (arith, k.few, ap length z))
        | inr u ↦ sum_runs s.waits s.rewrites (length (ever_of ms)) (length k.pre) (under_room ms s m k.pre u) k.few
      ]
