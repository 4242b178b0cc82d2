-- No operation is rewritten twice.
use Rattle.std.proofs.Common.{◌≡◌, ℕ, ◌≤◌, true, false, ◌⊎◌, List, [], ◌∷◌, ◌++◌, length, sym, ap, ◌∙◌, subst, inl, inr, arith, length-append}
use mathlib.Core.Option.{none}
use Rattle.std.proofs.lemmas.Bool.{cases_Bool, both_ways}
use Rattle.law.specs.Lists.{In, Apart, add_all}
use Rattle.law.specs.Setting.{Setting}
use Rattle.law.specs.Laws.{Laws}
use Rattle.law.specs.Machine.{Mark, unmarked, rewritten, Moment, State, due, dues, first_due, meet_all, mark_all, lay_all, during, Agree, Step, retype, stale, sets_aside, wait, rewrite, Reached, begun, more}
use Rattle.law.specs.Law.{rewrite_of, rewrites_of, queues_of, ever_of, Once}
use Rattle.law.proofs.Lists.{in_cases, in_left, in_right, keep_in, apart_append, in_add_all, add_all_in, add_all_new, fits, first_none}
use Rattle.law.proofs.Marks.{un_q, un_r, q_r, batch_cases, batch_laid}
use Rattle.law.proofs.Moments.{each_append, ever_append, rewrites_meet_all, queues_meet_all, wait_rewrites, rewrite_rewrites}
use Rattle.law.proofs.Moves.{Moved, moved}

-- How marks, the operations ever queued and the rewrites so far hang together.
pub record Marked (S : Setting) (L : Laws S) (ms : List (Moment S)) (s : State S) : Type 0 where
  pub ever_marked : (y : S.Op) → In y (ever_of ms) → L.Gone s.env y ⊎ ((S.live s.env y ≡ true) × (s.marks y ≡ unmarked → ⊥))
  pub marked_ever : (y : S.Op) → S.live s.env y ≡ true → (s.marks y ≡ unmarked → ⊥) → In y (ever_of ms)
  pub once : Apart (rewrites_of ms)
  pub done : (y : S.Op) → In y (rewrites_of ms) → L.Gone s.env y ⊎ ((S.live s.env y ≡ true) × (s.marks y ≡ rewritten))
  pub rewritten_done : (y : S.Op) → S.live s.env y ≡ true → s.marks y ≡ rewritten → In y (rewrites_of ms)
  pub done_ever : (y : S.Op) → In y (rewrites_of ms) → In y (ever_of ms)
  pub count : length (rewrites_of ms) ≡ s.rewrites

module _ (S : Setting) (L : Laws S) where
  marked_begun : (e : S.Env) (ws : List S.Op) (st : S.Op → Mark) (p : ℕ) → Agree S e st (mark_all S e (λ y. unmarked) ws)
      → Marked S L (meet_all S e (λ y. unmarked) ws)
      (record { env = e; worklist = lay_all S e (λ y. unmarked) ws; marks = st; pending = p; taken = 0; rewrites = 0; waits = 0 })
  marked_begun e ws st p a =
      let nil = rewrites_meet_all S e (λ y. unmarked) ws in
      let off : (y : S.Op) → In y (rewrites_of (meet_all S e (λ y. unmarked) ws)) → ⊥ = λ y i. subst (In y) nil i in
      let ev : ever_of (meet_all S e (λ y. unmarked) ws) ≡ add_all S.same [] (lay_all S e (λ y. unmarked) ws) = ap (add_all S.same []) (queues_meet_all S e (λ y. unmarked) ws) in
      record {
        ever_marked = λ y i. elim (in_add_all S.same L.same_is L.same_self y [] (lay_all S e (λ y. unmarked) ws) (subst (In y) ev i)) [
          | inl j ↦ absurd j
          | inr j ↦
              let r = batch_laid S L e (λ y. unmarked) ws y j in
              inr (r.0, λ u. un_q _ u (a y r.0 ∙ r.2))
        ];
        marked_ever = λ y l n. elim (batch_cases S L e (λ y. unmarked) ws y) [
          | inl h ↦ absurd (n (a y l ∙ h))
          | inr h ↦ subst (In y) (sym ev) (add_all_new S.same L.same_is L.same_self y [] (lay_all S e (λ y. unmarked) ws) h.2)
        ];
        once = subst Apart (sym nil) tt;
        done = λ y i. absurd (off y i);
        rewritten_done = λ y l r. elim (batch_cases S L e (λ y. unmarked) ws y) [
          | inl h ↦ absurd (un_r _ (a y l ∙ h) r)
          | inr h ↦ absurd (q_r _ (a y l ∙ h.0) r)
        ];
        done_ever = λ y i. absurd (off y i);
        count = ap length nil;
      }

  marked_step : (ms new : List (Moment S)) (s t : State S) → Marked S L ms s → Moved S L s t (rewrites_of new) (queues_of new) → Marked S L (ms ++ new) t
  marked_step ms new s t m v =
      let eq = each_append S rewrite_of ms new in
      let ev = ever_append S ms new in
      let grow : (y : S.Op) → In y (ever_of ms) → In y (ever_of (ms ++ new)) = λ y i. subst (In y) (sym ev) (add_all_in S.same L.same_is L.same_self y (ever_of ms) (queues_of new) i) in
      record {
        ever_marked = λ y i. elim (in_add_all S.same L.same_is L.same_self y (ever_of ms) (queues_of new) (subst (In y) ev i)) [
          | inl j ↦ elim (m.ever_marked y j) [
            | inl g ↦ inl (v.gone y g)
            | inr l ↦ elim (v.live y l.0) [ inl lt ↦ inr (lt, v.marked y lt l.0 l.1) | inr g ↦ inl g ]
          ]
          | inr j ↦ inr (v.laid y j)
        ];
        marked_ever = λ y l n. elim (v.new y l n) [
          | inl k ↦ grow y (m.marked_ever y k.0 k.1)
          | inr i ↦ subst (In y) (sym ev) (add_all_new S.same L.same_is L.same_self y (ever_of ms) (queues_of new) i)
        ];
        once = subst Apart (sym eq) (apart_append (rewrites_of ms) (rewrites_of new) m.once v.apart (λ y i j. elim (m.done y i) [
          | inl g ↦ both_ways _ (L.gone_dead s.env y g) (v.one y j).0
          | inr l ↦ q_r _ (v.one y j).1 l.1
        ]));
        done = λ y i. elim (in_cases y (rewrites_of ms) (rewrites_of new) (subst (In y) eq i)) [
          | inl j ↦ elim (m.done y j) [
            | inl g ↦ inl (v.gone y g)
            | inr l ↦ elim (v.live y l.0) [ inl lt ↦ inr (lt, v.stays y lt l.0 l.1) | inr g ↦ inl g ]
          ]
          | inr j ↦
              let o = v.one y j in
              elim (v.live y o.0) [ inl lt ↦ inr (lt, o.2 lt) | inr g ↦ inl g ]
        ];
        rewritten_done = λ y l r. subst (In y) (sym eq) (elim (v.new_rewritten y l r) [
          | inl k ↦ in_left y (rewrites_of ms) (rewrites_of new) (m.rewritten_done y k.0 k.1)
          | inr i ↦ in_right y (rewrites_of ms) (rewrites_of new) i
        ]);
        done_ever = λ y i. elim (in_cases y (rewrites_of ms) (rewrites_of new) (subst (In y) eq i)) [
          | inl j ↦ grow y (m.done_ever y j)
          | inr j ↦ let o = v.one y j in grow y (m.marked_ever y o.0 (λ u. un_q _ u o.1))
        ];
        count = omega (arith, ap length eq, length-append (rewrites_of ms) (rewrites_of new), m.count, v.count);
      }

  pub good : (ms : List (Moment S)) (s : State S) → Reached S ms s → S.Good s.env
  good ms s (begun e ws st p ok lv a) = ok
  good ms s (more {ms = ns} {new = new} {s = r} h k) = step_good r new s (good ns r h) k
    where
      step_good : (r : State S) (new : List (Moment S)) (t : State S) → S.Good r.env → Step S r new t → S.Good t.env
      step_good r new t ok (retype e st p pos k a) = L.retype_good r.env e ok k
      step_good r new t ok (stale x rest st p w h a) = ok
      step_good r new t ok (sets_aside x rest st p w lx qx c a) = ok
      step_good r new t ok (wait x d rest ds st p w lx qx c f a) = ok
      step_good r new t ok (rewrite x rest is e st p pz w lx qx c f k a) = L.rewrite_good r.env x e is ok k

  pub marked : (ms : List (Moment S)) (s : State S) → Reached S ms s → Marked S L ms s
  marked ms s (begun e ws st p ok lv a) = marked_begun e ws st p a
  marked ms s (more {ms = ns} {new = new} {s = r} h k) =
      let m = marked ns r h in
      marked_step ns new r s m (moved S L r new s (good ns r h) k)

  -- at most as many rewrites as operations ever queued
  pub rewrites_few : (ms : List (Moment S)) (s : State S) → Marked S L ms s → s.rewrites ≤ length (ever_of ms)
  rewrites_few ms s m = omega (arith, m.count, fits (rewrites_of ms) (ever_of ms) m.once m.done_ever)

  pub none_due : (s : State S) (x : S.Op) → first_due S s.env s.marks x ≡ none → (d : S.Op) → In d (S.definers s.env x) → due S s.env s.marks d ≡ false
  none_due s x f z j = elim (cases_Bool (due S s.env s.marks z)) [
    | inl h ↦ absurd (first_none _ f z (keep_in (due S s.env s.marks) z (S.definers s.env x) j h))
    | inr h ↦ h
  ]

  ready : (s : State S) (new : List (Moment S)) (t : State S) → Step S s new t → (x : S.Op) → In x (rewrites_of new)
      → (S.live s.env x ≡ true) × (S.convertible s.env x ≡ true) × ((d : S.Op) → In d (S.definers s.env x) → due S s.env s.marks d ≡ false)
  ready s new t (retype e st p pos k a) x i = absurd i
  ready s new t (stale y rest st p w h a) x i = absurd i
  ready s new t (sets_aside y rest st p w lx qx c a) x i = absurd i
  ready s new t (wait y d rest ds st p w lx qx c f a) x i = absurd (subst (In x) (wait_rewrites S s.env s.marks y (y ∷ d ∷ ds) (dues S s.env s.marks y ++ y ∷ [])) i)
  ready s new t (rewrite y rest is e st p pz w lx qx c f k a) x i =
      let eq : rewrites_of new ≡ y ∷ [] = rewrite_rewrites S s.env e s.marks (during S s.env s.marks y) y (S.definers s.env y) is in
      elim (subst (In x) eq i) [
        | inl d ↦ subst (λ z. (S.live s.env z ≡ true) × (S.convertible s.env z ≡ true) × ((d : S.Op) → In d (S.definers s.env z) → due S s.env s.marks d ≡ false)) (sym d)
            (lx, c, none_due s y f)
        | inr j ↦ absurd j
      ]

  pub once_law : (ms : List (Moment S)) (s : State S) → Reached S ms s → Once S ms s
  once_law ms s h = record { once = (marked ms s h).once; ready = λ new t. ready s new t }
