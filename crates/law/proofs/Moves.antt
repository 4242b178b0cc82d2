-- What each step does to liveness, to marks, and to the operations ever queued.
use Rattle.std.proofs.Common.{◌≡◌, suc, ◌+◌, true, ◌⊎◌, List, [], ◌∷◌, ◌++◌, length, sym, refl, ap, ◌∙◌, subst, subst₂, inl, inr, arith}
use Rattle.law.specs.Lists.{In, Apart}
use Rattle.law.specs.Setting.{Setting}
use Rattle.law.specs.Laws.{Laws}
use Rattle.law.specs.Machine.{Mark, unmarked, queued, rewritten, aside, Moment, State, put, kept, dues, mark_all, lay_all, during, Step, retype, stale, sets_aside, wait, rewrite}
use Rattle.law.specs.Law.{rewrites_of, queues_of}
use Rattle.law.proofs.Lists.{in_cases, in_left}
use Rattle.law.proofs.Marks.{un_q, un_r, un_a, q_r, r_a, is_asking, cases_op, op_dec, put_at, put_off, queue_in, queue_out, kept_live, kept_marked, in_dues, batch_cases, batch_laid}
use Rattle.law.proofs.Moments.{wait_rewrites, wait_queues, rewrite_rewrites, rewrite_queues}

-- What is needed of a step: R is what it rewrites, and Q what it queues.
pub record Moved (S : Setting) (L : Laws S) (s t : State S) (R Q : List S.Op) : Type 0 where
  pub gone : (y : S.Op) → L.Gone s.env y → L.Gone t.env y
  pub live : (y : S.Op) → S.live s.env y ≡ true → (S.live t.env y ≡ true) ⊎ L.Gone t.env y
  pub laid : (y : S.Op) → In y Q → (S.live t.env y ≡ true) × (t.marks y ≡ unmarked → ⊥)
  pub marked : (y : S.Op) → S.live t.env y ≡ true → S.live s.env y ≡ true → (s.marks y ≡ unmarked → ⊥) → t.marks y ≡ unmarked → ⊥
  pub stays : (y : S.Op) → S.live t.env y ≡ true → S.live s.env y ≡ true → s.marks y ≡ rewritten → t.marks y ≡ rewritten
  pub new : (y : S.Op) → S.live t.env y ≡ true → (t.marks y ≡ unmarked → ⊥) → ((S.live s.env y ≡ true) × (s.marks y ≡ unmarked → ⊥)) ⊎ In y Q
  pub new_rewritten : (y : S.Op) → S.live t.env y ≡ true → t.marks y ≡ rewritten → ((S.live s.env y ≡ true) × (s.marks y ≡ rewritten)) ⊎ In y R
  pub apart : Apart R
  pub one : (y : S.Op) → In y R → (S.live s.env y ≡ true) × (s.marks y ≡ queued) × (S.live t.env y ≡ true → t.marks y ≡ rewritten)
  pub count : t.rewrites ≡ s.rewrites + length R

-- a step without rewrite that keeps the environment and changes marks as told
module _ (S : Setting) (L : Laws S) (s t : State S) (Q : List S.Op) (same-env : t.env ≡ s.env) where
  still_live : (y : S.Op) → S.live t.env y ≡ true → S.live s.env y ≡ true
  still_live y l = subst (λ e. S.live e y ≡ true) same-env l

  pub moved_still : t.rewrites ≡ s.rewrites
      → ((y : S.Op) → S.live t.env y ≡ true → (t.marks y ≡ s.marks y) ⊎ ((t.marks y ≡ unmarked → ⊥) × (s.marks y ≡ rewritten → ⊥) × (t.marks y ≡ rewritten → ⊥) × ((s.marks y ≡ queued) ⊎ In y Q)))
      → ((y : S.Op) → In y Q → (S.live t.env y ≡ true) × (t.marks y ≡ unmarked → ⊥))
      → Moved S L s t [] Q
  moved_still count marks laid = record {
    gone = λ y g. subst (λ e. L.Gone e y) (sym same-env) g;
    live = λ y l. inl (subst (λ e. S.live e y ≡ true) (sym same-env) l);
    laid = laid;
    marked = λ y lt ls n u. elim (marks y lt) [ inl e ↦ n (sym e ∙ u) | inr k ↦ k.0 u ];
    stays = λ y lt ls r. elim (marks y lt) [ inl e ↦ e ∙ r | inr k ↦ absurd (k.1 r) ];
    new = λ y lt n. elim (marks y lt) [
      | inl e ↦ inl (still_live y lt, λ u. n (e ∙ u))
      | inr k ↦ elim k.3 [ inl q ↦ inl (still_live y lt, λ u. un_q _ u q) | inr i ↦ inr i ]
    ];
    new_rewritten = λ y lt r. elim (marks y lt) [ inl e ↦ inl (still_live y lt, sym e ∙ r) | inr k ↦ absurd (k.2 r) ];
    apart = tt;
    one = λ y i. absurd i;
    count = omega arith;
  }

moved_retype : (S : Setting) (L : Laws S) (s t : State S) → S.Good s.env → S.Retype s.env t.env → ((y : S.Op) → S.live t.env y ≡ true → t.marks y ≡ kept S s.env s.marks y)
    → t.rewrites ≡ s.rewrites → Moved S L s t [] []
moved_retype S L s t ok k a rs = record {
  gone = λ y g. L.retype_gone s.env t.env ok k y g;
  live = λ y l. L.retype_live s.env t.env ok k y l;
  laid = λ y i. absurd i;
  marked = λ y lt ls n u. n (sym (a y lt ∙ kept_live S L s.env s.marks y ls) ∙ u);
  stays = λ y lt ls r. a y lt ∙ kept_live S L s.env s.marks y ls ∙ r;
  new = λ y lt n. let p = kept_marked S L s.env s.marks y (λ u. n (a y lt ∙ u)) in inl (p.0, λ u. n (a y lt ∙ p.1 ∙ u));
  new_rewritten = λ y lt r. let p = kept_marked S L s.env s.marks y (λ u. un_r _ (a y lt ∙ u) r) in inl (p.0, sym (a y lt ∙ p.1) ∙ r);
  apart = tt;
  one = λ y i. absurd i;
  count = omega arith;
}

-- the marks while x is rewritten
pub during_off : (S : Setting) (L : Laws S) (e : S.Env) (st : S.Op → Mark) (x y : S.Op) → (x ≡ y → ⊥) → during S e st x y ≡ kept S e st y
during_off S L e st x y ne = put_off S L (kept S e st) x unmarked y ne

module _ (S : Setting) (L : Laws S) (s t : State S) (x : S.Op) (is : List S.Op) (lx : S.live s.env x ≡ true) (qx : s.marks x ≡ queued)
    (k : S.Rewrite s.env x t.env is)
    (a : (y : S.Op) → S.live t.env y ≡ true → t.marks y ≡ put S (mark_all S t.env (during S s.env s.marks x) is) x rewritten y) where
  abbrev base : S.Op → Mark
  base = during S s.env s.marks x

  pub at_x : S.live t.env x ≡ true → t.marks x ≡ rewritten
  at_x l = a x l ∙ put_at S L (mark_all S t.env base is) x rewritten x refl

  pub off_x : (y : S.Op) → (x ≡ y → ⊥) → S.live t.env y ≡ true
      → (t.marks y ≡ kept S s.env s.marks y) ⊎ ((t.marks y ≡ queued) × (kept S s.env s.marks y ≡ unmarked) × In y (lay_all S t.env base is))
  off_x y ne l =
      let m = a y l ∙ put_off S L (mark_all S t.env base is) x rewritten y ne in
      let d = during_off S L s.env s.marks x y ne in
      elim (batch_cases S L t.env base is y) [
        | inl h ↦ inl (m ∙ h ∙ d)
        | inr h ↦ inr (m ∙ h.0, sym d ∙ h.1, h.2)
      ]

  pub moved_rewrite : S.Good s.env → t.rewrites ≡ suc s.rewrites → Moved S L s t (x ∷ []) (lay_all S t.env base is)
  moved_rewrite ok rs = record {
    gone = λ y g. L.rewrite_gone s.env x t.env is ok k y g;
    live = λ y l. L.rewrite_live s.env x t.env is ok k y l;
    laid = λ y j.
        let r = batch_laid S L t.env base is y j in (
          r.0,
          elim (cases_op S L x y) [
            | inl e ↦ λ u. un_r _ u (at_y y e r.0)
            | inr ne ↦ λ u. un_q _ u (a y r.0 ∙ put_off S L (mark_all S t.env base is) x rewritten y ne ∙ r.2)
          ],
        );
    marked = λ y lt ls n u. elim (cases_op S L x y) [
      | inl e ↦ un_r _ u (at_y y e lt)
      | inr ne ↦ elim (off_x y ne lt) [
        | inl h ↦ n (sym (h ∙ kept_live S L s.env s.marks y ls) ∙ u)
        | inr h ↦ un_q _ u h.0
      ]
    ];
    stays = λ y lt ls r. elim (cases_op S L x y) [
      | inl e ↦ absurd (q_r _ (ap s.marks (sym e) ∙ qx) r)
      | inr ne ↦ elim (off_x y ne lt) [
        | inl h ↦ h ∙ kept_live S L s.env s.marks y ls ∙ r
        | inr h ↦ absurd (un_r _ h.1 (kept_live S L s.env s.marks y ls ∙ r))
      ]
    ];
    new = λ y lt n. elim (cases_op S L x y) [
      | inl e ↦ inl (ap (S.live s.env) (sym e) ∙ lx, λ u. un_q _ u (ap s.marks (sym e) ∙ qx))
      | inr ne ↦ elim (off_x y ne lt) [
        | inl h ↦ let p = kept_marked S L s.env s.marks y (λ u. n (h ∙ u)) in inl (p.0, λ u. n (h ∙ p.1 ∙ u))
        | inr h ↦ inr h.2
      ]
    ];
    new_rewritten = λ y lt r. elim (cases_op S L x y) [
      | inl e ↦ inr (inl (sym e))
      | inr ne ↦ elim (off_x y ne lt) [
        | inl h ↦ let p = kept_marked S L s.env s.marks y (λ u. un_r _ (h ∙ u) r) in inl (p.0, sym (h ∙ p.1) ∙ r)
        | inr h ↦ absurd (q_r _ h.0 r)
      ]
    ];
    apart = (λ i. i, tt);
    one = λ y i. elim i [
      | inl e ↦ (ap (S.live s.env) e ∙ lx, ap s.marks e ∙ qx, λ l. at_y y (sym e) l)
      | inr j ↦ absurd j
    ];
    count = omega arith;
  }
    where
      at_y : (y : S.Op) → x ≡ y → S.live t.env y ≡ true → t.marks y ≡ rewritten
      at_y y e l = subst (λ z. S.live t.env z ≡ true → t.marks z ≡ rewritten) e at_x l

pub moved : (S : Setting) (L : Laws S) (s : State S) (new : List (Moment S)) (t : State S) → S.Good s.env → Step S s new t → Moved S L s t (rewrites_of new) (queues_of new)
moved S L s new t ok (retype e st p pos k a) = moved_retype S L s t ok k a refl
moved S L s new t ok (stale x rest st p w h a) = moved_still S L s t [] refl refl (λ y l. inl (a y l)) (λ y i. absurd i)
moved S L s new t ok (sets_aside x rest st p w lx qx c a) =
    moved_still S L s t [] refl refl
    (λ y l. elim (cases_op S L x y) [
      | inl e ↦
          let m : t.marks y ≡ aside = a y l ∙ put_at S L s.marks x aside y e in
          let q : s.marks y ≡ queued = ap s.marks (sym e) ∙ qx in
          inr (λ u. un_a _ u m, λ r. q_r _ q r, λ r. r_a _ r m, inl q)
      | inr ne ↦ inl (a y l ∙ put_off S L s.marks x aside y ne)
    ])
    (λ y i. absurd i)
moved S L s new t ok (wait x d rest ds st p w lx qx c f a) =
    let D = dues S s.env s.marks x in
    subst₂ (Moved S L s t) (sym (wait_rewrites S s.env s.marks x (x ∷ d ∷ ds) (D ++ x ∷ []))) (sym (wait_queues S s.env s.marks x (x ∷ d ∷ ds) (D ++ x ∷ [])))
    (moved_still S L s t (D ++ x ∷ []) refl refl
    (λ y l. elim (op_dec S L y D) [
      | inl i ↦
          let m = a y l ∙ queue_in S L s.marks D y i in
          let r = in_dues S L s.env s.marks x y i in
          inr (λ u. un_q _ u m, λ z. elim (is_asking (s.marks y) r.2) [ inl u ↦ un_r _ u z | inr q ↦ q_r _ q z ], λ r. q_r _ m r, inr (in_left y D (x ∷ []) i))
      | inr ni ↦ inl (a y l ∙ queue_out S L s.marks D y ni)
    ])
    (λ y i. elim (op_dec S L y D) [
      | inl j ↦
          let r = in_dues S L s.env s.marks x y j in
          (r.1, λ u. un_q _ u (a y r.1 ∙ queue_in S L s.marks D y j))
      | inr nj ↦ elim (in_cases y D (x ∷ []) i) [
        | inl j ↦ absurd (nj j)
        | inr j ↦ elim j [
          | inl e ↦
              let l = ap (S.live s.env) e ∙ lx in
              (l, λ u. un_q _ u (a y l ∙ queue_out S L s.marks D y nj ∙ ap s.marks e ∙ qx))
          | inr k ↦ absurd k
        ]
      ]
    ]))
moved S L s new t ok (rewrite x rest is e st p pz w lx qx c f k a) =
    let B = during S s.env s.marks x in
    subst₂ (Moved S L s t) (sym (rewrite_rewrites S s.env e s.marks B x (S.definers s.env x) is)) (sym (rewrite_queues S s.env e s.marks B x (S.definers s.env x) is))
    (moved_rewrite S L s t x is lx qx k a ok refl)
