-- For a machine whose states have a view as a `State`: a step to a state is one to each that has the same fields, and a number that counts first marks is the number of the operations ever queued.
use Rattle.std.proofs.Common.{◌≡◌, ◌+◌, true, List, [], ◌∷◌, ◌++◌, length, sym, refl, ap, ◌∙◌, subst, inl, inr, arith}
use Rattle.std.proofs.lemmas.Bool.{cases_Bool, both_ways}
use Rattle.law.specs.Lists.{In, add, add_all}
use Rattle.law.specs.Setting.{Setting}
use Rattle.law.specs.Laws.{Laws}
use Rattle.law.specs.Machine.{Mark, unmarked, queued, is_unmarked, Moment, State, put, kept, dues, lay_all, during, fresh, meet_all, Step}
use Rattle.law.specs.Law.{ever_of}
use Rattle.law.proofs.Lists.{in_cases, in_add, add_in, add_self, length_add_new, in_mem, add_all_short}
use Rattle.law.proofs.Marks.{un_q, is_unmarked_lem, cases_op, put_at, put_off, kept_live, kept_dead, in_dues, batch_laid}
use Rattle.law.proofs.Moments.{queues_meet_all}
use Rattle.law.proofs.Once.{Marked}
use Rattle.law.proofs.Taken.{all_new}

module _ (S : Setting) where
  pub same_state : (t u : State S) → t.env ≡ u.env → t.worklist ≡ u.worklist → t.marks ≡ u.marks → t.pending ≡ u.pending
      → t.taken ≡ u.taken → t.rewrites ≡ u.rewrites → t.waits ≡ u.waits → t ≡ u
  same_state t u e w m p k r n = λ i. record { env = e i; worklist = w i; marks = m i; pending = p i; taken = k i; rewrites = r i; waits = n i }

  pub step_to : (s : State S) (new : List (Moment S)) (t u : State S) → Step S s new t → t ≡ u → Step S s new u
  step_to s new t u h e = subst (Step S s new) e h

module _ (S : Setting) (L : Laws S) where
  -- unmarked ones are new, and marked ones are not
  abbrev Told : (S.Op → Mark) → List S.Op → S.Op → Type 0
  Told st ever y = (st y ≡ unmarked → In y ever → ⊥) × ((st y ≡ unmarked → ⊥) → In y ever)

  told_more : (st : S.Op → Mark) (ever : List S.Op) (x y : S.Op) → Told st ever y → Told (put S st x queued) (add S.same ever x) y
  told_more st ever x y h =
      elim (cases_op S L x y) [
        | inl e ↦ (λ u. absurd (un_q _ u (put_at S L st x queued y e)), λ _. subst (λ z. In z (add S.same ever x)) e (add_self S.same L.same_is L.same_self ever x))
        | inr ne ↦ (
          λ u i. elim (in_add S.same L.same_is L.same_self y ever x i) [ inl d ↦ ne (sym d) | inr j ↦ h.0 (sym (put_off S L st x queued y ne) ∙ u) j ],
          λ n. add_in S.same L.same_is L.same_self y ever x (h.1 (λ u. n (put_off S L st x queued y ne ∙ u))),
        )
      ]

  pub count_fresh : (ys : List S.Op) (st : S.Op → Mark) (ever : List S.Op) → ((y : S.Op) → In y ys → Told st ever y) → length (add_all S.same ever ys) ≡ length ever + fresh S st ys
  count_fresh [] st ever h = omega arith
  count_fresh (y ∷ ys) st ever h =
      let k = count_fresh ys (put S st y queued) (add S.same ever y) (λ z i. told_more st ever y z (h z (inr i))) in
      elim (cases_Bool (is_unmarked (st y))) [
        | inl u ↦ rw u (omega (arith, k, length_add_new S.same L.same_is L.same_self ever y ((h y (inl refl)).0 (is_unmarked_lem (st y) u))))
        | inr m ↦
            let i = (h y (inl refl)).1 (λ u. both_ways _ m (ap is_unmarked u)) in
            let e : add S.same ever y ≡ ever = rw (in_mem S.same L.same_is L.same_self y ever i) refl in
            rw m (omega (arith, k, ap length e))
      ]

  -- over marks that are read in a state's environment
  told : (ms : List (Moment S)) (s : State S) → Marked S L ms s → (y : S.Op) → S.live s.env y ≡ true → Told s.marks (ever_of ms) y
  told ms s m y l = (
    λ u i. elim (m.ever_marked y i) [ inl g ↦ both_ways _ (L.gone_dead s.env y g) l | inr r ↦ r.1 u ],
    λ n. m.marked_ever y l n,
  )

  -- a walk's entries are different
  pub count_begun : (e : S.Env) (ws : List S.Op) → length (ever_of (meet_all S e (λ y. unmarked) ws)) ≡ length (lay_all S e (λ y. unmarked) ws)
  count_begun e ws =
      let Q = lay_all S e (λ y. unmarked) ws in
      omega (arith, all_new S L e ws (λ y. unmarked) [] (λ y l u i. i), add_all_short S.same [] Q, ap length (ap (add_all S.same []) (queues_meet_all S e (λ y. unmarked) ws)))

  -- a wait queues dues ++ x ∷ []
  pub count_wait : (ms : List (Moment S)) (s : State S) → Marked S L ms s → (x : S.Op) → S.live s.env x ≡ true
      → length (add_all S.same (ever_of ms) (dues S s.env s.marks x ++ x ∷ [])) ≡ length (ever_of ms) + fresh S s.marks (dues S s.env s.marks x ++ x ∷ [])
  count_wait ms s m x lx =
      count_fresh (dues S s.env s.marks x ++ x ∷ []) s.marks (ever_of ms) (λ y i. told ms s m y (elim (in_cases y (dues S s.env s.marks x) (x ∷ []) i) [
        | inl j ↦ (in_dues S L s.env s.marks x y j).1
        | inr j ↦ elim j [ inl e ↦ ap (S.live s.env) e ∙ lx | inr k ↦ absurd k ]
      ]))

  -- a rewrite of x queues what its batch lays, or a part of it; x itself, unmarked for that time, is not new
  pub count_rewritten : (ms : List (Moment S)) (s : State S) → Marked S L ms s → (x : S.Op) (e : S.Env) → ((y : S.Op) → L.Gone s.env y → L.Gone e y) → (is : List S.Op)
      → length (add_all S.same (ever_of ms) (lay_all S e (during S s.env s.marks x) is)) ≡ length (ever_of ms) + fresh S (kept S s.env s.marks) (lay_all S e (during S s.env s.marks x) is)
  count_rewritten ms s m x e gone is =
      count_fresh (lay_all S e (during S s.env s.marks x) is) (kept S s.env s.marks) (ever_of ms) (λ y i. told_kept y (batch_laid S L e (during S s.env s.marks x) is y i).0)
    where
      told_kept : (y : S.Op) → S.live e y ≡ true → Told (kept S s.env s.marks) (ever_of ms) y
      told_kept y l =
          elim (cases_Bool (S.live s.env y)) [
            | inl ls ↦
                let t = told ms s m y ls in
                let q = kept_live S L s.env s.marks y ls in
                (λ u i. t.0 (sym q ∙ u) i, λ n. t.1 (λ u. n (q ∙ u)))
            | inr ds ↦ (
              λ u i. elim (m.ever_marked y i) [
                | inl g ↦ both_ways _ (L.gone_dead e y (gone y g)) l
                | inr r ↦ both_ways _ ds r.0
              ],
              λ n. absurd (n (kept_dead S L s.env s.marks y ds)),
            )
          ]

  -- a rewrite of x queues what its batch lays; x itself, unmarked for that time, is not new
  pub count_rewrite : (ms : List (Moment S)) (s : State S) → Marked S L ms s → S.Good s.env → (x : S.Op) (e : S.Env) (is : List S.Op) → S.Rewrite s.env x e is
      → length (add_all S.same (ever_of ms) (lay_all S e (during S s.env s.marks x) is)) ≡ length (ever_of ms) + fresh S (kept S s.env s.marks) (lay_all S e (during S s.env s.marks x) is)
  count_rewrite ms s m ok x e is k = count_rewritten ms s m x e (λ y g. L.rewrite_gone s.env x e is ok k y g) is
