-- Few entries are taken.
use Rattle.std.proofs.Common.{◌≡◌, suc, ◌+◌, ◌*◌, ◌≤◌, true, List, [], ◌∷◌, ◌++◌, length, sym, ap, ◌∙◌, inl, inr, arith, length-append}
use Rattle.std.proofs.lemmas.Bool.{cases_Bool, both_ways}
use Rattle.law.specs.Lists.{In, add, add_all}
use Rattle.law.specs.Setting.{Setting}
use Rattle.law.specs.Laws.{Laws}
use Rattle.law.specs.Machine.{Mark, unmarked, queued, Moment, State, put, due, dues, newly, lay_all, during, Step, retype, stale, sets_aside, wait, rewrite, Reached, begun, more}
use Rattle.law.specs.Law.{ever_of}
use Rattle.law.proofs.Lists.{in_add, length_add, length_add_new, length_keep}
use Rattle.law.proofs.Moments.{ever_append, ever_grows, queues_meet_all, rewrite_queues}
use Rattle.law.proofs.Marks.{un_q, cases_op, put_at, put_off, newly_parts, kept_live}
use Rattle.law.proofs.Moves.{during_off}
use Rattle.law.proofs.Once.{Marked, good, marked, rewrites_few}

module _ (S : Setting) (L : Laws S) (e : S.Env) where
  -- one more is marked, and stands among those ever queued
  off_more : (st : S.Op → Mark) (ever : List S.Op) (i y : S.Op) → (st y ≡ unmarked → In y ever → ⊥) → put S st i queued y ≡ unmarked → In y (add S.same ever i) → ⊥
  off_more st ever i y h u j =
      elim (cases_op S L i y) [
        | inl d ↦ un_q _ u (put_at S L st i queued y d)
        | inr ne ↦ elim (in_add S.same L.same_is L.same_self y ever i j) [
          | inl d ↦ ne (sym d)
          | inr k ↦ h (sym (put_off S L st i queued y ne) ∙ u) k
        ]
      ]

  -- entries of a batch in which each unmarked one is new
  pub all_new : (is : List S.Op) (st : S.Op → Mark) (ever : List S.Op) → ((y : S.Op) → S.live e y ≡ true → st y ≡ unmarked → In y ever → ⊥)
      → length (lay_all S e st is) + length ever ≤ length (add_all S.same ever (lay_all S e st is))
  all_new [] st ever h = omega arith
  all_new (i ∷ is) st ever h =
      elim (cases_Bool (newly S e st i)) [
        | inl n ↦
            let p = newly_parts S L e st i n in
            let k = all_new is (put S st i queued) (add S.same ever i) (λ y l u. off_more st ever i y (h y l) u) in
            rw n (omega (arith, k, length_add_new S.same L.same_is L.same_self ever i (h i p.0 p.1)))
        | inr n ↦ rw n (all_new is st ever h)
      ]

  -- in which x may be another
  all_but : (x : S.Op) (is : List S.Op) (st : S.Op → Mark) (ever : List S.Op) → ((y : S.Op) → S.live e y ≡ true → (x ≡ y → ⊥) → st y ≡ unmarked → In y ever → ⊥)
      → length (lay_all S e st is) + length ever ≤ suc (length (add_all S.same ever (lay_all S e st is)))
  all_but x [] st ever h = omega arith
  all_but x (i ∷ is) st ever h =
      elim (cases_Bool (newly S e st i)) [
        | inl n ↦
            let p = newly_parts S L e st i n in
            elim (cases_op S L x i) [
              | inl d ↦
                  let k = all_new is (put S st i queued) (add S.same ever i) (λ y l u j. elim (cases_op S L x y) [
                    | inl b ↦ un_q _ u (put_at S L st i queued y (sym d ∙ b))
                    | inr nb ↦ off_more st ever i y (h y l nb) u j
                  ]) in
                  rw n (omega (arith, k, length_add S.same L.same_is L.same_self ever i))
              | inr nd ↦
                  let k = all_but x is (put S st i queued) (add S.same ever i) (λ y l nb u. off_more st ever i y (h y l nb) u) in
                  rw n (omega (arith, k, length_add_new S.same L.same_is L.same_self ever i (h i p.0 nd p.1)))
            ]
        | inr n ↦ rw n (all_but x is st ever h)
      ]

abbrev Bound : (S : Setting) → List (Moment S) → State S → Type 0
Bound S ms s = s.taken + length s.worklist ≤ length (ever_of ms) + s.rewrites + 9 * s.waits

module _ (S : Setting) (L : Laws S) where
  bound_step : (ms : List (Moment S)) (s : State S) (new : List (Moment S)) (t : State S) → S.Good s.env → Marked S L ms s → Bound S ms s → Step S s new t → Bound S (ms ++ new) t
  bound_step ms s new t ok m b (retype e st p pos k a) = omega (arith, ever_grows S L ms new)
  bound_step ms s new t ok m b (stale x rest st p w h a) = omega (arith, ap length w, ever_grows S L ms new)
  bound_step ms s new t ok m b (sets_aside x rest st p w lx qx c a) = omega (arith, ap length w, ever_grows S L ms new)
  bound_step ms s new t ok m b (wait x d rest ds st p w lx qx c f a) =
      let D = dues S s.env s.marks x in
      omega (arith, ap length w, length-append D (x ∷ rest), length_keep (due S s.env s.marks) (S.definers s.env x), L.definers_few s.env x ok lx, ever_grows S L ms new)
  bound_step ms s new t ok m b (rewrite x rest is e st p pz w lx qx c f k a) =
      let B = during S s.env s.marks x in
      let g = all_but S L e x is B (ever_of ms) (λ y l ne u i. elim (m.ever_marked y i) [
        | inl g ↦ both_ways _ (L.gone_dead e y (L.rewrite_gone s.env x e is ok k y g)) l
        | inr r ↦ r.1 (sym (during_off S L s.env s.marks x y ne ∙ kept_live S L s.env s.marks y r.0) ∙ u)
      ]) in
      let ev : ever_of (ms ++ new) ≡ add_all S.same (ever_of ms) (lay_all S e B is) =
      ever_append S ms new ∙ ap (add_all S.same (ever_of ms)) (rewrite_queues S s.env e s.marks B x (S.definers s.env x) is) in
      omega (arith, g, ap length w, length-append rest (lay_all S e B is), ap length ev)

  bound : (ms : List (Moment S)) (s : State S) → Reached S ms s → Bound S ms s
  bound ms s (begun e ws st p ok lv a) =
      omega (arith, all_new S L e ws (λ y. unmarked) [] (λ y l u i. i), ap length (ap (add_all S.same []) (queues_meet_all S e (λ y. unmarked) ws)))
  bound ms s (more {ms = ns} {new = new} {s = r} h k) = bound_step ns r new s (good S L ns r h) (marked S L ns r h) (bound ns r h) k

  pub taken_few : (ms : List (Moment S)) (s : State S) → Reached S ms s → s.taken + length s.worklist ≤ 2 * length (ever_of ms) + 9 * s.waits
  taken_few ms s h = omega (arith, bound ms s h, rewrites_few S L ms s (marked S L ms s h))
