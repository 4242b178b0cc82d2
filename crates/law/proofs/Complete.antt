-- When no work is left, all that was met is settled.
use Rattle.std.proofs.Common.{◌≡◌, ℕ, zero, suc, ◌<◌, true, false, ◌⊎◌, List, [], ◌∷◌, ◌++◌, sym, refl, ap, ◌∙◌, subst, inl, inr, arith}
use mathlib.Core.Option.{none, some}
use Rattle.std.proofs.lemmas.Bool.{cases_Bool, both_ways, and_parts, and_from}
use Rattle.law.specs.Lists.{In, Follows, member, then}
use Rattle.law.specs.Setting.{Setting}
use Rattle.law.specs.Laws.{Laws}
use Rattle.law.specs.Machine.{Mark, unmarked, queued, rewritten, aside, asking, Moment, asked, rewrote, State, put, queue_all, kept, askable, due, dues, first_due, ask_all, ask_along, queue_each, meet_all, mark_all, lay_all, during, Agree, Step, retype, stale, sets_aside, wait, rewrite, Reached, begun, more}
use Rattle.law.specs.Law.{met_of, rewrites_of, mets_of, last_answer, Complete}
use Rattle.law.proofs.Lists.{in_cases, in_left, in_right, keep_in, first_none, first_some, none_some, some_some}
use Rattle.law.proofs.Chains.{follows_member}
use Rattle.law.proofs.Marks.{un_q, un_r, un_a, q_r, q_a, r_a, cases_op, op_dec, put_at, put_off, kept_live, kept_marked, due_from, in_dues, batch_cases, batch_laid, batch_lays}
use Rattle.law.proofs.Moves.{during_off, at_x, off_x}
use Rattle.law.proofs.Once.{good, marked}
use Rattle.law.proofs.Circle.{first_due_lem}
use Rattle.law.proofs.Waits.{wait_queued, wait_other, wait_due, wait_first}
use Rattle.law.proofs.Moments.{each_append, mets_meet_all, wait_mets, rewrite_mets}
use Rattle.law.proofs.Answers.{last_keep, last_new, Asked, asked_append, asked_after, asked_is, asked_all, asked_meet, asked_rewrote, along, asked_along, in_along, last_queue_each}

-- y was asked while a chain was followed, and will be queued: it is a due definer of a member of the chain from the front entry.
record Trail (S : Setting) (s : State S) (y : S.Op) : Type 0 where
  front : S.Op
  rest : List S.Op
  is_front : s.worklist ≡ front ∷ rest
  calm : s.pending ≡ 0
  live : S.live s.env front ≡ true
  queues : s.marks front ≡ queued
  converts : S.convertible s.env front ≡ true
  place : ℕ
  user : S.Op
  on_chain : member (first_due S s.env s.marks) place front ≡ some user
  defines : In y (S.definers s.env user)
  is_due : due S s.env s.marks y ≡ true

record Open (S : Setting) (L : Laws S) (ms : List (Moment S)) (s : State S) : Type 0 where
  aside_no : (y : S.Op) → S.live s.env y ≡ true → s.marks y ≡ aside → last_answer {S = S} y ms ≡ some false
  queued_in : (y : S.Op) → S.live s.env y ≡ true → s.marks y ≡ queued → In y s.worklist
  known : (y : S.Op) → In y (mets_of ms) → L.Gone s.env y ⊎ ((S.live s.env y ≡ true) × (s.marks y ≡ unmarked → (last_answer {S = S} y ms ≡ some false) ⊎ Trail S s y))

module _ (S : Setting) (L : Laws S) where
  heads : (x y : S.Op) (us vs zs : List S.Op) → zs ≡ x ∷ us → zs ≡ y ∷ vs → x ≡ y
  heads x y us vs zs d e = cc

  -- an answer about y in ns is no
  no_after : (y : S.Op) (ms ns : List (Moment S)) → last_answer {S = S} y ms ≡ some false → (last_answer {S = S} y ns ≡ none) ⊎ (last_answer {S = S} y ns ≡ some false)
      → last_answer {S = S} y (ms ++ ns) ≡ some false
  no_after y ms ns h (inl k) = last_keep S L y ms ns k ∙ h
  no_after y ms ns h (inr k) = last_new S L y ms ns false k

  not_asking : (e : S.Env) (st : S.Op → Mark) (y : S.Op) → askable S e st y ≡ true → asking (st y) ≡ false → ⊥
  not_asking e st y k n = both_ways _ n (and_parts (S.live e y) (asking (st y)) k).1

  open_begun : (e : S.Env) (ws : List S.Op) (st : S.Op → Mark) (p : ℕ) → ((y : S.Op) → In y ws → S.live e y ≡ true) → Agree S e st (mark_all S e (λ y. unmarked) ws)
      → Open S L (meet_all S e (λ y. unmarked) ws)
      (record { env = e; worklist = lay_all S e (λ y. unmarked) ws; marks = st; pending = p; taken = 0; rewrites = 0; waits = 0 })
  open_begun e ws st p lv a = record {
    aside_no = λ y l h. elim (batch_cases S L e (λ y. unmarked) ws y) [
      | inl k ↦ absurd (un_a _ (a y l ∙ k) h)
      | inr k ↦ absurd (q_a _ (a y l ∙ k.0) h)
    ];
    queued_in = λ y l h. elim (batch_cases S L e (λ y. unmarked) ws y) [
      | inl k ↦ absurd (un_q _ (a y l ∙ k) h)
      | inr k ↦ k.2
    ];
    known = λ y j.
        let i = subst (In y) (mets_meet_all S e (λ y. unmarked) ws) j in
        let l = lv y i in
        inr (
          l,
          λ u. inl (elim (asked_meet S L e (λ y. unmarked) y ws) [
            | inl k ↦ absurd (k.1 i (and_from (S.live e y) true l refl))
            | inr k ↦ elim (cases_Bool (S.convertible e y)) [
              | inl c ↦ absurd (un_q _ u (a y l ∙ (batch_laid S L e (λ y. unmarked) ws y (batch_lays S L e (λ y. unmarked) ws y i l refl c)).2))
              | inr c ↦ k.0 ∙ ap some c
            ]
          ]),
        );
  }

  open_retype : (ms : List (Moment S)) (s t : State S) → S.Good s.env → Open S L ms s → 0 < s.pending → S.Retype s.env t.env → ((y : S.Op) → S.live t.env y ≡ true → t.marks y ≡ kept S s.env s.marks y)
      → t.worklist ≡ s.worklist → Open S L (ms ++ []) t
  open_retype ms s t ok o pos k a w = record {
    aside_no = λ y l h.
        let p = kept_marked S L s.env s.marks y (λ u. un_a _ u (sym (a y l) ∙ h)) in
        last_keep S L y ms [] refl ∙ o.aside_no y p.0 (sym (a y l ∙ p.1) ∙ h);
    queued_in = λ y l h.
        let p = kept_marked S L s.env s.marks y (λ u. un_q _ u (sym (a y l) ∙ h)) in
        subst (In y) (sym w) (o.queued_in y p.0 (sym (a y l ∙ p.1) ∙ h));
    known = λ y j. elim (in_cases y (mets_of ms) [] (subst (In y) (each_append S met_of ms []) j)) [
      | inl i ↦ elim (o.known y i) [
        | inl g ↦ inl (L.retype_gone s.env t.env ok k y g)
        | inr l ↦ elim (L.retype_live s.env t.env ok k y l.0) [
          | inl lt ↦ inr (
            lt,
            λ u. elim (l.1 (sym (a y lt ∙ kept_live S L s.env s.marks y l.0) ∙ u)) [
              | inl h ↦ inl (last_keep S L y ms [] refl ∙ h)
              | inr r ↦ absurd (omega (arith, pos, r.calm))
            ],
          )
          | inr g ↦ inl g
        ]
      ]
      | inr i ↦ absurd i
    ];
  }

  open_stale : (ms : List (Moment S)) (s t : State S) → Open S L ms s → (x : S.Op) (rest : List S.Op) → s.worklist ≡ x ∷ rest → (S.live s.env x ≡ true → s.marks x ≡ queued → ⊥)
      → t.env ≡ s.env → ((y : S.Op) → S.live s.env y ≡ true → t.marks y ≡ s.marks y) → t.worklist ≡ rest → Open S L (ms ++ []) t
  open_stale ms s t o x rest w n ev a wt = record {
    aside_no = λ y l h. let ls = back y l in last_keep S L y ms [] refl ∙ o.aside_no y ls (sym (a y ls) ∙ h);
    queued_in = λ y l h.
        let ls = back y l in
        let q = sym (a y ls) ∙ h in
        elim (subst (In y) w (o.queued_in y ls q)) [
          | inl e ↦ absurd (n (ap (S.live s.env) (sym e) ∙ ls) (ap s.marks (sym e) ∙ q))
          | inr i ↦ subst (In y) (sym wt) i
        ];
    known = λ y j. elim (in_cases y (mets_of ms) [] (subst (In y) (each_append S met_of ms []) j)) [
      | inl i ↦ elim (o.known y i) [
        | inl g ↦ inl (subst (λ e. L.Gone e y) (sym ev) g)
        | inr l ↦ inr (
          subst (λ e. S.live e y ≡ true) (sym ev) l.0,
          λ u. elim (l.1 (sym (a y l.0) ∙ u)) [
            | inl h ↦ inl (last_keep S L y ms [] refl ∙ h)
            | inr r ↦
                let e = heads x r.front rest r.rest s.worklist w r.is_front in
                absurd (n (ap (S.live s.env) e ∙ r.live) (ap s.marks e ∙ r.queues))
          ],
        )
      ]
      | inr i ↦ absurd i
    ];
  }
    where
      back : (y : S.Op) → S.live t.env y ≡ true → S.live s.env y ≡ true
      back y l = subst (λ e. S.live e y ≡ true) ev l

  open_aside : (ms : List (Moment S)) (s t : State S) → Open S L ms s → (x : S.Op) (rest : List S.Op) → s.worklist ≡ x ∷ rest → S.live s.env x ≡ true → s.marks x ≡ queued → S.convertible s.env x ≡ false
      → t.env ≡ s.env → ((y : S.Op) → S.live s.env y ≡ true → t.marks y ≡ put S s.marks x aside y) → t.worklist ≡ rest → Open S L (ms ++ asked x false ∷ []) t
  open_aside ms s t o x rest w lx qx c ev a wt = record {
    aside_no = λ y l h.
        let ls = back y l in
        elim (cases_op S L x y) [
          | inl e ↦ elim (asks y) [ inl k ↦ absurd (k.1 (inl (sym e)) (subst (λ z. askable S s.env s.marks z ≡ true) e can)) | inr k ↦ last_new S L y ms _ false (k.0 ∙ ap some (ap (S.convertible s.env) (sym e) ∙ c)) ]
          | inr ne ↦ others y ne (o.aside_no y ls (sym (a y ls ∙ put_off S L s.marks x aside y ne) ∙ h))
        ];
    queued_in = λ y l h.
        let ls = back y l in
        elim (cases_op S L x y) [
          | inl e ↦ absurd (q_a _ h (a y ls ∙ put_at S L s.marks x aside y e))
          | inr ne ↦ elim (subst (In y) w (o.queued_in y ls (sym (a y ls ∙ put_off S L s.marks x aside y ne) ∙ h))) [
            | inl e ↦ absurd (ne (sym e))
            | inr i ↦ subst (In y) (sym wt) i
          ]
        ];
    known = λ y j. elim (in_cases y (mets_of ms) [] (subst (In y) (each_append S met_of ms (asked x false ∷ [])) j)) [
      | inl i ↦ elim (o.known y i) [
        | inl g ↦ inl (subst (λ e. L.Gone e y) (sym ev) g)
        | inr l ↦ inr (
          subst (λ e. S.live e y ≡ true) (sym ev) l.0,
          λ u. elim (cases_op S L x y) [
            | inl e ↦ absurd (un_a _ u (a y l.0 ∙ put_at S L s.marks x aside y e))
            | inr ne ↦ elim (l.1 (sym (a y l.0 ∙ put_off S L s.marks x aside y ne) ∙ u)) [
              | inl h ↦ inl (others y ne h)
              | inr r ↦ absurd (both_ways _ c (ap (S.convertible s.env) (heads x r.front rest r.rest s.worklist w r.is_front) ∙ r.converts))
            ]
          ],
        )
      ]
      | inr i ↦ absurd i
    ];
  }
    where
      back : (y : S.Op) → S.live t.env y ≡ true → S.live s.env y ≡ true
      back y l = subst (λ e. S.live e y ≡ true) ev l

      can : askable S s.env s.marks x ≡ true
      can = and_from (S.live s.env x) (asking (s.marks x)) lx (ap asking qx)

      asks : (y : S.Op) → Asked S L s.env s.marks y (x ∷ []) (asked x false ∷ [])
      asks y = asked_is S L s.env s.marks y x false c can

      others : (y : S.Op) → (x ≡ y → ⊥) → last_answer {S = S} y ms ≡ some false → last_answer {S = S} y (ms ++ asked x false ∷ []) ≡ some false
      others y ne h = elim (asks y) [
        | inl k ↦ last_keep S L y ms _ k.0 ∙ h
        | inr k ↦ elim k.1 [ inl e ↦ absurd (ne (sym e)) | inr j ↦ absurd j ]
      ]

  open_wait : (ms : List (Moment S)) (s t : State S) → Open S L ms s → (x d : S.Op) (rest ds : List S.Op) → s.worklist ≡ x ∷ rest
      → S.live s.env x ≡ true → s.marks x ≡ queued → S.convertible s.env x ≡ true → Follows (first_due S s.env s.marks) x (d ∷ ds)
      → t.env ≡ s.env → t.pending ≡ 0 → Agree S s.env t.marks (queue_all S s.marks (dues S s.env s.marks x))
      → t.worklist ≡ dues S s.env s.marks x ++ x ∷ rest → Open S L (ms ++ (asked x true ∷ ask_along S s.env s.marks (x ∷ d ∷ ds) ++ queue_each S (dues S s.env s.marks x ++ x ∷ []))) t
  open_wait ms s t o x d rest ds w lx qx c f ev pt a wt = record {
    aside_no = λ y l h.
        let ls = back y l in
        elim (op_dec S L y D) [
          | inl i ↦ absurd (q_a _ (wait_queued S L s.env s.marks t.marks x a y ls i) h)
          | inr ni ↦
              let q = sym (wait_other S L s.env s.marks t.marks x a y ls ni) ∙ h in
              no_after y ms new (o.aside_no y ls q) (elim (asks y) [ inl k ↦ inl k.0 | inr k ↦ absurd (not_asking s.env s.marks y k.2 (ap asking q)) ])
        ];
    queued_in = λ y l h.
        let ls = back y l in
        subst (In y) (sym wt) (elim (op_dec S L y D) [
          | inl i ↦ in_left y D (x ∷ rest) i
          | inr ni ↦ in_right y D (x ∷ rest) (subst (In y) w (o.queued_in y ls (sym (wait_other S L s.env s.marks t.marks x a y ls ni) ∙ h)))
        ]);
    known = λ y j. elim (in_cases y (mets_of ms) [] (subst (λ zs. In y (mets_of ms ++ zs)) (wait_mets S s.env s.marks x (x ∷ d ∷ ds) (D ++ x ∷ [])) (subst (In y) (each_append S met_of ms new) j))) [
      | inl i ↦ elim (o.known y i) [
        | inl g ↦ inl (subst (λ e. L.Gone e y) (sym ev) g)
        | inr l ↦ inr (
          subst (λ e. S.live e y ≡ true) (sym ev) l.0,
          λ u.
              let ni : In y D → ⊥ = λ i. un_q _ u (wait_queued S L s.env s.marks t.marks x a y l.0 i) in
              let us = sym (wait_other S L s.env s.marks t.marks x a y l.0 ni) ∙ u in
              elim (asks y) [
                | inl k ↦ elim (l.1 us) [
                  | inl h ↦ inl (last_keep S L y ms new k.0 ∙ h)
                  | inr r ↦ inr (onward y ni r)
                ]
                | inr k ↦ elim (cases_Bool (S.convertible s.env y)) [
                  | inl cy ↦ inr (reached y ni (λ e. un_q _ us (ap s.marks e ∙ qx)) (due_from S L s.env s.marks y l.0 (ap asking us) cy) k.1)
                  | inr cy ↦ inl (last_new S L y ms new false (k.0 ∙ ap some cy))
                ]
              ],
        )
      ]
      | inr i ↦ absurd i
    ];
  }
    where
      D : List S.Op
      D = dues S s.env s.marks x

      new : List (Moment S)
      new = asked x true ∷ ask_along S s.env s.marks (x ∷ d ∷ ds) ++ queue_each S (D ++ x ∷ [])

      back : (y : S.Op) → S.live t.env y ≡ true → S.live s.env y ≡ true
      back y l = subst (λ e. S.live e y ≡ true) ev l

      asks : (y : S.Op) → Asked S L s.env s.marks y (x ∷ along S L s.env s.marks y (x ∷ d ∷ ds)) new
      asks y =
          asked_after S L s.env s.marks y (x ∷ along S L s.env s.marks y (x ∷ d ∷ ds)) (asked x true ∷ ask_along S s.env s.marks (x ∷ d ∷ ds)) (queue_each S (D ++ x ∷ []))
          (last_queue_each S L y (D ++ x ∷ []))
          (asked_append S L s.env s.marks y (x ∷ []) (along S L s.env s.marks y (x ∷ d ∷ ds)) (asked x true ∷ []) (ask_along S s.env s.marks (x ∷ d ∷ ds))
          (asked_is S L s.env s.marks y x true c (and_from (S.live s.env x) (asking (s.marks x)) lx (ap asking qx)))
          (asked_along S L s.env s.marks y (x ∷ d ∷ ds)))

      -- a definer of a member of the chain from d, the new front entry
      trail : (y : S.Op) (k : ℕ) (z : S.Op) → member (first_due S s.env s.marks) k d ≡ some z → In y (S.definers s.env z) → due S s.env s.marks y ≡ true → Trail S t y
      trail y k z h i v =
          let j = first_due_lem S L s.env s.marks x d f.0 in
          let r = in_dues S L s.env s.marks x d j in
          let q = first_some D d f.0 in
          record {
            front = d;
            rest = q.0 ++ x ∷ rest;
            is_front = wt ∙ ap (λ zs. zs ++ x ∷ rest) q.1;
            calm = pt;
            live = subst (λ e. S.live e d ≡ true) (sym ev) r.1;
            queues = wait_queued S L s.env s.marks t.marks x a d r.1 j;
            converts = subst (λ e. S.convertible e d ≡ true) (sym ev) r.3;
            place = k;
            user = z;
            on_chain = subst (λ e. member (first_due S e t.marks) k d ≡ some z) (sym ev) (subst (λ g. member g k d ≡ some z) (sym (wait_first S L s.env s.marks t.marks x a)) h);
            defines = subst (λ e. In y (S.definers e z)) (sym ev) i;
            is_due = subst (λ e. due S e t.marks y ≡ true) (sym ev) (ap (λ g. g y) (wait_due S L s.env s.marks t.marks x a) ∙ v);
          }

      -- a trail goes on from the new front entry
      onward : (y : S.Op) → (In y D → ⊥) → Trail S s y → Trail S t y
      onward y ni r = go r.place (subst (λ z. member (first_due S s.env s.marks) r.place z ≡ some r.user) (sym (heads x r.front rest r.rest s.worklist w r.is_front)) r.on_chain)
        where
          go : (k : ℕ) → member (first_due S s.env s.marks) k x ≡ some r.user → Trail S t y
          go zero h =
              absurd (ni (keep_in (due S s.env s.marks) y (S.definers s.env x) (subst (λ z. In y (S.definers s.env z)) (sym (some_some x r.user h)) r.defines) r.is_due))
          go (suc k) h = trail y k r.user (sym (ap (λ g. then g (member (first_due S s.env s.marks) k)) f.0) ∙ h) r.defines r.is_due

      -- and so does one that was just asked
      reached : (y : S.Op) → (In y D → ⊥) → (y ≡ x → ⊥) → due S s.env s.marks y ≡ true → In y (x ∷ along S L s.env s.marks y (x ∷ d ∷ ds)) → Trail S t y
      reached y ni ne v (inl e) = absurd (ne e)
      reached y ni ne v (inr i) =
          let r = in_along S L s.env s.marks y (x ∷ d ∷ ds) i in
          elim r.1 [
            | inl e ↦ absurd (ni (keep_in (due S s.env s.marks) y (S.definers s.env x) (subst (λ z. In y (S.definers s.env z)) e r.2) v))
            | inr j ↦
                let p = follows_member (first_due S s.env s.marks) d ds f.1 r.0 j in
                trail y p.0 r.0 p.1 r.2 v
          ]

  open_rewrite : (ms : List (Moment S)) (s t : State S) → S.Good s.env → Open S L ms s → (x : S.Op) (rest is : List S.Op) → s.worklist ≡ x ∷ rest
      → S.live s.env x ≡ true → s.marks x ≡ queued → S.convertible s.env x ≡ true → first_due S s.env s.marks x ≡ none
      → S.Rewrite s.env x t.env is → Agree S t.env t.marks (put S (mark_all S t.env (during S s.env s.marks x) is) x rewritten)
      → t.worklist ≡ rest ++ lay_all S t.env (during S s.env s.marks x) is
      → Open S L (ms ++ (asked x true ∷ ask_all S s.env s.marks (S.definers s.env x) ++ rewrote x ∷ meet_all S t.env (during S s.env s.marks x) is)) t
  open_rewrite ms s t ok o x rest is w lx qx c f k a wt = record {
    aside_no = λ y l h. elim (cases_op S L x y) [
      | inl e ↦ absurd (r_a _ (at_y y e l) h)
      | inr ne ↦ elim (off y ne l) [
        | inl m ↦
            let p = kept_marked S L s.env s.marks y (λ u. un_a _ u (sym m ∙ h)) in
            let q = sym (m ∙ p.1) ∙ h in
            no_after y ms new (o.aside_no y p.0 q) (news y
            (elim (asks y) [ inl b ↦ inl b.0 | inr b ↦ absurd (not_asking s.env s.marks y b.2 (ap asking q)) ])
            (elim (meets y) [ inl b ↦ inl b.0 | inr b ↦ absurd (not_asking t.env B y b.2 (ap asking (during_off S L s.env s.marks x y ne ∙ sym m ∙ h))) ]))
        | inr m ↦ absurd (q_a _ m.0 h)
      ]
    ];
    queued_in = λ y l h. elim (cases_op S L x y) [
      | inl e ↦ absurd (q_r _ h (at_y y e l))
      | inr ne ↦ subst (In y) (sym wt) (elim (off y ne l) [
        | inl m ↦
            let p = kept_marked S L s.env s.marks y (λ u. un_q _ u (sym m ∙ h)) in
            elim (subst (In y) w (o.queued_in y p.0 (sym (m ∙ p.1) ∙ h))) [
              | inl e ↦ absurd (ne (sym e))
              | inr i ↦ in_left y rest _ i
            ]
        | inr m ↦ in_right y rest _ m.2
      ])
    ];
    known = λ y j. elim (in_cases y (mets_of ms) (mets_of new) (subst (In y) (each_append S met_of ms new) j)) [
      | inl i ↦ elim (o.known y i) [
        | inl g ↦ inl (L.rewrite_gone s.env x t.env is ok k y g)
        | inr l ↦ elim (L.rewrite_live s.env x t.env is ok k y l.0) [
          | inl lt ↦ inr (
            lt,
            λ u.
                let ne : x ≡ y → ⊥ = λ e. un_r _ u (at_y y e lt) in
                let b = plain y ne lt u in
                let us = sym (kept_live S L s.env s.marks y l.0) ∙ sym (during_off S L s.env s.marks x y ne) ∙ b in
                elim (l.1 us) [
                  | inl h ↦ inl (no_after y ms new h (news y (asked_no y ne l.0 us) (met_no y ne lt u)))
                  | inr r ↦ absurd (no_trail y r)
                ],
          )
          | inr g ↦ inl g
        ]
      ]
      | inr i ↦ elim (L.rewrite_inserted s.env x t.env is ok k y (subst (In y) mets_new i)) [
        | inl lt ↦ inr (
          lt,
          λ u.
              let ne : x ≡ y → ⊥ = λ e. un_r _ u (at_y y e lt) in
              inl (last_new S L y ms new false (last_new S L y first_part second_part false (elim (met_no y ne lt u) [
                | inl h ↦ absurd (elim (meets y) [
                  | inl b ↦ b.1 (subst (In y) mets_new i) (and_from (S.live t.env y) (asking (B y)) lt (ap asking (plain y ne lt u)))
                  | inr b ↦ none_some (S.convertible t.env y) (sym h ∙ b.0)
                ])
                | inr h ↦ h
              ]))),
        )
        | inr g ↦ inl g
      ]
    ];
  }
    where
      B : S.Op → Mark
      B = during S s.env s.marks x

      first_part : List (Moment S)
      first_part = asked x true ∷ ask_all S s.env s.marks (S.definers s.env x)

      second_part : List (Moment S)
      second_part = rewrote x ∷ meet_all S t.env B is

      new : List (Moment S)
      new = first_part ++ second_part

      mets_new : mets_of new ≡ is
      mets_new = rewrite_mets S s.env t.env s.marks B x (S.definers s.env x) is

      at_y : (y : S.Op) → x ≡ y → S.live t.env y ≡ true → t.marks y ≡ rewritten
      at_y y e l = subst (λ z. S.live t.env z ≡ true → t.marks z ≡ rewritten) e (at_x S L s t x is lx qx k a) l

      off : (y : S.Op) → (x ≡ y → ⊥) → S.live t.env y ≡ true
          → (t.marks y ≡ kept S s.env s.marks y) ⊎ ((t.marks y ≡ queued) × (kept S s.env s.marks y ≡ unmarked) × In y (lay_all S t.env B is))
      off = off_x S L s t x is lx qx k a

      asks : (y : S.Op) → Asked S L s.env s.marks y (x ∷ S.definers s.env x) first_part
      asks y =
          asked_append S L s.env s.marks y (x ∷ []) (S.definers s.env x) (asked x true ∷ []) (ask_all S s.env s.marks (S.definers s.env x))
          (asked_is S L s.env s.marks y x true c (and_from (S.live s.env x) (asking (s.marks x)) lx (ap asking qx)))
          (asked_all S L s.env s.marks y (S.definers s.env x))

      meets : (y : S.Op) → Asked S L t.env B y is second_part
      meets y = asked_rewrote S L t.env B y x is (meet_all S t.env B is) (asked_meet S L t.env B y is)

      -- both parts
      news : (y : S.Op) → (last_answer {S = S} y first_part ≡ none) ⊎ (last_answer {S = S} y first_part ≡ some false) → (last_answer {S = S} y second_part ≡ none) ⊎ (last_answer {S = S} y second_part ≡ some false)
          → (last_answer {S = S} y new ≡ none) ⊎ (last_answer {S = S} y new ≡ some false)
      news y (inl h) (inl g) = inl (last_keep S L y first_part second_part g ∙ h)
      news y (inr h) (inl g) = inr (last_keep S L y first_part second_part g ∙ h)
      news y h (inr g) = inr (last_new S L y first_part second_part false g)

      -- one that is unmarked after the batch was unmarked before it
      plain : (y : S.Op) → (x ≡ y → ⊥) → S.live t.env y ≡ true → t.marks y ≡ unmarked → B y ≡ unmarked
      plain y ne l u = elim (off y ne l) [ inl m ↦ during_off S L s.env s.marks x y ne ∙ sym m ∙ u | inr m ↦ absurd (un_q _ u m.0) ]

      due_none : (y : S.Op) → In y (S.definers s.env x) → due S s.env s.marks y ≡ true → ⊥
      due_none y i v = first_none (dues S s.env s.marks x) f y (keep_in (due S s.env s.marks) y (S.definers s.env x) i v)

      asked_no : (y : S.Op) → (x ≡ y → ⊥) → S.live s.env y ≡ true → s.marks y ≡ unmarked → (last_answer {S = S} y first_part ≡ none) ⊎ (last_answer {S = S} y first_part ≡ some false)
      asked_no y ne l u = elim (asks y) [
        | inl b ↦ inl b.0
        | inr b ↦ elim (cases_Bool (S.convertible s.env y)) [
          | inl cy ↦ elim b.1 [ inl e ↦ absurd (ne (sym e)) | inr i ↦ absurd (due_none y i (due_from S L s.env s.marks y l (ap asking u) cy)) ]
          | inr cy ↦ inr (b.0 ∙ ap some cy)
        ]
      ]

      met_no : (y : S.Op) → (x ≡ y → ⊥) → S.live t.env y ≡ true → t.marks y ≡ unmarked → (last_answer {S = S} y second_part ≡ none) ⊎ (last_answer {S = S} y second_part ≡ some false)
      met_no y ne l u = elim (meets y) [
        | inl b ↦ inl b.0
        | inr b ↦ elim (cases_Bool (S.convertible t.env y)) [
          | inl cy ↦
              let i = batch_lays S L t.env B is y b.1 l (plain y ne l u) cy in
              absurd (un_q _ u (a y l ∙ put_off S L (mark_all S t.env B is) x rewritten y ne ∙ (batch_laid S L t.env B is y i).2))
          | inr cy ↦ inr (b.0 ∙ ap some cy)
        ]
      ]

      no_trail : (y : S.Op) → Trail S s y → ⊥
      no_trail y r = go r.place (subst (λ z. member (first_due S s.env s.marks) r.place z ≡ some r.user) (sym (heads x r.front rest r.rest s.worklist w r.is_front)) r.on_chain)
        where
          go : (k : ℕ) → member (first_due S s.env s.marks) k x ≡ some r.user → ⊥
          go zero h = due_none y (subst (λ z. In y (S.definers s.env z)) (sym (some_some x r.user h)) r.defines) r.is_due
          go (suc k) h = none_some r.user (sym (ap (λ g. then g (member (first_due S s.env s.marks) k)) f) ∙ h)

  open_step : (ms : List (Moment S)) (s : State S) (new : List (Moment S)) (t : State S) → S.Good s.env → Open S L ms s → Step S s new t → Open S L (ms ++ new) t
  open_step ms s new t ok o (retype e st p pos k a) = open_retype ms s t ok o pos k a refl
  open_step ms s new t ok o (stale x rest st p w h a) = open_stale ms s t o x rest w h refl a refl
  open_step ms s new t ok o (sets_aside x rest st p w lx qx c a) = open_aside ms s t o x rest w lx qx c refl a refl
  open_step ms s new t ok o (wait x d rest ds st p w lx qx c f a) = open_wait ms s t o x d rest ds w lx qx c f refl refl a refl
  open_step ms s new t ok o (rewrite x rest is e st p pz w lx qx c f k a) = open_rewrite ms s t ok o x rest is w lx qx c f k a refl

  all_open : (ms : List (Moment S)) (s : State S) → Reached S ms s → Open S L ms s
  all_open ms s (begun e ws st p ok lv a) = open_begun e ws st p lv a
  all_open ms s (more {ms = ns} {new = new} {s = r} h k) = open_step ns r new s (good S L ns r h) (all_open ns r h) k

  pub complete_law : (ms : List (Moment S)) (s : State S) → Reached S ms s → Complete S ms s
  complete_law ms s h = record {
    complete = λ w p y i. elim (o.known y i) [
      | inl g ↦ inr (inl (L.gone_dead s.env y g))
      | inr l ↦ go w y l.0 l.1 (s.marks y) refl
    ];
  }
    where
      o : Open S L ms s
      o = all_open ms s h

      go : s.worklist ≡ [] → (y : S.Op) → S.live s.env y ≡ true → (s.marks y ≡ unmarked → (last_answer {S = S} y ms ≡ some false) ⊎ Trail S s y) → (m : Mark) → s.marks y ≡ m
          → In y (rewrites_of ms) ⊎ ((S.live s.env y ≡ false) ⊎ (last_answer {S = S} y ms ≡ some false))
      go w y l kn unmarked e = elim (kn e) [ inl n ↦ inr (inr n) | inr r ↦ absurd (let z : ◌≡◌ {A = List S.Op} [] (r.front ∷ r.rest) = sym w ∙ r.is_front in let q : ◌≡◌ {A = ℕ} 0 1 = cc in omega arith) ]
      go w y l kn queued e = absurd (subst (In y) w (o.queued_in y l e))
      go w y l kn rewritten e = inl ((marked S L ms s h).rewritten_done y l e)
      go w y l kn aside e = inr (inr (o.aside_no y l e))
