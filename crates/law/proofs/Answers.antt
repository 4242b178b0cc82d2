-- What the last answer was.
use Rattle.std.proofs.Common.{◌≡◌, Bool, true, ◌&&◌, ◌⊎◌, List, [], ◌∷◌, ◌++◌, sym, refl, ap, ◌∙◌, subst, inl, inr}
use mathlib.Core.Option.{Option, none, some}
use Rattle.std.proofs.lemmas.Bool.{cases_Bool, both_ways, cond-true, cond-false}
use Rattle.law.specs.Lists.{In}
use Rattle.law.specs.Setting.{Setting}
use Rattle.law.specs.Laws.{Laws}
use Rattle.law.specs.Machine.{Mark, asking, Moment, met, asked, rewrote, askable, ask, ask_all, ask_along, queue_each, mark_new, lay_new, meet_all}
use Rattle.law.specs.Law.{answer_in, or_else, last_answer}
use Rattle.law.proofs.Lists.{in_cases, in_left, in_right}
use Rattle.law.proofs.Marks.{cases_op, mark_cases, newly_parts}

module _ (S : Setting) (L : Laws S) where
  or_none : (o : Option Bool) → or_else o none ≡ o
  or_none none = refl
  or_none (some b) = refl

  or_or : (o p q : Option Bool) → or_else (or_else o p) q ≡ or_else o (or_else p q)
  or_or none p q = refl
  or_or (some b) p q = refl

  last_append : (y : S.Op) (ms ns : List (Moment S)) → last_answer {S = S} y (ms ++ ns) ≡ or_else (last_answer {S = S} y ns) (last_answer {S = S} y ms)
  last_append y [] ns = sym (or_none _)
  last_append y (m ∷ ms) ns = ap (λ o. or_else o (answer_in {S = S} y m)) (last_append y ms ns) ∙ or_or (last_answer {S = S} y ns) (last_answer {S = S} y ms) (answer_in {S = S} y m)

  pub last_keep : (y : S.Op) (ms ns : List (Moment S)) → last_answer {S = S} y ns ≡ none → last_answer {S = S} y (ms ++ ns) ≡ last_answer {S = S} y ms
  last_keep y ms ns h = last_append y ms ns ∙ ap (λ o. or_else o (last_answer {S = S} y ms)) h

  pub last_new : (y : S.Op) (ms ns : List (Moment S)) (b : Bool) → last_answer {S = S} y ns ≡ some b → last_answer {S = S} y (ms ++ ns) ≡ some b
  last_new y ms ns b h = last_append y ms ns ∙ ap (λ o. or_else o (last_answer {S = S} y ms)) h

  -- in ns the operations qs were asked, as far as they may be, in one environment
  abbrev pub Asked : (e : S.Env) → (S.Op → Mark) → S.Op → List S.Op → List (Moment S) → Type 0
  Asked e st y qs ns = ((last_answer {S = S} y ns ≡ none) × (In y qs → askable S e st y ≡ true → ⊥)) ⊎ ((last_answer {S = S} y ns ≡ some (S.convertible e y)) × In y qs × (askable S e st y ≡ true))

  module _ (e : S.Env) (st : S.Op → Mark) (y : S.Op) where
    pub asked_append : (qs rs : List S.Op) (ms ns : List (Moment S)) → Asked e st y qs ms → Asked e st y rs ns → Asked e st y (qs ++ rs) (ms ++ ns)
    asked_append qs rs ms ns a (inr b) = inr (last_new y ms ns _ b.0, in_right y qs rs b.1, b.2)
    asked_append qs rs ms ns (inl a) (inl b) = inl (last_keep y ms ns b.0 ∙ a.0, λ i k. elim (in_cases y qs rs i) [ inl j ↦ a.1 j k | inr j ↦ b.1 j k ])
    asked_append qs rs ms ns (inr a) (inl b) = inr (last_keep y ms ns b.0 ∙ a.0, in_left y qs rs a.1, a.2)

    -- one question
    pub asked_is : (x : S.Op) (b : Bool) → S.convertible e x ≡ b → askable S e st x ≡ true → Asked e st y (x ∷ []) (asked x b ∷ [])
    asked_is x b c k =
        elim (cases_op S L x y) [
          | inl d ↦ inr (cond-true (S.same x y) (some b) none (ap (S.same x) (sym d) ∙ L.same_self x) ∙ ap some (sym c ∙ ap (S.convertible e) d), inl (sym d), ap (askable S e st) (sym d) ∙ k)
          | inr nd ↦ inl (
            elim (cases_Bool (S.same x y)) [
              | inl t ↦ absurd (nd (L.same_is x y t))
              | inr f ↦ cond-false (S.same x y) (some b) none f
            ],
            λ i k. elim i [ inl d ↦ nd (sym d) | inr j ↦ j ],
          )
        ]

    asked_ask : (x : S.Op) → Asked e st y (x ∷ []) (ask S e st x)
    asked_ask x =
        elim (cases_Bool (askable S e st x)) [
          | inl k ↦ subst (Asked e st y (x ∷ [])) (sym (cond-true (askable S e st x) (asked x (S.convertible e x) ∷ []) [] k)) (asked_is x (S.convertible e x) refl k)
          | inr k ↦ subst (Asked e st y (x ∷ [])) (sym (cond-false (askable S e st x) (asked x (S.convertible e x) ∷ []) [] k))
              (inl (refl, λ i h. elim i [ inl d ↦ both_ways _ k (ap (askable S e st) (sym d) ∙ h) | inr j ↦ j ]))
        ]

    pub asked_all : (ys : List S.Op) → Asked e st y ys (ask_all S e st ys)
    asked_all [] = inl (refl, λ i k. i)
    asked_all (x ∷ ys) = asked_append (x ∷ []) ys (ask S e st x) (ask_all S e st ys) (asked_ask x) (asked_all ys)

    pub asked_after : (qs : List S.Op) (ms ns : List (Moment S)) → last_answer {S = S} y ns ≡ none → Asked e st y qs ms → Asked e st y qs (ms ++ ns)
    asked_after qs ms ns h (inl a) = inl (last_keep y ms ns h ∙ a.0, a.1)
    asked_after qs ms ns h (inr a) = inr (last_keep y ms ns h ∙ a.0, a.1, a.2)

    asked_met : (x : S.Op) → Asked e st y (x ∷ []) (met x ∷ ask S e st x)
    asked_met x =
        subst (λ o. ((o ≡ none) × (In y (x ∷ []) → askable S e st y ≡ true → ⊥)) ⊎ ((o ≡ some (S.convertible e y)) × In y (x ∷ []) × (askable S e st y ≡ true)))
        (sym (or_none (last_answer {S = S} y (ask S e st x)))) (asked_ask x)

    pub asked_rewrote : (x : S.Op) (qs : List S.Op) (ns : List (Moment S)) → Asked e st y qs ns → Asked e st y qs (rewrote x ∷ ns)
    asked_rewrote x qs ns a =
        subst (λ o. ((o ≡ none) × (In y qs → askable S e st y ≡ true → ⊥)) ⊎ ((o ≡ some (S.convertible e y)) × In y qs × (askable S e st y ≡ true)))
        (sym (or_none (last_answer {S = S} y ns))) a

    -- the definers of each of xs
    abbrev pub along : List S.Op → List S.Op
    along [] = []
    along (x ∷ xs) = S.definers e x ++ along xs

    pub asked_along : (xs : List S.Op) → Asked e st y (along xs) (ask_along S e st xs)
    asked_along [] = inl (refl, λ i k. i)
    asked_along (x ∷ xs) = asked_append (S.definers e x) (along xs) (ask_all S e st (S.definers e x)) (ask_along S e st xs) (asked_all (S.definers e x)) (asked_along xs)

    pub in_along : (xs : List S.Op) → In y (along xs) → (z : S.Op) × In z xs × In y (S.definers e z)
    in_along [] i = absurd i
    in_along (x ∷ xs) i =
        elim (in_cases y (S.definers e x) (along xs) i) [
          | inl j ↦ (x, inl refl, j)
          | inr j ↦ let r = in_along xs j in (r.0, inr r.1, r.2)
        ]

  pub last_queue_each : (y : S.Op) (ys : List S.Op) → last_answer {S = S} y (queue_each S ys) ≡ none
  last_queue_each y [] = refl
  last_queue_each y (x ∷ ys) = or_none (last_answer {S = S} y (queue_each S ys)) ∙ last_queue_each y ys

  -- an entry does not change who is asked
  mark_askable : (e : S.Env) (st : S.Op → Mark) (x y : S.Op) → askable S e (mark_new S e st x) y ≡ askable S e st y
  mark_askable e st x y =
      ap (λ b. S.live e y && b) (elim (mark_cases S L e st x y) [
        | inl h ↦ ap asking h
        | inr h ↦ ap asking h.2 ∙ sym (ap asking (ap st (sym h.0) ∙ (newly_parts S L e st x h.1).1))
      ])

  pub asked_meet : (e : S.Env) (st : S.Op → Mark) (y : S.Op) (ys : List S.Op) → Asked e st y ys (meet_all S e st ys)
  asked_meet e st y [] = inl (refl, λ i k. i)
  asked_meet e st y (x ∷ ys) =
      asked_append e st y (x ∷ []) ys (met x ∷ ask S e st x ++ queue_each S (lay_new S e st x)) (meet_all S e (mark_new S e st x) ys)
      (asked_after e st y (x ∷ []) (met x ∷ ask S e st x) (queue_each S (lay_new S e st x)) (last_queue_each y (lay_new S e st x)) (asked_met e st y x))
      (subst (λ b. ((last_answer {S = S} y (meet_all S e (mark_new S e st x) ys) ≡ none) × (In y ys → b ≡ true → ⊥))
      ⊎ ((last_answer {S = S} y (meet_all S e (mark_new S e st x) ys) ≡ some (S.convertible e y)) × In y ys × (b ≡ true))) (mark_askable e st x y) (asked_meet e (mark_new S e st x) y ys))
