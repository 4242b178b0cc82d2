-- What the rules do to marks.
use Rattle.std.proofs.Common.{◌≡◌, ℕ, Bool, true, false, cond, ◌&&◌, ◌⊎◌, List, [], ◌∷◌, sym, refl, ap, ◌∙◌, subst, inl, inr, arith}
use Rattle.std.proofs.lemmas.Bool.{cases_Bool, both_ways, and_parts, and_from, cond-true, cond-false}
use Rattle.law.specs.Lists.{In}
use Rattle.law.specs.Setting.{Setting}
use Rattle.law.specs.Laws.{Laws}
use Rattle.law.specs.Machine.{Mark, unmarked, queued, rewritten, aside, asking, is_unmarked, put, queue_all, kept, askable, due, dues, newly, mark_new, lay_new, mark_all, lay_all}
use Rattle.law.proofs.Lists.{in_left, in_right, in_cases, in_keep, cases_same, in_dec}

pub un_q : (m : Mark) → m ≡ unmarked → m ≡ queued → ⊥
un_q m d e = let z : ◌≡◌ {A = ℕ} 0 1 = cc in omega arith

pub un_r : (m : Mark) → m ≡ unmarked → m ≡ rewritten → ⊥
un_r m d e = let z : ◌≡◌ {A = ℕ} 0 1 = cc in omega arith

pub un_a : (m : Mark) → m ≡ unmarked → m ≡ aside → ⊥
un_a m d e = let z : ◌≡◌ {A = ℕ} 0 1 = cc in omega arith

pub q_r : (m : Mark) → m ≡ queued → m ≡ rewritten → ⊥
q_r m d e = let z : ◌≡◌ {A = ℕ} 0 1 = cc in omega arith

pub q_a : (m : Mark) → m ≡ queued → m ≡ aside → ⊥
q_a m d e = let z : ◌≡◌ {A = ℕ} 0 1 = cc in omega arith

pub r_a : (m : Mark) → m ≡ rewritten → m ≡ aside → ⊥
r_a m d e = let z : ◌≡◌ {A = ℕ} 0 1 = cc in omega arith

pub is_unmarked_lem : (m : Mark) → is_unmarked m ≡ true → m ≡ unmarked
is_unmarked_lem unmarked e = refl
is_unmarked_lem queued e = absurd (both_ways false refl e)
is_unmarked_lem rewritten e = absurd (both_ways false refl e)
is_unmarked_lem aside e = absurd (both_ways false refl e)

-- a mark under which one is asked
pub is_asking : (m : Mark) → asking m ≡ true → (m ≡ unmarked) ⊎ (m ≡ queued)
is_asking unmarked e = inl refl
is_asking queued e = inr refl
is_asking rewritten e = absurd (both_ways false refl e)
is_asking aside e = absurd (both_ways false refl e)

module _ (S : Setting) (L : Laws S) where
  pub cases_op : (x y : S.Op) → (x ≡ y) ⊎ (x ≡ y → ⊥)
  cases_op = cases_same S.same L.same_is L.same_self

  pub op_dec : (x : S.Op) (xs : List S.Op) → In x xs ⊎ (In x xs → ⊥)
  op_dec = in_dec S.same L.same_is L.same_self

  pub put_at : (st : S.Op → Mark) (x : S.Op) (m : Mark) (y : S.Op) → x ≡ y → put S st x m y ≡ m
  put_at st x m y e = cond-true (S.same x y) m (st y) (ap (S.same x) (sym e) ∙ L.same_self x)

  pub put_off : (st : S.Op → Mark) (x : S.Op) (m : Mark) (y : S.Op) → (x ≡ y → ⊥) → put S st x m y ≡ st y
  put_off st x m y ne = elim (cases_Bool (S.same x y)) [ inl t ↦ absurd (ne (L.same_is x y t)) | inr f ↦ cond-false (S.same x y) m (st y) f ]

  pub queue_in : (st : S.Op → Mark) (xs : List S.Op) (y : S.Op) → In y xs → queue_all S st xs y ≡ queued
  queue_in st [] y i = absurd i
  queue_in st (x ∷ xs) y (inl e) = put_at (queue_all S st xs) x queued y (sym e)
  queue_in st (x ∷ xs) y (inr i) =
      elim (cases_op x y) [
        | inl e ↦ put_at (queue_all S st xs) x queued y e
        | inr ne ↦ put_off (queue_all S st xs) x queued y ne ∙ queue_in st xs y i
      ]

  pub queue_out : (st : S.Op → Mark) (xs : List S.Op) (y : S.Op) → (In y xs → ⊥) → queue_all S st xs y ≡ st y
  queue_out st [] y ni = refl
  queue_out st (x ∷ xs) y ni = put_off (queue_all S st xs) x queued y (λ e. ni (inl (sym e))) ∙ queue_out st xs y (λ i. ni (inr i))

  pub kept_live : (e : S.Env) (st : S.Op → Mark) (y : S.Op) → S.live e y ≡ true → kept S e st y ≡ st y
  kept_live e st y l = cond-true (S.live e y) (st y) unmarked l

  pub kept_dead : (e : S.Env) (st : S.Op → Mark) (y : S.Op) → S.live e y ≡ false → kept S e st y ≡ unmarked
  kept_dead e st y l = cond-false (S.live e y) (st y) unmarked l

  -- a mark that is kept is one of a live operation
  pub kept_marked : (e : S.Env) (st : S.Op → Mark) (y : S.Op) → (kept S e st y ≡ unmarked → ⊥) → (S.live e y ≡ true) × (kept S e st y ≡ st y)
  kept_marked e st y n =
      elim (cases_Bool (S.live e y)) [ inl l ↦ (l, kept_live e st y l) | inr d ↦ absurd (n (kept_dead e st y d)) ]

  pub due_parts : (e : S.Env) (st : S.Op → Mark) (y : S.Op) → due S e st y ≡ true → (S.live e y ≡ true) × (asking (st y) ≡ true) × (S.convertible e y ≡ true)
  due_parts e st y h =
      let p = and_parts (askable S e st y) (S.convertible e y) h in
      let q = and_parts (S.live e y) (asking (st y)) p.0 in
      (q.0, q.1, p.1)

  pub due_from : (e : S.Env) (st : S.Op → Mark) (y : S.Op) → S.live e y ≡ true → asking (st y) ≡ true → S.convertible e y ≡ true → due S e st y ≡ true
  due_from e st y l a c = and_from (askable S e st y) (S.convertible e y) (and_from (S.live e y) (asking (st y)) l a) c

  pub in_dues : (e : S.Env) (st : S.Op → Mark) (x y : S.Op) → In y (dues S e st x)
      → In y (S.definers e x) × (S.live e y ≡ true) × (asking (st y) ≡ true) × (S.convertible e y ≡ true)
  in_dues e st x y i =
      let r = in_keep (due S e st) y (S.definers e x) i in
      let p = due_parts e st y r.1 in
      (r.0, p.0, p.1, p.2)

  pub newly_parts : (e : S.Env) (st : S.Op → Mark) (y : S.Op) → newly S e st y ≡ true → (S.live e y ≡ true) × (st y ≡ unmarked) × (S.convertible e y ≡ true)
  newly_parts e st y h =
      let p = and_parts (S.live e y && is_unmarked (st y)) (S.convertible e y) h in
      let q = and_parts (S.live e y) (is_unmarked (st y)) p.0 in
      (q.0, is_unmarked_lem (st y) q.1, p.1)

  newly_from : (e : S.Env) (st : S.Op → Mark) (y : S.Op) → S.live e y ≡ true → st y ≡ unmarked → S.convertible e y ≡ true → newly S e st y ≡ true
  newly_from e st y l u c =
      and_from (S.live e y && is_unmarked (st y)) (S.convertible e y) (and_from (S.live e y) (is_unmarked (st y)) l (ap is_unmarked u)) c

  pub mark_cases : (e : S.Env) (st : S.Op → Mark) (i y : S.Op) → (mark_new S e st i y ≡ st y) ⊎ ((i ≡ y) × (newly S e st i ≡ true) × (mark_new S e st i y ≡ queued))
  mark_cases e st i y =
      elim (cases_Bool (newly S e st i)) [
        | inl h ↦
            let m : mark_new S e st i ≡ put S st i queued = cond-true (newly S e st i) (put S st i queued) st h in
            elim (cases_op i y) [
              | inl d ↦ inr (d, h, ap (λ f. f y) m ∙ put_at st i queued y d)
              | inr ne ↦ inl (ap (λ f. f y) m ∙ put_off st i queued y ne)
            ]
        | inr h ↦ inl (ap (λ f. f y) (cond-false (newly S e st i) (put S st i queued) st h))
      ]

  lay_new_lem : (e : S.Env) (st : S.Op → Mark) (i : S.Op) → newly S e st i ≡ true → In i (lay_new S e st i)
  lay_new_lem e st i h = rw h (inl refl)

  new_laid : (e : S.Env) (st : S.Op → Mark) (i y : S.Op) → In y (lay_new S e st i) → (y ≡ i) × (newly S e st i ≡ true)
  new_laid e st i y h = go (newly S e st i) h
    where
      go : (b : Bool) → In y (cond b (i ∷ []) []) → (y ≡ i) × (b ≡ true)
      go true (inl d) = (d, refl)
      go true (inr j) = absurd j
      go false j = absurd j

  -- a batch leaves a mark, or queues one that had none
  pub batch_cases : (e : S.Env) (st : S.Op → Mark) (is : List S.Op) (y : S.Op)
      → (mark_all S e st is y ≡ st y) ⊎ ((mark_all S e st is y ≡ queued) × (st y ≡ unmarked) × In y (lay_all S e st is))
  batch_cases e st [] y = inl refl
  batch_cases e st (i ∷ is) y =
      elim (batch_cases e (mark_new S e st i) is y) [
        | inl h ↦ elim (mark_cases e st i y) [
          | inl k ↦ inl (h ∙ k)
          | inr k ↦ inr (h ∙ k.2, ap st (sym k.0) ∙ (newly_parts e st i k.1).1, in_left y (lay_new S e st i) _ (subst (λ z. In z (lay_new S e st i)) k.0 (lay_new_lem e st i k.1)))
        ]
        | inr h ↦ elim (mark_cases e st i y) [
          | inl k ↦ inr (h.0, sym k ∙ h.1, in_right y (lay_new S e st i) _ h.2)
          | inr k ↦ absurd (un_q _ h.1 k.2)
        ]
      ]

  -- what a batch lays
  pub batch_laid : (e : S.Env) (st : S.Op → Mark) (is : List S.Op) (y : S.Op) → In y (lay_all S e st is)
      → (S.live e y ≡ true) × (st y ≡ unmarked) × (mark_all S e st is y ≡ queued)
  batch_laid e st [] y j = absurd j
  batch_laid e st (i ∷ is) y j =
      elim (in_cases y (lay_new S e st i) (lay_all S e (mark_new S e st i) is) j) [
        | inl a ↦
            let r = new_laid e st i y a in
            let p = newly_parts e st i r.1 in
            let m : mark_new S e st i y ≡ queued = ap (λ f. f y) (cond-true (newly S e st i) (put S st i queued) st r.1) ∙ put_at st i queued y (sym r.0) in
            (ap (S.live e) r.0 ∙ p.0, ap st r.0 ∙ p.1, elim (batch_cases e (mark_new S e st i) is y) [ inl h ↦ h ∙ m | inr h ↦ h.0 ])
        | inr a ↦
            let r = batch_laid e (mark_new S e st i) is y a in
            elim (mark_cases e st i y) [
              | inl k ↦ (r.0, sym k ∙ r.1, r.2)
              | inr k ↦ absurd (un_q _ r.1 k.2)
            ]
      ]

  pub batch_lays : (e : S.Env) (st : S.Op → Mark) (is : List S.Op) (y : S.Op) → In y is → S.live e y ≡ true → st y ≡ unmarked → S.convertible e y ≡ true
      → In y (lay_all S e st is)
  batch_lays e st [] y j l u c = absurd j
  batch_lays e st (i ∷ is) y j l u c =
      elim (mark_cases e st i y) [
        | inr k ↦ in_left y (lay_new S e st i) _ (subst (λ z. In z (lay_new S e st i)) k.0 (lay_new_lem e st i k.1))
        | inl k ↦ elim j [
          | inl d ↦ in_left y (lay_new S e st i) _ (subst (λ z. In z (lay_new S e st i)) (sym d) (lay_new_lem e st i (subst (λ z. newly S e st z ≡ true) d (newly_from e st y l u c))))
          | inr a ↦ in_right y (lay_new S e st i) _ (batch_lays e (mark_new S e st i) is y a l (k ∙ u) c)
        ]
      ]
