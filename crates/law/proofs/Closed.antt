-- The law where a fault ends the run.
use Rattle.std.proofs.Common.{◌≡◌, ℕ, ◌+◌, ◌-◌, ◌*◌, ◌≤◌, true, false, List, [], ◌∷◌, ◌++◌, length, sym, ap, ◌∙◌, subst, inl, inr, arith}
use Rattle.std.proofs.lemmas.Bool.{both_ways}
use Rattle.law.specs.Lists.{In, Apart}
use Rattle.law.specs.Setting.{Setting}
use Rattle.law.specs.Laws.{Laws}
use Rattle.law.specs.Machine.{Moment, State, due, Reached}
use Rattle.law.specs.Law.{rewrite_of, rewrites_of, ever_of, Closes, Closed}
use Rattle.law.proofs.Lists.{apart_append}
use Rattle.law.proofs.Marks.{q_r}
use Rattle.law.proofs.Moments.{each_append, ever_grows}
use Rattle.law.proofs.Once.{Marked, marked, none_due}
use Rattle.law.proofs.Taken.{taken_few}
use Rattle.law.proofs.Waits.{waits_few, square, halves}

module _ (S : Setting) (L : Laws S) where
  pub room_grows : (w n m : ℕ) → n ≤ m → 2 * w + n ≤ n * n → 2 * w + m ≤ m * m
  room_grows w n m l h = go (m - n) (omega arith)
    where
      go : (j : ℕ) → m ≡ n + j → 2 * w + m ≤ m * m
      go j e = subst (λ z. 2 * w + z ≤ z * z) (sym e) (omega (arith, h, square j))

  once : (ms : List (Moment S)) (s : State S) → Marked S L ms s → (new : List (Moment S)) (t : State S) → Closes S s new t → Apart (rewrites_of (ms ++ new))
  once ms s m new t c =
      subst Apart (sym (each_append S rewrite_of ms new)) (elim c.at_most_it [
        | inl e ↦ subst (λ zs. Apart (rewrites_of ms ++ zs)) (sym e) (apart_append (rewrites_of ms) [] m.once tt (λ y i j. j))
        | inr e ↦ subst (λ zs. Apart (rewrites_of ms ++ zs)) (sym e.0) (apart_append (rewrites_of ms) (c.front ∷ []) m.once (λ i. i, tt) (λ y i j. elim j [
          | inl d ↦ elim (m.done y i) [
            | inl g ↦ both_ways _ (L.gone_dead s.env y g) (ap (S.live s.env) d ∙ e.1)
            | inr l ↦ q_r _ (ap s.marks d ∙ e.2) l.1
          ]
          | inr b ↦ b
        ]))
      ])

  ready : (s : State S) (new : List (Moment S)) (t : State S) → Closes S s new t → (x : S.Op) → In x (rewrites_of new)
      → (S.live s.env x ≡ true) × (S.convertible s.env x ≡ true) × ((d : S.Op) → In d (S.definers s.env x) → due S s.env s.marks d ≡ false)
  ready s new t c x i =
      elim c.at_most_it [
        | inl e ↦ absurd (subst (In x) e i)
        | inr e ↦ elim (subst (In x) e.0 i) [
          | inl d ↦ subst (λ z. (S.live s.env z ≡ true) × (S.convertible s.env z ≡ true) × ((d : S.Op) → In d (S.definers s.env z) → due S s.env s.marks d ≡ false)) (sym d)
              (e.1, e.3, none_due S L s c.front e.4)
          | inr j ↦ absurd j
        ]
      ]

  pub closed_law : (ms : List (Moment S)) (s : State S) → Reached S ms s → Closed S ms s
  closed_law ms s h = record {
    closed_once = λ new t c. once ms s (marked S L ms s h) new t c;
    closed_ready = λ new t c. ready s new t c;
    closed_waits = λ new t c.
        let n = length (ever_of (ms ++ new)) in
        halves t.waits n (subst (λ w. 2 * w + n ≤ n * n) (sym c.no_wait) (room_grows s.waits (length (ever_of ms)) n (ever_grows S L ms new) (waits_few S L ms s h)));
    closed_taken = λ new t c. omega (arith, taken_few S L ms s h, c.taken_one, c.no_wait, ever_grows S L ms new, ap length c.is_front);
  }
