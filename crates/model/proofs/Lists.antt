-- Lists and parents that agree still do after one is put in.
use Rattle.std.proofs.Common.{◌≡◌, ℕ, List, ◌∷◌, ◌++◌, Some, None, Option, sym, refl, ap, ◌∙◌, subst, inl, inr}
use Rattle.std.proofs.lemmas.Bool.{cases_eq, eq-eqb, ne_eqb}
use Rattle.lists.specs.Walk.{In, Apart, without}
use Rattle.lists.proofs.Chains.{some_none, some_some, in_right, split}
use Rattle.lists.proofs.Counts.{in_insert, in_inserted, apart_insert, apart_remove, apart_before, without_at}
use Rattle.model.specs.Model.{put}
use Rattle.model.specs.Sound.{Agree}

module _ {X : Type 0} (f : ℕ → X) (k : ℕ) (v : X) where
  pub put_same : put f k v k ≡ v
  put_same = rw (eq-eqb k k refl)

  pub put_other : (i : ℕ) → (i ≡ k → ⊥) → put f k v i ≡ f i
  put_other i n = rw (ne_eqb i k n)

-- x comes to stand between us and vs
pub agree_insert : (ms : ℕ → List ℕ) (h : ℕ → Option ℕ) (c x : ℕ) (us vs : List ℕ) → Agree ms h → ms c ≡ us ++ vs → h x ≡ None → Agree (put ms c (us ++ x ∷ vs)) (put h x (Some c))
agree_insert ms h c x us vs a e new = record {
  held = λ d y p. elim (cases_eq y x) [
    | inl q ↦
        let k = some_some d c (sym p ∙ ap (put h x (Some c)) q ∙ put_same h x (Some c)) in
        subst (In y) (sym (ap (put ms c (us ++ x ∷ vs)) k ∙ put_same ms c (us ++ x ∷ vs))) (subst (λ z. In z (us ++ x ∷ vs)) (sym q) (in_right x us (x ∷ vs) (inl refl)))
    | inr n ↦
        let i = a.held d y (sym (put_other h x (Some c) y n) ∙ p) in
        elim (cases_eq d c) [
          | inl q ↦ subst (In y) (sym (ap (put ms c (us ++ x ∷ vs)) q ∙ put_same ms c (us ++ x ∷ vs))) (in_inserted y x us vs (subst (In y) (ap ms q ∙ e) i))
          | inr m ↦ subst (In y) (sym (put_other ms c (us ++ x ∷ vs) d m)) i
        ]
  ];
  home = λ d y i. elim (cases_eq d c) [
    | inl q ↦ elim (in_insert y x us vs (subst (In y) (ap (put ms c (us ++ x ∷ vs)) q ∙ put_same ms c (us ++ x ∷ vs)) i)) [
      | inl p ↦ ap (put h x (Some c)) p ∙ put_same h x (Some c) ∙ ap Some (sym q)
      | inr j ↦ old y j ∙ ap Some (sym q)
    ]
    | inr n ↦
        let p = a.home d y (subst (In y) (put_other ms c (us ++ x ∷ vs) d n) i) in
        put_other h x (Some c) y (λ q. some_none d (sym p ∙ ap h q ∙ new)) ∙ p
  ];
  apart = λ d. elim (cases_eq d c) [
    | inl q ↦ subst Apart (sym (ap (put ms c (us ++ x ∷ vs)) q ∙ put_same ms c (us ++ x ∷ vs))) (apart_insert x us vs (subst Apart e (a.apart c)) fresh)
    | inr n ↦ subst Apart (sym (put_other ms c (us ++ x ∷ vs) d n)) (a.apart d)
  ];
}
  where
    fresh : In x (us ++ vs) → ⊥
    fresh i = some_none c (sym (a.home c x (subst (In x) (sym e) i)) ∙ new)

    old : (y : ℕ) → In y (us ++ vs) → put h x (Some c) y ≡ Some c
    old y j = put_other h x (Some c) y (λ q. fresh (subst (λ z. In z (us ++ vs)) q j)) ∙ a.home c y (subst (In y) (sym e) j)

-- x goes out of the list of c
remove_at : (ms : ℕ → List ℕ) (h : ℕ → Option ℕ) (c x : ℕ) (us vs : List ℕ) → ms c ≡ us ++ x ∷ vs → Agree ms h → h x ≡ Some c → Agree (put ms c (without x (ms c))) (put h x None)
remove_at ms h c x us vs is a at = record {
  held = λ d y p. elim (cases_eq y x) [
    | inl q ↦ absurd (some_none d (sym p ∙ ap (put h x None) q ∙ put_same h x None))
    | inr n ↦
        let i = a.held d y (sym (put_other h x None y n) ∙ p) in
        elim (cases_eq d c) [
          | inl q ↦ subst (In y) (sym (ap (put ms c (without x (ms c))) q ∙ here)) (elim (in_insert y x us vs (subst (In y) (ap ms q ∙ is) i)) [ inl e ↦ absurd (n e) | inr j ↦ j ])
          | inr m ↦ subst (In y) (sym (put_other ms c (without x (ms c)) d m)) i
        ]
  ];
  home = λ d y i. elim (cases_eq d c) [
    | inl q ↦
        let j = subst (In y) (ap (put ms c (without x (ms c))) q ∙ here) i in
        put_other h x None y (λ e. alone (subst (λ z. In z (us ++ vs)) e j)) ∙ a.home c y (subst (In y) (sym is) (in_inserted y x us vs j)) ∙ ap Some (sym q)
    | inr n ↦
        let p = a.home d y (subst (In y) (put_other ms c (without x (ms c)) d n) i) in
        put_other h x None y (λ q. n (some_some d c (sym p ∙ ap h q ∙ at))) ∙ p
  ];
  apart = λ d. elim (cases_eq d c) [
    | inl q ↦ subst Apart (sym (ap (put ms c (without x (ms c))) q ∙ here)) (apart_remove x us vs whole).0
    | inr n ↦ subst Apart (sym (put_other ms c (without x (ms c)) d n)) (a.apart d)
  ];
}
  where
    whole : Apart (us ++ x ∷ vs)
    whole = subst Apart is (a.apart c)

    alone : In x (us ++ vs) → ⊥
    alone = (apart_remove x us vs whole).1

    here : put ms c (without x (ms c)) c ≡ us ++ vs
    here = put_same ms c (without x (ms c)) ∙ ap (without x) is ∙ without_at x us vs (apart_before x us vs whole)

pub agree_remove : (ms : ℕ → List ℕ) (h : ℕ → Option ℕ) (c x : ℕ) → Agree ms h → h x ≡ Some c → Agree (put ms c (without x (ms c))) (put h x None)
agree_remove ms h c x a at = let p = split x (ms c) (a.held c x at) in remove_at ms h c x p.0 p.1 p.2 a at
