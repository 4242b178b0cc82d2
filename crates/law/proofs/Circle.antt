-- The chain of first due definers ends within 512 members, or never.
use Rattle.std.proofs.Common.{◌≡◌, suc, ◌<◌, true, ◌&&◌, List, [], ◌∷◌, length, sym, refl, ap, ◌∙◌, subst, inl, inr, arith}
use mathlib.Core.Path.{fun_ext}
use mathlib.Core.Option.{Option, some}
use Rattle.std.proofs.lemmas.Bool.{cases_Bool, both_ways}
use Rattle.law.specs.Lists.{In, Follows, first, keep}
use Rattle.law.specs.Setting.{Setting}
use Rattle.law.specs.Laws.{Laws}
use Rattle.law.specs.Machine.{Mark, queued, asking, Moment, State, due, dues, first_due, Step, retype, stale, sets_aside, wait, rewrite}
use Rattle.law.specs.Law.{Endless, Chains}
use Rattle.law.proofs.Lists.{first_some, none_some}
use Rattle.law.proofs.Chains.{endless, member_none, member_end}
use Rattle.law.proofs.Marks.{in_dues}

module _ (S : Setting) (L : Laws S) where
  pub first_due_lem : (e : S.Env) (st : S.Op → Mark) (x d : S.Op) → first_due S e st x ≡ some d → In d (dues S e st x)
  first_due_lem e st x d h = let r = first_some (dues S e st x) d h in subst (In d) (sym r.1) (inl refl)

  -- which operations are due rests on no more than whether they are asked
  pub due_same : (e : S.Env) (st st' : S.Op → Mark) → ((y : S.Op) → S.live e y ≡ true → asking (st' y) ≡ asking (st y)) → due S e st' ≡ due S e st
  due_same e st st' h = fun_ext (λ y. elim (cases_Bool (S.live e y)) [
    | inl l ↦ ap (λ b. S.live e y && b && S.convertible e y) (h y l)
    | inr d ↦ rw d refl
  ])

  pub first_same : (e : S.Env) (st st' : S.Op → Mark) → due S e st' ≡ due S e st → first_due S e st' ≡ first_due S e st
  first_same e st st' h = ap (λ p x. first (keep p (S.definers e x))) h

  module _ (s : State S) (ok : S.Good s.env) where
    abbrev next : S.Op → Option S.Op
    next = first_due S s.env s.marks

    abbrev Alive : S.Op → Type 0
    Alive x = S.live s.env x ≡ true

    alive_next : (x y : S.Op) → Alive x → next x ≡ some y → Alive y
    alive_next x y l h = (in_dues S L s.env s.marks x y (first_due_lem s.env s.marks x y h)).1

    pub chains : Chains S s
    chains = record {
      ends = λ x l h. let r = member_none next 512 x h in (r.0, r.1, r.2);
      never = λ x z l h. endless next L.slot 512 Alive alive_next (λ x l. L.slot_small s.env x ok l) (λ x y l k. L.slot_one s.env x y ok l k) x z l h;
      not_both = λ x ds f c. let r = c (suc (length ds)) in none_some r.0 (sym (member_end next (suc (length ds)) x ds f (omega arith)) ∙ r.1);
      stuck = stuck;
      goes = λ x rest z pz w lx qx c h f. go x rest z pz w lx qx c f (member_none next 512 x h);
    }
      where
        head : (x y : S.Op) (us vs : List S.Op) → x ∷ us ≡ y ∷ vs → x ≡ y
        head x y us vs e = cc

        stuck : (x : S.Op) (rest : List S.Op) → s.pending ≡ 0 → s.worklist ≡ x ∷ rest → S.live s.env x ≡ true → s.marks x ≡ queued → S.convertible s.env x ≡ true → Endless S s x
            → (new : List (Moment S)) (t : State S) → Step S s new t → ⊥
        stuck x rest pz w lx qx c n new t (retype e st p pos k a) = omega arith
        stuck x rest pz w lx qx c n new t (stale y rest' st p w' h a) =
            let e = head y x rest' rest (sym w' ∙ w) in
            h (ap (S.live s.env) e ∙ lx) (ap s.marks e ∙ qx)
        stuck x rest pz w lx qx c n new t (sets_aside y rest' st p w' ly qy cy a) =
            let e = head y x rest' rest (sym w' ∙ w) in
            both_ways _ cy (ap (S.convertible s.env) e ∙ c)
        stuck x rest pz w lx qx c n new t (wait y d rest' ds st p w' ly qy cy f a) =
            let e = head y x rest' rest (sym w' ∙ w) in
            let r = n (suc (suc (length ds))) in
            none_some r.0 (sym (member_end next (suc (suc (length ds))) x (d ∷ ds) (subst (λ z. Follows next z (d ∷ ds)) e f) (omega arith)) ∙ r.1)
        stuck x rest pz w lx qx c n new t (rewrite y rest' is e' st p pz' w' ly qy cy f k a) =
            let e = head y x rest' rest (sym w' ∙ w) in
            let r = n 1 in
            none_some r.0 (sym (member_end next 1 x [] (ap next (sym e) ∙ f) (omega arith)) ∙ r.1)

        go : (x : S.Op) (rest : List S.Op) (z : S.Op) → s.pending ≡ 0 → s.worklist ≡ x ∷ rest → S.live s.env x ≡ true → s.marks x ≡ queued → S.convertible s.env x ≡ true
            → first_due S s.env s.marks x ≡ some z → (ds : List S.Op) × Follows next x ds × (length ds < 512) → (new : List (Moment S)) × (t : State S) × Step S s new t
        go x rest z pz w lx qx c f ([], h, l) = absurd (none_some z (sym h ∙ f))
        go x rest z pz w lx qx c f (d ∷ ds, h, l) = (_, _, wait x d rest ds _ pz w lx qx c h (λ y ly. refl))
