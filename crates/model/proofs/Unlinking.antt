-- A store in which an operation was taken out of its block is sound.
use Rattle.std.proofs.Common.{◌≡◌, ℕ, zero, suc, ◌||◌, eqb, Some, None, Option, sym, refl, ap, ◌∙◌, inl, inr}
use Rattle.std.proofs.lemmas.Bool.{cases_eq, eq-eqb}
use Rattle.lists.proofs.Chains.{some_none}
use Rattle.model.specs.Model.{Model, put, bind, above, up, inside_by, whether}
use Rattle.model.specs.Calls.{unlink_at}
use Rattle.model.specs.Sound.{Sound, Steps}
use Rattle.model.proofs.Frames.{values_kept}
use Rattle.model.proofs.Lists.{put_same, put_other, agree_remove}

module _ (m : Model) (s b : ℕ) (at : m.home_of s ≡ Some b) (σ : Sound m) where
  n : Model
  n = unlink_at m s (Some b)

  up_other : (t : ℕ) → (t ≡ s → ⊥) → up n t ≡ up m t
  unfolding n
  up_other t ne = ap (λ z. bind z (above m)) (put_other m.home_of s None t ne)

  up_here : up n s ≡ None
  unfolding n
  up_here = ap (λ z. bind z (above m)) (put_same m.home_of s None)

  ends : (k t : ℕ) → Steps (up m) k t → (j : ℕ) × Steps (up n) j t
  ends zero t h = elim (cases_eq t s) [ inl e ↦ (zero, ap (up n) e ∙ up_here) | inr ne ↦ (zero, up_other t ne ∙ h) ]
  ends (suc k) t h =
      let r = ends k h.0 h.2 in
      elim (cases_eq t s) [ inl e ↦ (zero, ap (up n) e ∙ up_here) | inr ne ↦ (suc r.0, (h.0, up_other t ne ∙ h.1, r.1)) ]

  sound : Sound n
  unfolding n
  sound = record {
    operands = λ t g x e. values_kept m n (λ _ _ _ e. e) (λ _ _ _ e. e) x.operands (σ.operands t g x e);
    owned = σ.owned;
    apart = σ.apart;
    owners = σ.owners;
    ops = agree_remove m.ops_of m.home_of b s σ.ops at;
    blocks = σ.blocks;
    op_in = λ t c e. elim (cases_eq t s) [
      | inl d ↦ absurd (some_none c (sym e ∙ ap (put m.home_of s None) d ∙ put_same m.home_of s None))
      | inr ne ↦ σ.op_in t c (sym (put_other m.home_of s None t ne) ∙ e)
    ];
    block_in = σ.block_in;
    placed = σ.placed;
    ends = λ t. ends (σ.ends t).0 t (σ.ends t).1;
  }

pub unlink_sound : (m : Model) (s : ℕ) (q : Option ℕ) → m.home_of s ≡ q → Sound m → Sound (unlink_at m s q)
unfolding n
unlink_sound m s None e σ = σ
unlink_sound m s (Some b) e σ = sound m s b e σ

-- what lies inside the operation does so still
pub inside_unlinked : (m : Model) (s h k c : ℕ) → inside_by k (unlink_at m s (Some h)) s c ≡ inside_by k m s c
inside_unlinked m s h zero c = refl
inside_unlinked m s h (suc k) c = at (above m c) (inside_unlinked m s h k)
  where
    on : (q : Option ℕ) → ((d : ℕ) → inside_by k (unlink_at m s (Some h)) s d ≡ inside_by k m s d) → whether q (inside_by k (unlink_at m s (Some h)) s) ≡ whether q (inside_by k m s)
    on None rec = refl
    on (Some d) rec = rec d

    at : (q : Option ℕ) → ((d : ℕ) → inside_by k (unlink_at m s (Some h)) s d ≡ inside_by k m s d)
        → whether q (λ p. eqb p s || whether (put m.home_of s None p) (inside_by k (unlink_at m s (Some h)) s)) ≡ whether q (λ p. eqb p s || whether (m.home_of p) (inside_by k m s))
    at None rec = refl
    at (Some p) rec = elim (cases_eq p s) [
      | inl e ↦ ap (λ b. b || whether (put m.home_of s None p) (inside_by k (unlink_at m s (Some h)) s)) (eq-eqb p s e) ∙ sym (ap (λ b. b || whether (m.home_of p) (inside_by k m s)) (eq-eqb p s e))
      | inr ne ↦ ap (λ z. eqb p s || whether z (inside_by k (unlink_at m s (Some h)) s)) (put_other m.home_of s None p ne) ∙ ap (λ b. eqb p s || b) (on (m.home_of p) rec)
    ]
