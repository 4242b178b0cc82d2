-- A store in which an operation was put into a block is sound.
use Rattle.std.proofs.Common.{◌≡◌, ℕ, zero, suc, ◌<◌, Bool, true, false, ◌||◌, eqb, List, ◌∷◌, ◌++◌, length, Some, None, Option, sym, refl, ap, ◌∙◌, subst, inl, inr, arith}
use Rattle.std.proofs.lemmas.Bool.{cases_eq, eqb-false, or_parts}
use Rattle.slots.specs.Cells.{cell_at, is_live}
use Rattle.lists.proofs.Chains.{some_none, some_some}
use Rattle.model.specs.Model.{Model, put, bind, above, up, inside, inside_by, whether}
use Rattle.model.specs.Calls.{link_at}
use Rattle.model.specs.Sound.{Sound, Steps}
use Rattle.model.proofs.Frames.{values_kept}
use Rattle.model.proofs.Lists.{put_same, put_other, agree_insert}
use Rattle.model.proofs.Climbs.{steps_few, above_within, up_within}

module _ (m : Model) (b s : ℕ) (us vs : List ℕ) (is : m.ops_of b ≡ us ++ vs) (ls : is_live (cell_at m.ops s) ≡ true) (lb : is_live (cell_at m.blocks b) ≡ true) (out : m.home_of s ≡ None) (away : inside m s b ≡ false) (σ : Sound m) where
  n : Model
  n = link_at m b s (us ++ s ∷ vs)

  up_other : (t : ℕ) → (t ≡ s → ⊥) → up n t ≡ up m t
  unfolding n
  up_other t ne = ap (λ z. bind z (above m)) (put_other m.home_of s (Some b) t ne)

  up_here : up n s ≡ above m b
  unfolding n
  up_here = ap (λ z. bind z (above m)) (put_same m.home_of s (Some b))

  abbrev step : ℕ → ℕ → Bool
  step j p = eqb p s || whether (m.home_of p) (inside_by j m s)

  -- a climb that does not come by s stays
  avoid : (k j c p : ℕ) → above m c ≡ Some p → k < j → inside_by j m s c ≡ false → Steps (up m) k p → Steps (up n) k p
  avoid k zero c p e l i h = absurd (omega arith)
  avoid zero (suc j) c p e l i h =
      let o = or_parts (eqb p s) (whether (m.home_of p) (inside_by j m s)) (ap (λ z. whether z (step j)) (sym e) ∙ i) in
      up_other p (eqb-false p s o.0) ∙ h
  avoid (suc k) (suc j) c p e l i h =
      let o = or_parts (eqb p s) (whether (m.home_of p) (inside_by j m s)) (ap (λ z. whether z (step j)) (sym e) ∙ i) in
      (h.0, up_other p (eqb-false p s o.0) ∙ h.1, on (λ a d f. avoid k j a h.0 d (omega arith) f h.2) (m.home_of p) refl o.1)
    where
      on : ((a : ℕ) → above m a ≡ Some h.0 → inside_by j m s a ≡ false → Steps (up n) k h.0) → (q : Option ℕ) → m.home_of p ≡ q → whether (m.home_of p) (inside_by j m s) ≡ false → Steps (up n) k h.0
      on r None d f = absurd (some_none h.0 (sym h.1 ∙ ap (λ z. bind z (above m)) d))
      on r (Some a) d f = r a (sym (ap (λ z. bind z (above m)) d) ∙ h.1) (ap (λ z. whether z (inside_by j m s)) (sym d) ∙ f)

  from_here : (k : ℕ) × Steps (up n) k s
  from_here = at (above m b) refl
    where
      at : (q : Option ℕ) → above m b ≡ q → (k : ℕ) × Steps (up n) k s
      at None e = (zero, up_here ∙ e)
      at (Some p) e =
          let h = σ.ends p in
          let few = steps_few (up m) (length m.ops) (up_within m σ) h.0 p h.1 (above_within m σ b p e) in
          (suc h.0, (p, up_here ∙ e, avoid h.0 (length m.ops) b p e few away h.1))

  ends : (k t : ℕ) → Steps (up m) k t → (j : ℕ) × Steps (up n) j t
  ends zero t h =
      elim (cases_eq t s) [ inl e ↦ subst (λ z. (j : ℕ) × Steps (up n) j z) (sym e) from_here | inr ne ↦ (zero, up_other t ne ∙ h) ]
  ends (suc k) t h =
      let r = ends k h.0 h.2 in
      elim (cases_eq t s) [ inl e ↦ subst (λ z. (j : ℕ) × Steps (up n) j z) (sym e) from_here | inr ne ↦ (suc r.0, (h.0, up_other t ne ∙ h.1, r.1)) ]

  sound : Sound n
  unfolding n
  sound = record {
    operands = λ t g x e. values_kept m n (λ _ _ _ e. e) (λ _ _ _ e. e) x.operands (σ.operands t g x e);
    owned = σ.owned;
    apart = σ.apart;
    owners = σ.owners;
    ops = agree_insert m.ops_of m.home_of b s us vs σ.ops is out;
    blocks = σ.blocks;
    op_in = λ t c e. elim (cases_eq t s) [
      | inl d ↦
          let k = some_some c b (sym e ∙ ap (put m.home_of s (Some b)) d ∙ put_same m.home_of s (Some b)) in
          (ap (λ z. is_live (cell_at m.ops z)) d ∙ ls, ap (λ z. is_live (cell_at m.blocks z)) k ∙ lb)
      | inr ne ↦ σ.op_in t c (sym (put_other m.home_of s (Some b) t ne) ∙ e)
    ];
    block_in = σ.block_in;
    placed = σ.placed;
    ends = λ t. ends (σ.ends t).0 t (σ.ends t).1;
  }

pub link_sound : (m : Model) (b s : ℕ) (us vs : List ℕ) → m.ops_of b ≡ us ++ vs → is_live (cell_at m.ops s) ≡ true → is_live (cell_at m.blocks b) ≡ true → m.home_of s ≡ None → inside m s b ≡ false → Sound m
    → Sound (link_at m b s (us ++ s ∷ vs))
unfolding n
link_sound m b s us vs is ls lb out away σ = sound m b s us vs is ls lb out away σ
