-- A store with one block more is sound.
use Rattle.std.proofs.Common.{◌≡◌, ℕ, true, List, ◌∷◌, ◌++◌, is_some, Some, None, Option, sym, refl, ap, ◌∙◌, subst, inl, inr}
use mathlib.Core.Path.{fun_ext}
use Rattle.std.proofs.lemmas.List.{get_or-set_same, get_or-set_other}
use Rattle.std.proofs.lemmas.Bool.{cases_eq}
use Rattle.slots.specs.Cells.{Spent}
use Rattle.slots.specs.Cells.{cell_at, is_free, is_live, holds}
use Rattle.slots.proofs.CellLaws.{free_within, live_not_free, live_is}
use Rattle.lists.proofs.Chains.{some_some}
use Rattle.model.specs.Model.{Model, put, bind, above, up, owner_slot}
use Rattle.model.specs.Calls.{create_at}
use Rattle.model.specs.Sound.{Sound, Steps}
use Rattle.model.proofs.Frames.{Keeps, values_kept, is_live_kept}
use Rattle.model.proofs.Lists.{put_same, put_other, agree_insert}

-- what is free lies nowhere
pub free_unplaced : (m : Model) (b : ℕ) → Sound m → is_free (cell_at m.blocks b) ≡ true → m.place_of b ≡ None
free_unplaced m b σ f = at (m.place_of b) refl
  where
    at : (q : Option ℕ) → m.place_of b ≡ q → m.place_of b ≡ None
    at None e = e
    at (Some r) e = let l = live_is (cell_at m.blocks b) (σ.block_in b r e).0 in absurd (live_not_free m.blocks b l.0 l.1 l.2 f)

module _ (m : Model) (b r : ℕ) (us vs ts : List ℕ) (is : m.blocks_of r ≡ us ++ vs) (f : is_free (cell_at m.blocks b) ≡ true) (lr : is_live (cell_at m.regions r) ≡ true) (σ : Sound m) where
  n : Model
  n = create_at m b r (us ++ b ∷ vs) ts

  blocks_kept : Keeps m.blocks n.blocks
  unfolding n
  blocks_kept t g x e = get_or-set_other m.blocks b t _ Spent (λ d. live_not_free m.blocks t g x e (ap (λ z. is_free (cell_at m.blocks z)) d ∙ f)) ∙ e

  up_same : (t : ℕ) → up n t ≡ up m t
  unfolding n
  up_same t = at (m.home_of t) refl
    where
      at : (q : Option ℕ) → m.home_of t ≡ q → bind q (above n) ≡ bind q (above m)
      at None e = refl
      at (Some c) e =
          let l = live_is (cell_at m.blocks c) (σ.op_in t c e).1 in
          ap (λ z. bind z (λ r. owner_slot (holds (cell_at m.regions r)))) (put_other m.place_of b (Some r) c (λ d. live_not_free m.blocks c l.0 l.1 l.2 (ap (λ z. is_free (cell_at m.blocks z)) d ∙ f)))

  sound : Sound n
  unfolding n
  sound = record {
    operands = λ t g x e. values_kept m n (λ _ _ _ e. e) blocks_kept x.operands (σ.operands t g x e);
    owned = σ.owned;
    apart = σ.apart;
    owners = σ.owners;
    ops = σ.ops;
    blocks = agree_insert m.blocks_of m.place_of r b us vs σ.blocks is (free_unplaced m b σ f);
    op_in = λ t c e. let h = σ.op_in t c e in (h.0, is_live_kept m.blocks n.blocks blocks_kept c h.1);
    block_in = λ c q e. elim (cases_eq c b) [
      | inl d ↦
          let k = some_some q r (sym e ∙ ap (put m.place_of b (Some r)) d ∙ put_same m.place_of b (Some r)) in
          (ap (λ z. is_live (cell_at n.blocks z)) d ∙ ap is_live (get_or-set_same m.blocks b _ Spent (free_within m.blocks b f)), ap (λ z. is_live (cell_at m.regions z)) k ∙ lr)
      | inr ne ↦
          let h = σ.block_in c q (sym (put_other m.place_of b (Some r) c ne) ∙ e) in
          (is_live_kept m.blocks n.blocks blocks_kept c h.0, h.1)
    ];
    placed = λ c h. elim (cases_eq c b) [
      | inl d ↦ ap is_some (ap (put m.place_of b (Some r)) d ∙ put_same m.place_of b (Some r))
      | inr ne ↦ ap is_some (put_other m.place_of b (Some r) c ne) ∙ σ.placed c (sym (ap is_live (get_or-set_other m.blocks b c _ Spent ne)) ∙ h)
    ];
    ends = subst (λ f. (t : ℕ) → (k : ℕ) × Steps f k t) (sym (fun_ext up_same)) σ.ends;
  }

-- the new block comes to stand between us and vs
pub create_sound : (m : Model) (b r : ℕ) (us vs ts : List ℕ) → m.blocks_of r ≡ us ++ vs → is_free (cell_at m.blocks b) ≡ true → is_live (cell_at m.regions r) ≡ true → Sound m → Sound (create_at m b r (us ++ b ∷ vs) ts)
unfolding n
create_sound m b r us vs ts is f lr σ = sound m b r us vs ts is f lr σ
