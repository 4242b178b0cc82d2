-- A store with nothing in it is sound.
use Rattle.std.proofs.Common.{◌≡◌, ℕ, zero, suc, false, replicate, sym, refl, ap, ◌∙◌}
use Rattle.slots.specs.Cells.{Free, Live}
use Rattle.slots.specs.Cells.{cell_at, is_live}
use Rattle.slots.proofs.CellLaws.{never}
use Rattle.lists.proofs.Chains.{some_none}
use Rattle.model.specs.Model.{blank}
use Rattle.model.specs.Sound.{Sound}

unborn : (X : Type 0) (n s : ℕ) → is_live (cell_at {X = X} (replicate n (Free 0)) s) ≡ false
unborn X zero s = refl
unborn X (suc n) zero = refl
unborn X (suc n) (suc s) = unborn X n s

dead : {X : Type 0} (n s g : ℕ) (x : X) → cell_at (replicate n (Free 0)) s ≡ Live g x → ⊥
dead {X} n s g x e = never (sym (unborn X n s) ∙ ap is_live e)

pub blank_sound : (i j k : ℕ) → Sound (blank i j k)
blank_sound i j k = record {
  operands = λ s g x e. absurd (dead i s g x e);
  owned = λ s g x e. absurd (dead i s g x e);
  apart = λ s g x e. absurd (dead i s g x e);
  owners = λ r g y e. absurd (dead k r g y e);
  ops = record { held = λ c x e. absurd (some_none c (sym e)); home = λ c x i. absurd i; apart = λ c. tt };
  blocks = record { held = λ c x e. absurd (some_none c (sym e)); home = λ c x i. absurd i; apart = λ c. tt };
  op_in = λ s b e. absurd (some_none b (sym e));
  block_in = λ b r e. absurd (some_none r (sym e));
  placed = λ b h. absurd (never (sym (unborn _ j b) ∙ h));
  ends = λ s. (zero, refl);
}
