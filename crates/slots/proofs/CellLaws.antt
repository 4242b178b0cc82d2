-- Laws of cells.
use Rattle.std.proofs.Common.{◌≡◌, ℕ, zero, suc, ◌+◌, ◌<◌, ◌≤◌, Bool, true, false, cond, eqb, List, [], ◌∷◌, map, length, drop, set, replicate, is_some, Some, None, Option, sym, refl, ap, ◌∙◌, inl, inr, arith}
use Rattle.std.proofs.lemmas.List.{get_or_past, at_drop_more, set-get_or}
use Rattle.std.proofs.lemmas.Bool.{cases_lt, eq-eqb, eqb-true, cases_Bool}
use Rattle.std.specs.Option.{option_map, unwrap_or}
use Rattle.slots.specs.Cells.{Cell, Free, Live, Spent}
use Rattle.slots.specs.Cells.{cell_at, is_free, is_live, frees, live_count, found, under, viewed, next_of, live_of, next_given, live_under, holds, retired}

pub never : false ≡ true → ⊥
never e = let z : ◌≡◌ {A = ℕ} 0 1 = cc in omega arith

pub some_mapped : {X Y : Type 0} (f : X → Y) (q : Option X) → is_some (option_map f q) ≡ is_some q
some_mapped f None = refl
some_mapped f (Some x) = refl

module _ {X : Type 0} where
  pub free_within : (cs : List (Cell X)) (s : ℕ) → is_free (cell_at cs s) ≡ true → s < length cs
  free_within cs s h =
      elim (cases_lt s (length cs)) [
        | inl lt ↦ lt
        | inr le ↦ absurd (never (sym (ap is_free (get_or_past cs s Spent le)) ∙ h))
      ]

  pub live_within : (cs : List (Cell X)) (s : ℕ) → is_live (cell_at cs s) ≡ true → s < length cs
  live_within cs s h =
      elim (cases_lt s (length cs)) [
        | inl lt ↦ lt
        | inr le ↦ absurd (never (sym (ap is_live (get_or_past cs s Spent le)) ∙ h))
      ]

  -- what is live is not free
  pub lives_few : (cs : List (Cell X)) → frees cs + live_count cs ≤ length cs
  lives_few [] = omega arith
  lives_few (c ∷ cs) =
      let h = lives_few cs in
      elim c as (λ v. (cond (is_free v) 1 0 + frees cs) + (cond (is_live v) 1 0 + live_count cs) ≤ length (c ∷ cs)) [ Free g ↦ omega arith | Live g x ↦ omega arith | Spent ↦ omega arith ]

  pub free_is : (c : Cell X) → is_free c ≡ true → (g : ℕ) × (c ≡ Free g)
  free_is (Free g) e = (g, refl)
  free_is (Live g x) e = absurd (never e)
  free_is Spent e = absurd (never e)

  pub live_not_free : (cs : List (Cell X)) (s g : ℕ) (x : X) → cell_at cs s ≡ Live g x → is_free (cell_at cs s) ≡ true → ⊥
  live_not_free cs s g x e h = never (sym (ap is_free e) ∙ h)

  -- what is found is live under just that generation
  pub found_live : (cs : List (Cell X)) (s g : ℕ) (x : X) → found cs s g ≡ Some x → cell_at cs s ≡ Live g x
  found_live cs s g x e = at (cell_at cs s) e
    where
      at : (c : Cell X) → under c g ≡ Some x → c ≡ Live g x
      at (Free h) e = let z : ◌≡◌ {A = ℕ} 0 1 = cc in absurd (omega arith)
      at (Live h y) e = elim (cases_Bool (eqb h g)) [
        | inl t ↦ let k = eqb-true h g t in let d : Some y ≡ Some x = rw t at e in cc
        | inr f ↦ let d : None ≡ Some x = rw f at e in let z : ◌≡◌ {A = ℕ} 0 1 = cc in absurd (omega arith)
      ]
      at Spent e = let z : ◌≡◌ {A = ℕ} 0 1 = cc in absurd (omega arith)

  pub live_found : (cs : List (Cell X)) (s g : ℕ) (x : X) → cell_at cs s ≡ Live g x → found cs s g ≡ Some x
  live_found cs s g x e = ap (λ c. under c g) e ∙ rw (eq-eqb g g refl)

  pub found_is_live : (cs : List (Cell X)) (s g : ℕ) → is_some (found cs s g) ≡ true → is_live (cell_at cs s) ≡ true
  found_is_live cs s g h = at (cell_at cs s) h
    where
      at : (c : Cell X) → is_some (under c g) ≡ true → is_live c ≡ true
      at (Free k) e = absurd (never e)
      at (Live k x) e = refl
      at Spent e = absurd (never e)

  -- one slot less is free
  pub frees_occupied : (cs : List (Cell X)) (s g : ℕ) (x : X) → is_free (cell_at cs s) ≡ true → frees (set cs s (Live g x)) + 1 ≡ frees cs
  frees_occupied [] s g x h = absurd (never h)
  frees_occupied (c ∷ cs) zero g x h = rw h (omega arith)
  frees_occupied (c ∷ cs) (suc s) g x h = omega (arith, frees_occupied cs s g x h)

  pub live_is : (c : Cell X) → is_live c ≡ true → (g : ℕ) × (x : X) × (c ≡ Live g x)
  live_is (Free g) e = absurd (never e)
  live_is (Live g x) e = (g, x, refl)
  live_is Spent e = absurd (never e)

module _ {X Y : Type 0} (f : X → Y) where
  pub cell_at_viewed : (cs : List (Cell X)) (s : ℕ) → cell_at (map (viewed f) cs) s ≡ viewed f (cell_at cs s)
  cell_at_viewed [] s = refl
  cell_at_viewed (c ∷ cs) zero = refl
  cell_at_viewed (c ∷ cs) (suc s) = cell_at_viewed cs s

  pub holds_viewed : (c : Cell X) → holds (viewed f c) ≡ option_map f (holds c)
  holds_viewed (Free g) = refl
  holds_viewed (Live g x) = refl
  holds_viewed Spent = refl

  pub free_viewed : (c : Cell X) → is_free (viewed f c) ≡ is_free c
  free_viewed (Free g) = refl
  free_viewed (Live g x) = refl
  free_viewed Spent = refl

  pub next_viewed : (c : Cell X) → next_of (viewed f c) ≡ next_of c
  next_viewed (Free g) = refl
  next_viewed (Live g x) = refl
  next_viewed Spent = refl

  pub frees_viewed : (cs : List (Cell X)) → frees (map (viewed f) cs) ≡ frees cs
  frees_viewed [] = refl
  frees_viewed (c ∷ cs) = rw free_viewed (ap (λ n. cond (is_free c) 1 0 + n) (frees_viewed cs))

  pub live_viewed : (c : Cell X) → is_live (viewed f c) ≡ is_live c
  live_viewed (Free g) = refl
  live_viewed (Live g x) = refl
  live_viewed Spent = refl

  pub lives_viewed : (cs : List (Cell X)) → live_count (map (viewed f) cs) ≡ live_count cs
  lives_viewed [] = refl
  lives_viewed (c ∷ cs) = ap (λ b. cond b 1 0 + live_count (map (viewed f) cs)) (live_viewed c) ∙ ap (λ n. cond (is_live c) 1 0 + n) (lives_viewed cs)

  pub found_viewed : (cs : List (Cell X)) (s g : ℕ) → found (map (viewed f) cs) s g ≡ option_map f (found cs s g)
  found_viewed cs s g = ap (λ c. under c g) (cell_at_viewed cs s) ∙ at (cell_at cs s)
    where
      at : (c : Cell X) → under (viewed f c) g ≡ option_map f (under c g)
      at (Free h) = refl
      at (Live h x) = elim (eqb h g) as (λ b. cond b (Some (f x)) None ≡ option_map f (cond b (Some x) None)) [ true ↦ refl | false ↦ refl ]
      at Spent = refl

  pub some_viewed : (cs : List (Cell X)) (s g : ℕ) → is_some (found (map (viewed f) cs) s g) ≡ is_some (found cs s g)
  some_viewed cs s g = ap is_some (found_viewed cs s g) ∙ some_mapped f (found cs s g)

pub viewed_dead : {X : Type 0} (f : X → X) (c : Cell X) → ((g : ℕ) (x : X) → c ≡ Live g x → ⊥) → viewed f c ≡ c
viewed_dead f (Free g) h = refl
viewed_dead f (Live g x) h = absurd (h g x refl)
viewed_dead f Spent h = refl

retired_same : {X : Type 0} (c : Cell X) → ((g : ℕ) (x : X) → c ≡ Live g x → ⊥) → retired c ≡ c
retired_same (Free g) h = refl
retired_same (Live g x) h = absurd (h g x refl)
retired_same Spent h = refl

pub release_dead : {X : Type 0} (cs : List (Cell X)) (s : ℕ) → ((g : ℕ) (x : X) → cell_at cs s ≡ Live g x → ⊥) → cs ≡ set cs s (retired (cell_at cs s))
release_dead cs s h = sym (ap (set cs s) (retired_same (cell_at cs s) h) ∙ set-get_or cs s Spent)

pub holds_none : {X : Type 0} (c : Cell X) → holds c ≡ None → (g : ℕ) (x : X) → c ≡ Live g x → ⊥
holds_none c e g x d = let k : None ≡ Some x = sym e ∙ ap holds d in let z : ◌≡◌ {A = ℕ} 0 1 = cc in omega arith

-- where nothing lives, nothing changes
pub put_dead : {X : Type 0} (f : X → X) (cs : List (Cell X)) (s : ℕ) → ((g : ℕ) (x : X) → cell_at cs s ≡ Live g x → ⊥) → cs ≡ set cs s (viewed f (cell_at cs s))
put_dead f cs s h = sym (ap (set cs s) (viewed_dead f (cell_at cs s) h) ∙ set-get_or cs s Spent)

pub viewed_unused : {X Y : Type 0} (f : X → Y) (n : ℕ) → map (viewed f) (replicate n (Free 0)) ≡ replicate n (Free 0)
viewed_unused f zero = refl
viewed_unused f (suc n) = ap (λ cs. Free 0 ∷ cs) (viewed_unused f n)

-- the generation of what lives in a cell
pub live_of_viewed : {X Y : Type 0} (f : X → Y) (cs : List (Cell X)) (s : ℕ) → live_of (cell_at (map (viewed f) cs) s) ≡ live_of (cell_at cs s)
live_of_viewed {X} f cs s = ap live_of (cell_at_viewed f cs s) ∙ at (cell_at cs s)
  where
    at : (c : Cell X) → live_of (viewed f c) ≡ live_of c
    at (Free g) = refl
    at (Live g x) = refl
    at Spent = refl

pub mapped_mapped : {X Y Z : Type 0} (f : X → Y) (g : Y → Z) (q : Option X) → option_map g (option_map f q) ≡ option_map (λ x. g (f x)) q
mapped_mapped f g None = refl
mapped_mapped f g (Some x) = refl

-- the generations by number, 0 where there is none
module _ {X : Type 0} where
  pub live_of_under : (c : Cell X) → unwrap_or (live_under c) 0 ≡ live_of c
  live_of_under (Free g) = refl
  live_of_under (Live g x) = refl
  live_of_under Spent = refl

  pub next_of_given : (c : Cell X) (g : ℕ) → next_given c ≡ Some g → g ≡ next_of c
  next_of_given (Free h) g e = let d : h ≡ g = cc in sym d
  next_of_given (Live h x) g e = let z : ◌≡◌ {A = ℕ} 0 1 = cc in absurd (omega arith)
  next_of_given Spent g e = let z : ◌≡◌ {A = ℕ} 0 1 = cc in absurd (omega arith)
