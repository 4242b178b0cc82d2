-- What is left of lists and of cells when some are taken out.
use Rattle.std.proofs.Common.{◌≡◌, ℕ, zero, suc, Bool, true, false, cond, not, ◌||◌, List, [], ◌∷◌, map, length, Some, None, Option, sym, refl, ap, ◌∙◌, subst, inl, inr, arith}
use Rattle.std.proofs.lemmas.Bool.{cases_Bool}
use Rattle.slots.specs.Cells.{Cell}
use Rattle.slots.specs.Cells.{Free, Live, Spent}
use Rattle.slots.specs.Cells.{cell_at, is_live, retired, viewed}
use Rattle.slots.proofs.CellLaws.{never}
use Rattle.lists.specs.Walk.{In, Apart}
use Rattle.lists.proofs.Chains.{some_none}
use Rattle.model.specs.Sound.{Agree, Among}
use Rattle.model.specs.Erasing.{less, sweep, nowhere}
use Rattle.model.proofs.Dropping.{retired_dead}

pub in_among : (x : ℕ) (xs : List ℕ) → In x xs → Among x xs
in_among x [] i = i
in_among x (y ∷ ys) (inl e) = inl e
in_among x (y ∷ ys) (inr i) = inr (in_among x ys i)

pub among_in : (x : ℕ) (xs : List ℕ) → Among x xs → In x xs
among_in x [] i = i
among_in x (y ∷ ys) (inl e) = inl e
among_in x (y ∷ ys) (inr i) = inr (among_in x ys i)

module _ {X : Type 0} (f : X → Bool) where
  less_drops : (x : X) (xs : List X) → f x ≡ true → less f (x ∷ xs) ≡ less f xs
  less_drops x xs h = ap (λ b. cond (not b) (x ∷ less f xs) (less f xs)) h

  less_keeps : (x : X) (xs : List X) → f x ≡ false → less f (x ∷ xs) ≡ x ∷ less f xs
  less_keeps x xs h = ap (λ b. cond (not b) (x ∷ less f xs) (less f xs)) h

  -- what is left was there, and does not pass the test
  pub less_was : (x : X) (xs : List X) → Among x (less f xs) → Among x xs × (f x ≡ false)
  less_was x [] i = absurd i
  less_was x (y ∷ ys) i = elim (cases_Bool (f y)) [
    | inl t ↦ let h = less_was x ys (subst (Among x) (less_drops y ys t) i) in (inr h.0, h.1)
    | inr t ↦ elim (subst (Among x) (less_keeps y ys t) i) [
      | inl e ↦ (inl e, ap f e ∙ t)
      | inr j ↦ let h = less_was x ys j in (inr h.0, h.1)
    ]
  ]

  pub less_has : (x : X) (xs : List X) → Among x xs → f x ≡ false → Among x (less f xs)
  less_has x [] i h = i
  less_has x (y ∷ ys) i h = elim (cases_Bool (f y)) [
    | inl t ↦ subst (Among x) (sym (less_drops y ys t)) (elim i [ inl e ↦ absurd (never (sym h ∙ ap f e ∙ t)) | inr j ↦ less_has x ys j h ])
    | inr t ↦ subst (Among x) (sym (less_keeps y ys t)) (elim i [ inl e ↦ inl e | inr j ↦ inr (less_has x ys j h) ])
  ]

  pub less_none : (xs : List X) → ((x : X) → Among x xs → f x ≡ false) → less f xs ≡ xs
  less_none [] h = refl
  less_none (x ∷ xs) h = less_keeps x xs (h x (inl refl)) ∙ ap (λ ys. x ∷ ys) (less_none xs (λ y i. h y (inr i)))

  pub less_or : (g : X → Bool) (xs : List X) → less (λ x. f x || g x) xs ≡ less g (less f xs)
  less_or g [] = refl
  less_or g (x ∷ xs) = elim (cases_Bool (f x)) [
    | inl t ↦ ap (λ b. cond (not (b || g x)) (x ∷ less (λ x. f x || g x) xs) (less (λ x. f x || g x) xs)) t ∙ less_or g xs ∙ ap (less g) (sym (less_drops x xs t))
    | inr t ↦ ap (λ b. cond (not (b || g x)) (x ∷ less (λ x. f x || g x) xs) (less (λ x. f x || g x) xs)) t
        ∙ ap (λ ys. cond (not (g x)) (x ∷ ys) ys) (less_or g xs) ∙ ap (less g) (sym (less_keeps x xs t))
  ]

pub less_in : (f : ℕ → Bool) (x : ℕ) (xs : List ℕ) → In x (less f xs) → In x xs × (f x ≡ false)
less_in f x xs i = let h = less_was f x xs (in_among x (less f xs) i) in (among_in x xs h.0, h.1)

pub in_less : (f : ℕ → Bool) (x : ℕ) (xs : List ℕ) → In x xs → f x ≡ false → In x (less f xs)
in_less f x xs i h = among_in x (less f xs) (less_has f x xs (in_among x xs i) h)

pub less_apart : (f : ℕ → Bool) (xs : List ℕ) → Apart xs → Apart (less f xs)
less_apart f [] a = a
less_apart f (x ∷ xs) a = elim (cases_Bool (f x)) [
  | inl t ↦ subst Apart (sym (less_drops f x xs t)) (less_apart f xs a.1)
  | inr t ↦ subst Apart (sym (less_keeps f x xs t)) (λ i. a.0 (less_in f x xs i).0, less_apart f xs a.1)
]

pub map_less : {X Y : Type 0} (f : Y → Bool) (g : X → Y) (xs : List X) → map g (less (λ x. f (g x)) xs) ≡ less f (map g xs)
map_less f g [] = refl
map_less {X} {Y} f g (x ∷ xs) = at (f (g x)) ∙ ap (λ ys. cond (not (f (g x))) (g x ∷ ys) ys) (map_less f g xs)
  where
    at : (b : Bool) → map g (cond (not b) (x ∷ less (λ x. f (g x)) xs) (less (λ x. f (g x)) xs)) ≡ cond (not b) (g x ∷ map g (less (λ x. f (g x)) xs)) (map g (less (λ x. f (g x)) xs))
    at true = refl
    at false = refl

module _ (f : ℕ → Bool) (h : ℕ → Option ℕ) where
  pub nowhere_was : (s b : ℕ) → nowhere f h s ≡ Some b → (f s ≡ false) × (h s ≡ Some b)
  nowhere_was s b e = elim (cases_Bool (f s)) [
    | inl t ↦ absurd (some_none b (sym e ∙ ap (λ c. cond c None (h s)) t))
    | inr t ↦ (t, sym (ap (λ c. cond c None (h s)) t) ∙ e)
  ]

  pub nowhere_has : (s : ℕ) → f s ≡ false → nowhere f h s ≡ h s
  nowhere_has s t = ap (λ c. cond c None (h s)) t

  pub nowhere_none : (s : ℕ) → f s ≡ true → nowhere f h s ≡ None
  nowhere_none s t = ap (λ c. cond c None (h s)) t

pub agree_less : (f : ℕ → Bool) (ms : ℕ → List ℕ) (h : ℕ → Option ℕ) → Agree ms h → Agree (λ c. less f (ms c)) (nowhere f h)
agree_less f ms h a = record {
  held = λ c x e. let w = nowhere_was f h x c e in in_less f x (ms c) (a.held c x w.1) w.0;
  home = λ c x i. let w = less_in f x (ms c) i in nowhere_has f h x w.1 ∙ a.home c x w.0;
  apart = λ c. less_apart f (ms c) (a.apart c);
}

pub viewed_same : {X : Type 0} (c : Cell X) → viewed (λ x. x) c ≡ c
viewed_same (Free g) = refl
viewed_same (Live g x) = refl
viewed_same Spent = refl

viewed_was : {X : Type 0} (k : X → X) (c : Cell X) (g : ℕ) (y : X) → viewed k c ≡ Live g y → (x : X) × (c ≡ Live g x) × (y ≡ k x)
viewed_was k (Free i) g y e = let z : ◌≡◌ {A = ℕ} 0 1 = cc in absurd (omega arith)
viewed_was k (Live i x) g y e = let p : i ≡ g = cc in (x, ap (λ j. Live j x) p, cc)
viewed_was k Spent g y e = let z : ◌≡◌ {A = ℕ} 0 1 = cc in absurd (omega arith)

module _ {X : Type 0} (k : X → X) where
  pub cell_at_sweep : (f : ℕ → Bool) (cs : List (Cell X)) (s : ℕ) → cell_at (sweep f k cs) s ≡ cond (f s) (retired (cell_at cs s)) (viewed k (cell_at cs s))
  cell_at_sweep f [] s = at (f s)
    where
      at : (b : Bool) → ◌≡◌ {A = Cell X} Spent (cond b Spent Spent)
      at true = refl
      at false = refl
  cell_at_sweep f (c ∷ cs) zero = refl
  cell_at_sweep f (c ∷ cs) (suc s) = cell_at_sweep (λ t. f (suc t)) cs s

  pub length_sweep : (f : ℕ → Bool) (cs : List (Cell X)) → length (sweep f k cs) ≡ length cs
  length_sweep f [] = refl
  length_sweep f (c ∷ cs) = ap suc (length_sweep (λ t. f (suc t)) cs)

  module _ (f : ℕ → Bool) (cs : List (Cell X)) (s : ℕ) where
    pub sweep_in : f s ≡ true → is_live (cell_at (sweep f k cs) s) ≡ false
    sweep_in t = ap is_live (cell_at_sweep f cs s ∙ ap (λ b. cond b (retired (cell_at cs s)) (viewed k (cell_at cs s))) t) ∙ retired_dead (cell_at cs s)

    pub sweep_out : f s ≡ false → cell_at (sweep f k cs) s ≡ viewed k (cell_at cs s)
    sweep_out t = cell_at_sweep f cs s ∙ ap (λ b. cond b (retired (cell_at cs s)) (viewed k (cell_at cs s))) t

    -- what lives after the sweep lived before
    pub sweep_was : (g : ℕ) (y : X) → cell_at (sweep f k cs) s ≡ Live g y → (f s ≡ false) × (x : X) × (cell_at cs s ≡ Live g x) × (y ≡ k x)
    sweep_was g y e = elim (cases_Bool (f s)) [
      | inl t ↦ absurd (never (sym (sweep_in t) ∙ ap is_live e))
      | inr t ↦ let h = viewed_was k (cell_at cs s) g y (sym (sweep_out t) ∙ e) in (t, h.0, h.1, h.2)
    ]
