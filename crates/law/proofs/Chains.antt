-- Chains of a function that leads on or ends.
use Rattle.std.proofs.Common.{◌≡◌, ℕ, zero, suc, ◌<◌, List, [], ◌∷◌, length, sym, refl, ap, ◌∙◌, subst, inl, inr, arith}
use mathlib.Core.Option.{Option, none, some}
use Rattle.law.specs.Lists.{In, Apart, Follows, member, then}
use Rattle.law.proofs.Lists.{none_some, some_some, few}

module _ {A : Type 0} (next : A → Option A) where
  -- one chain at most leads from x to an end
  pub follows_one : (x : A) (us vs : List A) → Follows next x us → Follows next x vs → us ≡ vs
  follows_one x [] [] h k = refl
  follows_one x [] (v ∷ vs) h k = absurd (none_some v (sym h ∙ k.0))
  follows_one x (u ∷ us) [] h k = absurd (none_some u (sym k ∙ h.0))
  follows_one x (u ∷ us) (v ∷ vs) h k =
      let e : u ≡ v = some_some u v (sym h.0 ∙ k.0) in
      let t : us ≡ vs = follows_one v us vs (subst (λ z. Follows next z us) e h.1) k.1 in
      cc

  -- each member of a chain starts a shorter one
  pub follows_from : (x : A) (us : List A) → Follows next x us → (y : A) → In y us → (vs : List A) × Follows next y vs × (length vs < length us)
  follows_from x [] h y i = absurd i
  follows_from x (u ∷ us) h y (inl e) = (us, subst (λ z. Follows next z us) (sym e) h.1, omega arith)
  follows_from x (u ∷ us) h y (inr i) = let r = follows_from u us h.1 y i in (r.0, r.1, omega (arith, r.2))

  -- so nothing stands twice in it
  pub follows_apart : (x : A) (us : List A) → Follows next x us → Apart (x ∷ us)
  follows_apart x [] h = (λ i. i, tt)
  follows_apart x (u ∷ us) h =
      (λ i. let r = follows_from x (u ∷ us) h x i in omega (arith, r.2, ap length (follows_one x r.0 (u ∷ us) r.1 h)), follows_apart u us h.1)

  pub member_none : (k : ℕ) (x : A) → member next k x ≡ none → (us : List A) × Follows next x us × (length us < k)
  member_none zero x e = absurd (none_some x (sym e))
  member_none (suc k) x e = go (member_none k) (next x) refl e
    where
      go : ((y : A) → member next k y ≡ none → (us : List A) × Follows next y us × (length us < k)) → (o : Option A) → next x ≡ o → then o (member next k) ≡ none
          → (us : List A) × Follows next x us × (length us < suc k)
      go on none d h = ([], d, omega arith)
      go on (some y) d h = let r = on y h in (y ∷ r.0, (d, r.1), omega (arith, r.2))

  pub member_end : (k : ℕ) (x : A) (us : List A) → Follows next x us → length us < k → member next k x ≡ none
  member_end zero x us h l = absurd (omega arith)
  member_end (suc k) x [] h l = rw h
  member_end (suc k) x (u ∷ us) h l = rw h.0 (member_end k u us h.1 (omega arith))

  pub follows_member : (x : A) (us : List A) → Follows next x us → (z : A) → In z (x ∷ us) → (k : ℕ) × (member next k x ≡ some z)
  follows_member x us h z (inl e) = (0, ap some (sym e))
  follows_member x [] h z (inr i) = absurd i
  follows_member x (u ∷ us) h z (inr i) = let r = follows_member u us h.1 z i in (suc r.0, rw h.0 r.1)

  -- what lies behind a chain: x is reached through ws, the nearest first
  abbrev pub Came : A → List A → Type 0
  Came x [] = Unit {0}
  Came x (w ∷ ws) = (next w ≡ some x) × Came w ws

  came_from : (x : A) (ws us : List A) → Came x ws → Follows next x us → (y : A) → In y ws → (vs : List A) × Follows next y vs × (length us < length vs)
  came_from x [] us c h y i = absurd i
  came_from x (w ∷ ws) us c h y (inl e) = (x ∷ us, subst (λ z. Follows next z (x ∷ us)) (sym e) (c.0, h), omega arith)
  came_from x (w ∷ ws) us c h y (inr i) = let r = came_from w ws (x ∷ us) c.1 (c.0, h) y i in (r.0, r.1, omega (arith, r.2))

  pub came_apart : (x : A) (ws us : List A) → Came x ws → Follows next x us → Apart (x ∷ ws)
  came_apart x [] us c h = (λ i. i, tt)
  came_apart x (w ∷ ws) us c h =
      (λ i. let r = came_from x (w ∷ ws) us c h x i in omega (arith, r.2, ap length (follows_one x us r.0 h r.1)), came_apart w ws (x ∷ us) c.1 (c.0, h))

  -- Members differ in a number below n: a chain with a member n never ends, and one without ends before.
  module _ (f : A → ℕ) (n : ℕ) (Good : A → Type 0) (good-next : (x y : A) → Good x → next x ≡ some y → Good y)
      (small : (x : A) → Good x → f x < n) (inj : (x y : A) → Good x → Good y → f x ≡ f y → x ≡ y) where
    all_good : (x : A) (us : List A) → Good x → Follows next x us → (y : A) → In y (x ∷ us) → Good y
    all_good x us g h y (inl e) = subst Good (sym e) g
    all_good x [] g h y (inr i) = absurd i
    all_good x (u ∷ us) g h y (inr i) = all_good u us (good-next x u g h.0) h.1 y i

    pub short : (x : A) (us : List A) → Good x → Follows next x us → length us < n
    short x us g h =
        let all = all_good x us g h in
        omega (arith, few f n (x ∷ us) (follows_apart x us h) (λ y i. small y (all y i)) (λ y z i j. inj y z (all y i) (all z j)))

    pub endless : (x z : A) → Good x → member next n x ≡ some z → (k : ℕ) → (y : A) × (member next k x ≡ some y)
    endless x z g e k = go (member next k x) refl
      where
        go : (o : Option A) → member next k x ≡ o → (y : A) × (member next k x ≡ some y)
        go (some y) h = (y, h)
        go none h = let r = member_none k x h in absurd (none_some z (sym (member_end n x r.0 r.1 (short x r.0 g r.1)) ∙ e))
