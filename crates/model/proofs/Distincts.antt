-- Lists in which nothing stands twice.
use Rattle.std.proofs.Common.{◌≡◌, ℕ, ◌<◌, ◌≤◌, ◌⊎◌, List, [], ◌∷◌, ◌++◌, map, length, sym, refl, subst, inl, inr}
use Rattle.std.proofs.lemmas.List.{length-map}
use Rattle.std.specs.List.{flat_map}
use Rattle.lists.specs.Walk.{In, Apart}
use Rattle.lists.proofs.Counts.{few}
use Rattle.model.specs.Sound.{Among}
use Rattle.model.specs.Walk.{Distinct}

module _ {X : Type 0} where
  pub among_cases : (x : X) (us vs : List X) → Among x (us ++ vs) → Among x us ⊎ Among x vs
  among_cases x [] vs i = inr i
  among_cases x (u ∷ us) vs (inl e) = inl (inl e)
  among_cases x (u ∷ us) vs (inr i) = elim (among_cases x us vs i) [ inl j ↦ inl (inr j) | inr j ↦ inr j ]

  pub among_left : (x : X) (us vs : List X) → Among x us → Among x (us ++ vs)
  among_left x [] vs i = absurd i
  among_left x (u ∷ us) vs (inl e) = inl e
  among_left x (u ∷ us) vs (inr i) = inr (among_left x us vs i)

  pub among_right : (x : X) (us vs : List X) → Among x vs → Among x (us ++ vs)
  among_right x [] vs i = i
  among_right x (u ∷ us) vs i = inr (among_right x us vs i)

  pub distinct_append : (us vs : List X) → Distinct us → Distinct vs → ((x : X) → Among x us → Among x vs → ⊥) → Distinct (us ++ vs)
  distinct_append [] vs a b h = b
  distinct_append (u ∷ us) vs a b h =
      (λ i. elim (among_cases u us vs i) [ inl j ↦ a.0 j | inr j ↦ h u (inl refl) j ], distinct_append us vs a.1 b (λ x i j. h x (inr i) j))

  module _ (f : ℕ → List X) where
    -- what stands in a row of lists stands in one of them
    pub among_joined : (x : X) (ks : List ℕ) → Among x (flat_map f ks) → (k : ℕ) × In k ks × Among x (f k)
    among_joined x [] i = absurd i
    among_joined x (k ∷ ks) i = elim (among_cases x (f k) (flat_map f ks) i) [
      | inl j ↦ (k, inl refl, j)
      | inr j ↦ let t = among_joined x ks j in (t.0, inr t.1, t.2)
    ]

    pub joined_among : (x : X) (k : ℕ) (ks : List ℕ) → In k ks → Among x (f k) → Among x (flat_map f ks)
    joined_among x k [] i j = absurd i
    joined_among x k (l ∷ ks) (inl e) j = among_left x (f l) (flat_map f ks) (subst (λ z. Among x (f z)) e j)
    joined_among x k (l ∷ ks) (inr i) j = among_right x (f l) (flat_map f ks) (joined_among x k ks i j)

    pub distinct_joined : (ks : List ℕ) → Apart ks → ((k : ℕ) → In k ks → Distinct (f k)) → ((k l : ℕ) → In k ks → In l ks → (x : X) → Among x (f k) → Among x (f l) → k ≡ l) → Distinct (flat_map f ks)
    distinct_joined [] a d once = tt
    distinct_joined (k ∷ ks) a d once =
        distinct_append (f k) (flat_map f ks) (d k (inl refl)) (distinct_joined ks a.1 (λ l i. d l (inr i)) (λ l n i j. once l n (inr i) (inr j)))
        (λ x i j. let t = among_joined x ks j in a.0 (subst (λ z. In z ks) (sym (once k t.0 (inl refl) (inr t.1) x i t.2)) t.1))

  -- where f gives each element another number below n, there are at most n
  module _ (f : X → ℕ) (n : ℕ) where
    in_map : (k : ℕ) (xs : List X) → In k (map f xs) → (x : X) × Among x xs × (k ≡ f x)
    in_map k [] i = absurd i
    in_map k (x ∷ xs) (inl e) = (x, inl refl, e)
    in_map k (x ∷ xs) (inr i) = let t = in_map k xs i in (t.0, inr t.1, t.2)

    apart_map : (xs : List X) → Distinct xs → ((x y : X) → Among x xs → Among y xs → f x ≡ f y → x ≡ y) → Apart (map f xs)
    apart_map [] d h = tt
    apart_map (x ∷ xs) d h = (
      λ i. let t = in_map (f x) xs i in d.0 (subst (λ z. Among z xs) (sym (h x t.0 (inl refl) (inr t.1) t.2)) t.1),
      apart_map xs d.1 (λ y z i j. h y z (inr i) (inr j)),
    )

    pub few_distinct : (xs : List X) → Distinct xs → ((x y : X) → Among x xs → Among y xs → f x ≡ f y → x ≡ y) → ((x : X) → Among x xs → f x < n) → length xs ≤ n
    few_distinct xs d h b =
        subst (λ k. k ≤ n) (length-map xs f) (few n (map f xs) (apart_map xs d h) (λ k i. let t = in_map k xs i in subst (λ z. z < n) (sym t.2) (b t.0 t.1)))
