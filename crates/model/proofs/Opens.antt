-- Regions that are opened one after the other.
use Rattle.std.proofs.Common.{◌≡◌, ℕ, ◌+◌, ◌<◌, Bool, true, ◌≢◌, ◌⊎◌, List, [], ◌∷◌, ◌++◌, map, length, set, sym, refl, ap, ◌∙◌, subst, inl, inr, arith}
use Rattle.std.proofs.lemmas.List.{get_or-set_same, get_or-set_other, length-set, length_push}
use Rattle.std.proofs.ByRecursion.{All-push}
use Rattle.std.specs.List.{AllByRecursion}
use Rattle.slots.specs.Cells.{Cell}
use Rattle.slots.specs.Cells.{Live, Spent}
use Rattle.slots.specs.Cells.{cell_at, is_free, next_of}
use Rattle.slots.proofs.CellLaws.{never, free_within}
use Rattle.lists.specs.Walk.{In, Apart}
use Rattle.model.specs.declared.ids.OpId.{OpId}
use Rattle.model.specs.declared.ids.RegionId.{RegionId}
use Rattle.model.specs.declared.ids.Region.{Region}
use Rattle.model.specs.Calls.{next_ids, opened, Opened}
use Rattle.model.specs.Sound.{Among}

pub all_in : (P : ℕ → Type 0) (rs : List ℕ) → AllByRecursion P rs → (r : ℕ) → In r rs → P r
all_in P [] h r i = absurd i
all_in P (q ∷ rs) h r (inl e) = subst P (sym e) h.0
all_in P (q ∷ rs) h r (inr i) = all_in P rs h.1 r i

pub length_next_ids : (cs : List (Cell Region)) (rs : List ℕ) → length (next_ids cs rs) ≡ length rs
length_next_ids cs [] = refl
length_next_ids cs (r ∷ rs) = omega (arith, length_next_ids cs rs)

next_ids_push : (cs : List (Cell Region)) (rs : List ℕ) (r : ℕ) → next_ids cs (rs ++ r ∷ []) ≡ next_ids cs rs ++ record { slot = r; generation = next_of (cell_at cs r) } ∷ []
next_ids_push cs [] r = refl
next_ids_push cs (q ∷ rs) r = ap (λ zs. record { slot = q; generation = next_of (cell_at cs q) } ∷ zs) (next_ids_push cs rs r)

pub next_ids_slots : (cs : List (Cell Region)) (rs : List ℕ) → map (λ (r : RegionId). r.slot) (next_ids cs rs) ≡ rs
next_ids_slots cs [] = refl
next_ids_slots cs (r ∷ rs) = ap (λ zs. r ∷ zs) (next_ids_slots cs rs)

pub next_ids_in : (cs : List (Cell Region)) (rs : List ℕ) (r : RegionId) → Among r (next_ids cs rs) → In r.slot rs × (r.generation ≡ next_of (cell_at cs r.slot))
next_ids_in cs [] r i = absurd i
next_ids_in cs (q ∷ rs) r (inl e) = (inl (ap (λ z. z.slot) e), ap (λ z. z.generation) e ∙ ap (λ z. next_of (cell_at cs z)) (sym (ap (λ z. z.slot) e)))
next_ids_in cs (q ∷ rs) r (inr i) = let h = next_ids_in cs rs r i in (inr h.0, h.1)

pub next_ids_has : (cs : List (Cell Region)) (rs : List ℕ) (r : ℕ) → In r rs → Among (record { slot = r; generation = next_of (cell_at cs r) }) (next_ids cs rs)
next_ids_has cs [] r i = absurd i
next_ids_has cs (q ∷ rs) r (inl e) = inl (ap (λ z. record { slot = z; generation = next_of (cell_at cs z) }) e)
next_ids_has cs (q ∷ rs) r (inr i) = inr (next_ids_has cs rs r i)

module _ (o : OpId) where
  opened_push : (cs : List (Cell Region)) (rs : List ℕ) (gs : List Bool) (r : ℕ) (g : Bool) → length rs ≡ length gs
      → opened cs o (rs ++ r ∷ []) (gs ++ g ∷ []) ≡ set (opened cs o rs gs) r (Live (next_of (cell_at (opened cs o rs gs) r)) (record { graph = g; owner = o }))
  opened_push cs [] [] r g e = refl
  opened_push cs [] (h ∷ gs) r g e = absurd (omega arith)
  opened_push cs (q ∷ rs) [] r g e = absurd (omega arith)
  opened_push cs (q ∷ rs) (h ∷ gs) r g e = opened_push (set cs q (Live (next_of (cell_at cs q)) (record { graph = h; owner = o }))) rs gs r g (omega arith)

  pub length_opened : (cs : List (Cell Region)) (rs : List ℕ) (gs : List Bool) → length (opened cs o rs gs) ≡ length cs
  length_opened cs [] gs = refl
  length_opened cs (q ∷ rs) [] = refl
  length_opened cs (q ∷ rs) (h ∷ gs) = length_opened (set cs q (Live (next_of (cell_at cs q)) (record { graph = h; owner = o }))) rs gs ∙ length-set cs q _

  pub opened_other : (cs : List (Cell Region)) (rs : List ℕ) (gs : List Bool) (s : ℕ) → (In s rs → ⊥) → cell_at (opened cs o rs gs) s ≡ cell_at cs s
  opened_other cs [] gs s h = refl
  opened_other cs (q ∷ rs) [] s h = refl
  opened_other cs (q ∷ rs) (g ∷ gs) s h = opened_other (set cs q (Live (next_of (cell_at cs q)) (record { graph = g; owner = o }))) rs gs s (λ i. h (inr i)) ∙ get_or-set_other cs q s _ Spent (λ e. h (inl e))

  pub opened_at : (cs : List (Cell Region)) (rs : List ℕ) (gs : List Bool) (s : ℕ) → length rs ≡ length gs → Apart rs → ((r : ℕ) → In r rs → r < length cs) → In s rs
      → (g : Bool) × (cell_at (opened cs o rs gs) s ≡ Live (next_of (cell_at cs s)) (record { graph = g; owner = o }))
  opened_at cs [] gs s e a w i = absurd i
  opened_at cs (q ∷ rs) [] s e a w i = absurd (omega arith)
  opened_at cs (q ∷ rs) (g ∷ gs) s e a w (inl d) = (
    g,
    ap (cell_at (opened cs o (q ∷ rs) (g ∷ gs))) d
        ∙ opened_other _ rs gs q a.0
        ∙ get_or-set_same cs q _ Spent (w q (inl refl))
        ∙ ap (λ z. Live (next_of (cell_at cs z)) (record { graph = g; owner = o })) (sym d),
  )
  opened_at cs (q ∷ rs) (g ∷ gs) s e a w (inr i) =
      let new : Cell Region = Live (next_of (cell_at cs q)) (record { graph = g; owner = o }) in
      let ne : s ≢ q = λ d. a.0 (subst (λ z. In z rs) d i) in
      let h = opened_at (set cs q new) rs gs s (omega arith) a.1 (λ r j. omega (arith, w r (inr j), length-set cs q new)) i in
      (h.0, h.1 ∙ ap (λ c. Live (next_of c) (record { graph = h.0; owner = o })) (get_or-set_other cs q s new Spent ne))

-- none is opened
pub opened_none : (cs : List (Cell Region)) (o : OpId) → Opened cs cs o [] []
opened_none cs o = record { slots = []; free = tt; apart = tt; count = refl; after = refl; given = refl }

-- one more is opened
pub opened_more : (cs ds es : List (Cell Region)) (o : OpId) (gs : List Bool) (ids : List RegionId) (r n : ℕ) (g : Bool) → Opened cs ds o gs ids
    → is_free (cell_at ds r) ≡ true → n ≡ next_of (cell_at ds r) → es ≡ set ds r (Live n (record { graph = g; owner = o }))
    → Opened cs es o (gs ++ g ∷ []) (ids ++ record { slot = r; generation = n } ∷ [])
opened_more cs ds es o gs ids r n g h f e d =
    let rs = h.slots in
    let away : In r rs → ⊥ = λ i.
    let at = opened_at o cs rs gs r h.count h.apart (λ q j. free_within cs q (all_in (λ z. is_free (cell_at cs z) ≡ true) rs h.free q j)) i in
    never (sym (ap is_free (ap (λ z. cell_at z r) h.after ∙ at.1)) ∙ f) in
    let same : cell_at ds r ≡ cell_at cs r = ap (λ z. cell_at z r) h.after ∙ opened_other o cs rs gs r away in
    record {
      slots = rs ++ r ∷ [];
      free = All-push (λ z. is_free (cell_at cs z) ≡ true) rs r h.free (sym (ap is_free same) ∙ f);
      apart = apart_last rs r h.apart away;
      count = length_push rs r ∙ ap (λ k. k + 1) h.count ∙ sym (length_push gs g);
      after = d ∙ ap (λ k. set ds r (Live k (record { graph = g; owner = o }))) e ∙ ap (λ z. set z r (Live (next_of (cell_at z r)) (record { graph = g; owner = o }))) h.after ∙ sym (opened_push o cs rs gs r g h.count);
      given = ap (λ z. z ++ record { slot = r; generation = n } ∷ []) h.given ∙ ap (λ k. next_ids cs rs ++ record { slot = r; generation = k } ∷ []) (e ∙ ap next_of same) ∙ sym (next_ids_push cs rs r);
    }
  where
    apart_last : (rs : List ℕ) (r : ℕ) → Apart rs → (In r rs → ⊥) → Apart (rs ++ r ∷ [])
    apart_last [] r a n = (λ i. i, tt)
    apart_last (q ∷ rs) r a n = (λ i. elim (split q rs r i) [ inl j ↦ a.0 j | inr e ↦ n (inl (sym e)) ], apart_last rs r a.1 (λ i. n (inr i)))
      where
        split : (q : ℕ) (rs : List ℕ) (r : ℕ) → In q (rs ++ r ∷ []) → In q rs ⊎ (q ≡ r)
        split q [] r (inl e) = inr e
        split q [] r (inr i) = absurd i
        split q (p ∷ rs) r (inl e) = inl (inl e)
        split q (p ∷ rs) r (inr i) = elim (split q rs r i) [ inl j ↦ inl (inr j) | inr e ↦ inr e ]
