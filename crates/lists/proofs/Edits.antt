-- What each edit of the links does to the lists.
use Rattle.std.proofs.Common.{◌≡◌, ℕ, ◌<◌, true, cond, eqb, List, [], ◌∷◌, ◌++◌, length, is_some, Some, None, Option, sym, refl, ap, ◌∙◌, subst, inl, inr, append_assoc, append-nil, arith}
use Rattle.std.proofs.lemmas.Bool.{eq-eqb, ne_eqb}
use Rattle.lists.specs.declared.links.Links.{Links}
use Rattle.lists.specs.declared.links.Ends.{Ends}
use Rattle.lists.specs.Walk.{links_at, ends_at, home_of, fwd, bwd, Chain, In, Apart, Shape, Sound, members, first_of, last_of, Relinked, Place, patch_links, patch_ends, after, before, next_in, prev_in, insert_after, insert_before, without}
use Rattle.lists.proofs.Chains.{some_none, some_some, in_left, in_right, off_last, off_first, split}
use Rattle.lists.proofs.Counts.{apart_remove, insert_after_at, insert_before_at, before_at, without_at, after_at, apart_before}
use Rattle.lists.proofs.Patches.{Patched, patched}
use Rattle.lists.proofs.Shapes.{homed, shape_members, shape_sound, shape_insert, shape_remove}

-- what a chain says of a place in it
pub chain_first : (f g : Option ℕ → Option ℕ) (a : Option ℕ) (vs : List ℕ) → Chain f g a vs → f a ≡ first_of vs
chain_first f g a [] h = h.0
chain_first f g a (v ∷ vs) h = h.0

pub chain_last : (f g : Option ℕ → Option ℕ) (a : Option ℕ) (us : List ℕ) → Chain f g a us → g None ≡ last_of a us
chain_last f g a [] h = h.1
chain_last f g a (u ∷ us) h = chain_last f g (Some u) us h.2

pub chain_at : (f g : Option ℕ → Option ℕ) (a : Option ℕ) (us : List ℕ) (x : ℕ) (vs : List ℕ) → Chain f g a (us ++ x ∷ vs) → (f (Some x) ≡ first_of vs) × (g (Some x) ≡ last_of a us)
chain_at f g a [] x vs h = (chain_first f g (Some x) vs h.2, h.1)
chain_at f g a (u ∷ us) x vs h = chain_at f g (Some u) us x vs h.2

last_push : (a : Option ℕ) (us : List ℕ) (x : ℕ) → last_of a (us ++ x ∷ []) ≡ Some x
last_push a [] x = refl
last_push a (u ∷ us) x = last_push (Some u) us x

place_last : (L : List Links) (a : Option ℕ) (us : List ℕ) → Place L a → ((x : ℕ) → In x us → x < length L) → Place L (last_of a us)
place_last L a [] h k = h
place_last L a (u ∷ us) h k = place_last L (Some u) us (k u (inl refl)) (λ x i. k x (inr i))

place_first : (L : List Links) (vs : List ℕ) → ((x : ℕ) → In x vs → x < length L) → Place L (first_of vs)
place_first L [] k = tt
place_first L (v ∷ vs) k = k v (inl refl)

abbrev pub linked : ℕ → Option ℕ → Option ℕ → Links
linked c p q = record { container = Some c; prev = p; next = q }

abbrev pub unlinked : Links
unlinked = record { container = None; prev = None; next = None }

-- the lists, of which one is new
lists_with : (ℕ → List ℕ) → ℕ → List ℕ → ℕ → List ℕ
lists_with ms c xs k = cond (eqb k c) xs (ms k)

with_here : (ms : ℕ → List ℕ) (c : ℕ) (xs : List ℕ) → lists_with ms c xs c ≡ xs
unfolding lists_with
with_here ms c xs = rw (eq-eqb c c refl)

with_other : (ms : ℕ → List ℕ) (c : ℕ) (xs : List ℕ) (k : ℕ) → (k ≡ c → ⊥) → lists_with ms c xs k ≡ ms k
unfolding lists_with
with_other ms c xs k ne = rw (ne_eqb k c ne)

relinked : (L : List Links) (E : List Ends) (L' : List Links) (E' : List Ends) (c : ℕ) (xs : List ℕ) (p a q b : Option ℕ) (n : ℕ) (l : Links)
    → Patched L E L' E' c p a q b n l → Shape L' E' (lists_with (members L E) c xs) → Sound L' E' × Relinked L E L' E' c xs n l.container
relinked L E L' E' c xs p a q b n l t s = (
  shape_sound L' E' _ s,
  record {
    here = shape_members L' E' _ s c ∙ with_here (members L E) c xs;
    others = λ k ne. shape_members L' E' _ s k ∙ with_other (members L E) c xs k ne;
    moved = ap (λ l. l.container) t.at_n;
    stay = t.homes;
    nodes = t.nodes;
    containers = t.containers;
  },
)

module _ (L : List Links) (E : List Ends) (s : Sound L E) (n c : ℕ) (us vs : List ℕ) where
  pub insert_between : members L E c ≡ us ++ vs → n < length L → home_of L n ≡ None → c < length E
      → Sound (patch_links L (last_of None us) (Some n) (first_of vs) (Some n) n (linked c (last_of None us) (first_of vs))) (patch_ends E c (last_of None us) (Some n) (first_of vs) (Some n))
      × Relinked L E (patch_links L (last_of None us) (Some n) (first_of vs) (Some n) n (linked c (last_of None us) (first_of vs))) (patch_ends E c (last_of None us) (Some n) (first_of vs) (Some n)) c (us ++ n ∷ vs) n (Some c)
  insert_between is within new room =
      relinked L E _ _ c (us ++ n ∷ vs) _ _ _ _ n _ t (shape_insert L E (members L E) s _ _ c us vs n (lists_with (members L E) c (us ++ n ∷ vs)) t is (with_here _ c _) (with_other _ c _) new room)
    where
      lives : (x : ℕ) → In x (us ++ vs) → home_of L x ≡ Some c
      lives x i = s.home c x (subst (In x) (sym is) i)

      off : (x : ℕ) → In x (us ++ vs) → Some n ≡ Some x → ⊥
      off x i e = some_none c (sym (lives x i) ∙ ap (home_of L) (sym (some_some n x e)) ∙ new)

      t : Patched L E (patch_links L (last_of None us) (Some n) (first_of vs) (Some n) n (linked c (last_of None us) (first_of vs))) (patch_ends E c (last_of None us) (Some n) (first_of vs) (Some n)) c
          (last_of None us) (Some n) (first_of vs) (Some n) n (linked c (last_of None us) (first_of vs))
      t = patched L E c (last_of None us) (Some n) (first_of vs) (Some n) n (linked c (last_of None us) (first_of vs)) within
          (place_last L None us tt (λ x i. homed L x c (lives x (in_left x us vs i)))) (place_first L vs (λ x i. homed L x c (lives x (in_right x us vs i)))) room
          (λ e. off_last (Some n) None us (some_none n) (λ x i. off x (in_left x us vs i)) (sym e)) (λ e. off_first (Some n) vs (some_none n) (λ x i. off x (in_right x us vs i)) (sym e))

  pub remove_between : members L E c ≡ us ++ n ∷ vs → c < length E
      → Sound (patch_links L (last_of None us) (first_of vs) (first_of vs) (last_of None us) n unlinked) (patch_ends E c (last_of None us) (first_of vs) (first_of vs) (last_of None us))
      × Relinked L E (patch_links L (last_of None us) (first_of vs) (first_of vs) (last_of None us) n unlinked) (patch_ends E c (last_of None us) (first_of vs) (first_of vs) (last_of None us)) c (us ++ vs) n None
  remove_between is room =
      relinked L E _ _ c (us ++ vs) _ _ _ _ n _ t (shape_remove L E (members L E) s _ _ c us vs n (lists_with (members L E) c (us ++ vs)) t is (with_here _ c _) (with_other _ c _))
    where
      lives : (x : ℕ) → In x (us ++ n ∷ vs) → home_of L x ≡ Some c
      lives x i = s.home c x (subst (In x) (sym is) i)

      gone : In n (us ++ vs) → ⊥
      gone = (apart_remove n us vs (subst Apart is (s.apart c))).1

      off : (x : ℕ) → In x (us ++ vs) → Some n ≡ Some x → ⊥
      off x i e = gone (subst (λ z. In z (us ++ vs)) (sym (some_some n x e)) i)

      t : Patched L E (patch_links L (last_of None us) (first_of vs) (first_of vs) (last_of None us) n unlinked) (patch_ends E c (last_of None us) (first_of vs) (first_of vs) (last_of None us)) c
          (last_of None us) (first_of vs) (first_of vs) (last_of None us) n unlinked
      t = patched L E c (last_of None us) (first_of vs) (first_of vs) (last_of None us) n unlinked (homed L n c (lives n (in_right n us (n ∷ vs) (inl refl))))
          (place_last L None us tt (λ x i. homed L x c (lives x (in_left x us (n ∷ vs) i)))) (place_first L vs (λ x i. homed L x c (lives x (in_right x us (n ∷ vs) (inr i))))) room
          (λ e. off_last (Some n) None us (some_none n) (λ x i. off x (in_left x us vs i)) (sym e)) (λ e. off_first (Some n) vs (some_none n) (λ x i. off x (in_right x us vs i)) (sym e))

-- what `Raw::link` and `Raw::unlink` leave
abbrev pub Linked : List Links → List Ends → List Links → List Ends → ℕ → ℕ → Option ℕ → Option ℕ → Type 0
Linked L E L' E' n c p q = (L' ≡ patch_links L p (Some n) q (Some n) n (linked c p q)) × (E' ≡ patch_ends E c p (Some n) q (Some n))

abbrev pub Unlinked : List Links → List Ends → List Links → List Ends → ℕ → ℕ → Option ℕ → Option ℕ → Type 0
Unlinked L E L' E' n c p q = (L' ≡ patch_links L p q q p n unlinked) × (E' ≡ patch_ends E c p q q p)

module _ (L : List Links) (E : List Ends) (s : Sound L E) (L' : List Links) (E' : List Ends) (n c : ℕ) where
  link_at : (us vs xs : List ℕ) (p q : Option ℕ) → Linked L E L' E' n c p q → members L E c ≡ us ++ vs → p ≡ last_of None us → q ≡ first_of vs → xs ≡ us ++ n ∷ vs
      → n < length L → home_of L n ≡ None → c < length E → Sound L' E' × Relinked L E L' E' c xs n (Some c)
  link_at us vs xs p q w is hp hq hx within new room = rw (w.0, w.1, hx, hp, hq) (insert_between L E s n c us vs is within new room)

  unlink_at_lem : (us vs xs : List ℕ) (p q : Option ℕ) → Unlinked L E L' E' n c p q → members L E c ≡ us ++ n ∷ vs → p ≡ last_of None us → q ≡ first_of vs → xs ≡ us ++ vs
      → c < length E → Sound L' E' × Relinked L E L' E' c xs n None
  unlink_at_lem us vs xs p q w is hp hq hx room = rw (w.0, w.1, hx, hp, hq) (remove_between L E s n c us vs is room)

  -- Each edit takes what was read of the node that it is about.
  pub insert_after_lem : (m : ℕ) (p q : Option ℕ) → links_at L m ≡ linked c p q → Linked L E L' E' n c (Some m) q → n < length L → home_of L n ≡ None
      → Sound L' E' × ((k : ℕ) → home_of L m ≡ Some k → Relinked L E L' E' k (insert_after m n (members L E k)) n (Some k))
  insert_after_lem m p q read w within new =
      let home : home_of L m ≡ Some c = ap (λ l. l.container) read in
      let t = split m (members L E c) (s.held c m home) in
      let us = t.0 in
      let vs = t.1 in
      let h = subst (Chain (fwd L E c) (bwd L E c) None) t.2 (s.chain c) in
      let done = link_at (us ++ m ∷ []) vs (insert_after m n (members L E c)) (Some m) q w (t.2 ∙ sym (append_assoc us (m ∷ []) vs)) (sym (last_push None us m))
      (sym (ap (λ l. l.next) read) ∙ (chain_at (fwd L E c) (bwd L E c) None us m vs h).0)
      (ap (insert_after m n) t.2 ∙ insert_after_at m n us vs (apart_before m us vs (subst Apart t.2 (s.apart c))) ∙ sym (append_assoc us (m ∷ []) (n ∷ vs)))
      within new (s.bound c m home) in
      (done.0, λ k hk. subst (λ j. Relinked L E L' E' j (insert_after m n (members L E j)) n (Some j)) (some_some c k (sym home ∙ hk)) done.1)

  pub insert_before_lem : (m : ℕ) (p q : Option ℕ) → links_at L m ≡ linked c p q → Linked L E L' E' n c p (Some m) → n < length L → home_of L n ≡ None
      → Sound L' E' × ((k : ℕ) → home_of L m ≡ Some k → Relinked L E L' E' k (insert_before m n (members L E k)) n (Some k))
  insert_before_lem m p q read w within new =
      let home : home_of L m ≡ Some c = ap (λ l. l.container) read in
      let t = split m (members L E c) (s.held c m home) in
      let us = t.0 in
      let vs = t.1 in
      let h = subst (Chain (fwd L E c) (bwd L E c) None) t.2 (s.chain c) in
      let done = link_at us (m ∷ vs) (insert_before m n (members L E c)) p (Some m) w t.2 (sym (ap (λ l. l.prev) read) ∙ (chain_at (fwd L E c) (bwd L E c) None us m vs h).1) refl
      (ap (insert_before m n) t.2 ∙ insert_before_at m n us vs (apart_before m us vs (subst Apart t.2 (s.apart c)))) within new (s.bound c m home) in
      (done.0, λ k hk. subst (λ j. Relinked L E L' E' j (insert_before m n (members L E j)) n (Some j)) (some_some c k (sym home ∙ hk)) done.1)

  pub insert_front : (at : Ends) → at ≡ ends_at E c → Linked L E L' E' n c None at.head → n < length L → home_of L n ≡ None → c < length E
      → Sound L' E' × Relinked L E L' E' c (n ∷ members L E c) n (Some c)
  insert_front at read w = link_at [] (members L E c) _ None at.head w refl refl (ap (λ l. l.head) read ∙ chain_first (fwd L E c) (bwd L E c) None (members L E c) (s.chain c)) refl

  pub insert_back : (at : Ends) → at ≡ ends_at E c → Linked L E L' E' n c at.tail None → n < length L → home_of L n ≡ None → c < length E
      → Sound L' E' × Relinked L E L' E' c (members L E c ++ n ∷ []) n (Some c)
  insert_back at read w =
      link_at (members L E c) [] _ at.tail None w (sym (append-nil (members L E c))) (ap (λ l. l.tail) read ∙ chain_last (fwd L E c) (bwd L E c) None (members L E c) (s.chain c)) refl refl

  pub unlink : (p q : Option ℕ) → links_at L n ≡ linked c p q → Unlinked L E L' E' n c p q
      → Sound L' E' × ((k : ℕ) → home_of L n ≡ Some k → Relinked L E L' E' k (without n (members L E k)) n None)
  unlink p q read w =
      let home : home_of L n ≡ Some c = ap (λ l. l.container) read in
      let t = split n (members L E c) (s.held c n home) in
      let us = t.0 in
      let vs = t.1 in
      let h = chain_at (fwd L E c) (bwd L E c) None us n vs (subst (Chain (fwd L E c) (bwd L E c) None) t.2 (s.chain c)) in
      let done = unlink_at_lem us vs (without n (members L E c)) p q w t.2 (sym (ap (λ l. l.prev) read) ∙ h.1) (sym (ap (λ l. l.next) read) ∙ h.0)
      (ap (without n) t.2 ∙ without_at n us vs (apart_before n us vs (subst Apart t.2 (s.apart c)))) (s.bound c n home) in
      (done.0, λ k hk. subst (λ j. Relinked L E L' E' j (without n (members L E j)) n None) (some_some c k (sym home ∙ hk)) done.1)

-- what a node and a container say of their list
module _ (L : List Links) (E : List Ends) (s : Sound L E) where
  pub next_is : (x c : ℕ) → home_of L x ≡ Some c → (links_at L x).next ≡ after x (members L E c)
  next_is x c hx =
      let t = split x (members L E c) (s.held c x hx) in
      let h = chain_at (fwd L E c) (bwd L E c) None t.0 x t.1 (subst (Chain (fwd L E c) (bwd L E c) None) t.2 (s.chain c)) in
      h.0 ∙ sym (ap (after x) t.2 ∙ after_at x t.0 t.1 (apart_before x t.0 t.1 (subst Apart t.2 (s.apart c))))

  pub prev_is : (x c : ℕ) → home_of L x ≡ Some c → (links_at L x).prev ≡ before x (members L E c)
  prev_is x c hx =
      let t = split x (members L E c) (s.held c x hx) in
      let h = chain_at (fwd L E c) (bwd L E c) None t.0 x t.1 (subst (Chain (fwd L E c) (bwd L E c) None) t.2 (s.chain c)) in
      h.1 ∙ sym (ap (before x) t.2 ∙ before_at None x t.0 t.1 (apart_before x t.0 t.1 (subst Apart t.2 (s.apart c))))

  pub head_is : (c : ℕ) → (ends_at E c).head ≡ first_of (members L E c)
  head_is c = chain_first (fwd L E c) (bwd L E c) None (members L E c) (s.chain c)

  pub tail_is : (c : ℕ) → (ends_at E c).tail ≡ last_of None (members L E c)
  tail_is c = chain_last (fwd L E c) (bwd L E c) None (members L E c) (s.chain c)

  pub place_head : (c : ℕ) → Place L (ends_at E c).head
  place_head c = rw (head_is c) (place_first L (members L E c) (λ x i. homed L x c (s.home c x i)))

  pub place_tail : (c : ℕ) → Place L (ends_at E c).tail
  place_tail c = rw (tail_is c) (place_last L None (members L E c) tt (λ x i. homed L x c (s.home c x i)))

  -- the neighbours of a node are nodes
  pub place_next : (x : ℕ) → Place L (links_at L x).next
  place_next x = home_cases (home_of L x) refl
    where
      home_cases : (o : Option ℕ) → home_of L x ≡ o → Place L (links_at L x).next
      home_cases None e = rw (s.free x e).0 tt
      home_cases (Some c) e =
          let t = split x (members L E c) (s.held c x e) in
          rw (chain_at (fwd L E c) (bwd L E c) None t.0 x t.1 (subst (Chain (fwd L E c) (bwd L E c) None) t.2 (s.chain c))).0
          (place_first L t.1 (λ y i. homed L y c (s.home c y (subst (In y) (sym t.2) (in_right y t.0 (x ∷ t.1) (inr i))))))

  pub place_prev : (x : ℕ) → Place L (links_at L x).prev
  place_prev x = home_cases (home_of L x) refl
    where
      home_cases : (o : Option ℕ) → home_of L x ≡ o → Place L (links_at L x).prev
      home_cases None e = rw (s.free x e).1 tt
      home_cases (Some c) e =
          let t = split x (members L E c) (s.held c x e) in
          rw (chain_at (fwd L E c) (bwd L E c) None t.0 x t.1 (subst (Chain (fwd L E c) (bwd L E c) None) t.2 (s.chain c))).1
          (place_last L None t.0 tt (λ y i. homed L y c (s.home c y (subst (In y) (sym t.2) (in_left y t.0 (x ∷ t.1) i)))))

pub some_of : (o : Option ℕ) → is_some o ≡ true → (x : ℕ) × (o ≡ Some x)
some_of None e = let z : ◌≡◌ {A = ℕ} 0 1 = cc in absurd (omega arith)
some_of (Some x) e = (x, refl)

pub next_read : (L : List Links) (E : List Ends) → Sound L E → (x : ℕ) → (links_at L x).next ≡ next_in (members L E) (home_of L x) x
next_read L E s x = at (home_of L x) refl
  where
    at : (o : Option ℕ) → home_of L x ≡ o → (links_at L x).next ≡ next_in (members L E) o x
    at None e = (s.free x e).0
    at (Some k) e = next_is L E s x k e

pub prev_read : (L : List Links) (E : List Ends) → Sound L E → (x : ℕ) → (links_at L x).prev ≡ prev_in (members L E) (home_of L x) x
prev_read L E s x = at (home_of L x) refl
  where
    at : (o : Option ℕ) → home_of L x ≡ o → (links_at L x).prev ≡ prev_in (members L E) o x
    at None e = (s.free x e).1
    at (Some k) e = prev_is L E s x k e
