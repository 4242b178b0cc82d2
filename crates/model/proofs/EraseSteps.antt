-- A part is erased node by node.
use Rattle.std.proofs.Common.{◌≡◌, ℕ, zero, suc, ◌+◌, ◌<◌, ◌≤◌, Bool, true, false, cond, not, ◌||◌, eqb, ltb, List, [], ◌∷◌, ◌++◌, length, get_or, take, set, Some, None, Option, sym, refl, ap, ◌∙◌, subst, inl, inr, arith}
use Rattle.std.proofs.lemmas.List.{ext_get_or, get_or-set_same, get_or-set_other, length-set, take_more, take_all}
use Rattle.std.proofs.lemmas.Bool.{cases_eq, eq-eqb, ne_eqb}
use Rattle.slots.specs.Cells.{Cell}
use Rattle.slots.specs.Cells.{Free, Live, Spent}
use Rattle.slots.specs.Cells.{cell_at, holds, retired, viewed}
use Rattle.slots.proofs.CellLaws.{found_live}
use Rattle.lists.specs.Walk.{In, Apart, without}
use Rattle.lists.proofs.Chains.{some_none, some_some}
use Rattle.model.specs.declared.ids.IRNode.{IRNode}
use Rattle.model.specs.declared.ids.IRNode.TheVariants as node
use Rattle.model.specs.declared.ids.OpId.{OpId}
use Rattle.model.specs.declared.ids.Region.{Region}
use Rattle.model.specs.declared.ids.RegionId.{RegionId}
use Rattle.model.specs.Model.{Model, Operation, put, owner_of, owner_slot, find_region}
use Rattle.model.specs.Calls.{unlink_at, drop_op}
use Rattle.model.specs.Sound.{Sound, Agree, Among}
use Rattle.model.specs.Erasing.{is_op, is_block, is_region, has, has_op, has_block, has_region, less, sweep, disowned, nowhere, taken, erased, unlink_block_at, drop_block, disown_at, drop_region, erase_node}
use Rattle.model.proofs.Lists.{put_same, put_other}
use Rattle.model.proofs.Sweeps.{among_in, less_was, less_none, less_or, agree_less, cell_at_sweep, length_sweep, sweep_was}
use Rattle.model.proofs.Erased.{region_kept}

same_model : (m n : Model) → m.ops ≡ n.ops → m.blocks ≡ n.blocks → m.regions ≡ n.regions
    → ((b : ℕ) → m.ops_of b ≡ n.ops_of b) → ((s : ℕ) → m.home_of s ≡ n.home_of s) → ((r : ℕ) → m.blocks_of r ≡ n.blocks_of r) → ((b : ℕ) → m.place_of b ≡ n.place_of b) → m ≡ n
same_model m n o b r p q u v = λ i. record {
  ops = o i;
  blocks = b i;
  regions = r i;
  ops_of = λ k. p k i;
  home_of = λ k. q k i;
  blocks_of = λ k. u k i;
  place_of = λ k. v k i;
}

-- an operation of which no region goes is as it was
disowned_none : (f : ℕ → Bool) (x : Operation) → ((r : RegionId) → Among r x.regions → f r.slot ≡ false) → disowned f x ≡ x
disowned_none f x h = λ i. record {
  kind = x.kind;
  note = x.note;
  operands = x.operands;
  results = x.results;
  regions = less_none (λ (r : RegionId). f r.slot) x.regions h i;
}

disowned_or : (f g : ℕ → Bool) (x : Operation) → disowned (λ s. f s || g s) x ≡ disowned g (disowned f x)
disowned_or f g x = λ i. record {
  kind = x.kind;
  note = x.note;
  operands = x.operands;
  results = x.results;
  regions = less_or (λ (r : RegionId). f r.slot) (λ (r : RegionId). g r.slot) x.regions i;
}

viewed_none : {X : Type 0} (k : X → X) → ((x : X) → k x ≡ x) → (c : Cell X) → viewed k c ≡ c
viewed_none k h (Free g) = refl
viewed_none k h (Live g x) = ap (Live g) (h x)
viewed_none k h Spent = refl

sweep_none : {X : Type 0} (k : X → X) → ((x : X) → k x ≡ x) → (cs : List (Cell X)) → sweep (λ _. false) k cs ≡ cs
sweep_none k h [] = refl
sweep_none {X} k h (c ∷ cs) = ap (λ d. d ∷ sweep (λ _. false) k cs) (viewed_none k h c) ∙ ap (λ ds. c ∷ ds) (sweep_none k h cs)

module _ {X : Type 0} where
  retired_viewed : (k : X → X) (c : Cell X) → retired (viewed k c) ≡ retired c
  retired_viewed k (Free g) = refl
  retired_viewed k (Live g x) = elim (ltb g 4294967295) as (λ b. ◌≡◌ {A = Cell X} (cond b (Free (g + 1)) Spent) (cond b (Free (g + 1)) Spent)) [ true ↦ refl | false ↦ refl ]
  retired_viewed k Spent = refl

  retired_retired : (c : Cell X) → retired (retired c) ≡ retired c
  retired_retired (Free g) = refl
  retired_retired (Live g x) = elim (ltb g 4294967295) as (λ b. retired {X = X} (cond b (Free (g + 1)) Spent) ≡ cond b (Free (g + 1)) Spent) [ true ↦ refl | false ↦ refl ]
  retired_retired Spent = refl

  viewed_retired : (k : X → X) (c : Cell X) → viewed k (retired c) ≡ retired c
  viewed_retired k (Free g) = refl
  viewed_retired k (Live g x) = elim (ltb g 4294967295) as (λ b. viewed k (cond b (Free (g + 1)) Spent) ≡ cond b (Free (g + 1)) Spent) [ true ↦ refl | false ↦ refl ]
  viewed_retired k Spent = refl

  module _ (k l j : X → X) (jk : (x : X) → j x ≡ l (k x)) where
    viewed_both : (c : Cell X) → viewed j c ≡ viewed l (viewed k c)
    viewed_both (Free g) = refl
    viewed_both (Live g x) = ap (Live g) (jk x)
    viewed_both Spent = refl

    cell_or : (a b : Bool) (c : Cell X)
        → cond (a || b) (retired c) (viewed j c) ≡ cond b (retired (cond a (retired c) (viewed k c))) (viewed l (cond a (retired c) (viewed k c)))
    cell_or true true c = sym (retired_retired c)
    cell_or true false c = sym (viewed_retired l c)
    cell_or false true c = sym (retired_viewed k c)
    cell_or false false c = viewed_both c

    sweep_or : (f g : ℕ → Bool) (cs : List (Cell X)) → sweep (λ s. f s || g s) j cs ≡ sweep g l (sweep f k cs)
    sweep_or f g [] = refl
    sweep_or f g (c ∷ cs) = ap (λ d. d ∷ sweep (λ s. f (suc s) || g (suc s)) j cs) (cell_or (f zero) (g zero) c)
        ∙ ap (λ ds. cond (g zero) (retired (cond (f zero) (retired c) (viewed k c))) (viewed l (cond (f zero) (retired c) (viewed k c))) ∷ ds) (sweep_or (λ s. f (suc s)) (λ s. g (suc s)) cs)

  -- one slot is swept
  sweep_one : (k : X → X) → ((x : X) → k x ≡ x) → (cs : List (Cell X)) (s : ℕ) → sweep (λ t. eqb t s) k cs ≡ set cs s (retired (cell_at cs s))
  sweep_one k h cs s = ext_get_or Spent (sweep (λ t. eqb t s) k cs) (set cs s (retired (cell_at cs s))) (length_sweep k (λ t. eqb t s) cs ∙ sym (length-set cs s (retired (cell_at cs s)))) at
    where
      at : (i : ℕ) → i < length (sweep (λ t. eqb t s) k cs) → cell_at (sweep (λ t. eqb t s) k cs) i ≡ cell_at (set cs s (retired (cell_at cs s))) i
      at i l = cell_at_sweep k (λ t. eqb t s) cs i ∙ elim (cases_eq i s) [
        | inl e ↦ ap (λ b. cond b (retired (cell_at cs i)) (viewed k (cell_at cs i))) (eq-eqb i s e) ∙ ap (λ j. retired (cell_at cs j)) e
            ∙ sym (ap (cell_at (set cs s (retired (cell_at cs s)))) e ∙ get_or-set_same cs s (retired (cell_at cs s)) Spent (omega (arith, l, e, length_sweep k (λ t. eqb t s) cs)))
        | inr n ↦ ap (λ b. cond b (retired (cell_at cs i)) (viewed k (cell_at cs i))) (ne_eqb i s n) ∙ viewed_none k h (cell_at cs i) ∙ sym (get_or-set_other cs s i (retired (cell_at cs s)) Spent n)
      ]

-- nothing is taken where no node is given
pub erased_none : (m : Model) → erased m [] ≡ m
erased_none m = same_model (erased m []) m (sweep_none (disowned (λ _. false)) (λ x. disowned_none (λ _. false) x (λ _ _. refl)) m.ops) (sweep_none (λ x. x) (λ _. refl) m.blocks)
    (sweep_none (λ x. x) (λ _. refl) m.regions) (λ b. less_none (λ _. false) (m.ops_of b) (λ _ _. refl)) (λ _. refl) (λ r. less_none (λ _. false) (m.blocks_of r) (λ _ _. refl)) (λ _. refl)

-- taking more is taking twice
taken_or : (f g h f' g' h' : ℕ → Bool) (m : Model) → taken (λ s. f s || f' s) (λ s. g s || g' s) (λ s. h s || h' s) m ≡ taken f' g' h' (taken f g h m)
taken_or f g h f' g' h' m = same_model (taken (λ s. f s || f' s) (λ s. g s || g' s) (λ s. h s || h' s) m) (taken f' g' h' (taken f g h m))
    (sweep_or (disowned h) (disowned h') (disowned (λ s. h s || h' s)) (disowned_or h h') f f' m.ops)
    (sweep_or (λ x. x) (λ x. x) (λ x. x) (λ _. refl) g g' m.blocks) (sweep_or (λ x. x) (λ x. x) (λ x. x) (λ _. refl) h h' m.regions)
    (λ b. less_or f f' (m.ops_of b)) (λ s. nowhere_or (f s) (f' s) (m.home_of s)) (λ r. less_or g g' (m.blocks_of r)) (λ b. nowhere_or (g b) (g' b) (m.place_of b))
  where
    nowhere_or : (a b : Bool) (q : Option ℕ) → cond (a || b) None q ≡ cond b None (cond a None q)
    nowhere_or true true q = refl
    nowhere_or true false q = refl
    nowhere_or false true q = refl
    nowhere_or false false q = refl

or_assoc : (a b c : Bool) → ((a || b) || c) ≡ (a || (b || c))
or_assoc true b c = refl
or_assoc false b c = refl

or_false : (a : Bool) → (a || false) ≡ a
or_false true = refl
or_false false = refl

pub has_append : (t : IRNode → ℕ → Bool) (ns ks : List IRNode) (s : ℕ) → has t (ns ++ ks) s ≡ (has t ns s || has t ks s)
has_append t [] ks s = refl
has_append t (n ∷ ns) ks s = ap (λ b. t n s || b) (has_append t ns ks s) ∙ sym (or_assoc (t n s) (has t ns s) (has t ks s))

pub erased_append : (m : Model) (ns ks : List IRNode) → erased m (ns ++ ks) ≡ erased (erased m ns) ks
erased_append m ns ks = (λ i. taken (λ s. has_append is_op ns ks s i) (λ s. has_append is_block ns ks s i) (λ s. has_append is_region ns ks s i) m)
    ∙ taken_or (has_op ns) (has_block ns) (has_region ns) (has_op ks) (has_block ks) (has_region ks) m

-- where lists and parents agree, and each region of an operation has it for its owner
record Tidy (m : Model) : Type 0 where
  ops : Agree m.ops_of m.home_of
  blocks : Agree m.blocks_of m.place_of
  owned : (s g : ℕ) (x : Operation) → cell_at m.ops s ≡ Live g x → (r : RegionId) → Among r x.regions → owner_slot (holds (cell_at m.regions r.slot)) ≡ Some s

tidy : (m : Model) (ns : List IRNode) → Sound m → Tidy (erased m ns)
tidy m ns σ = record {
  ops = agree_less (has_op ns) m.ops_of m.home_of σ.ops;
  blocks = agree_less (has_block ns) m.blocks_of m.place_of σ.blocks;
  owned = λ s g y e r i.
      let w = sweep_was (disowned (has_region ns)) (has_op ns) m.ops s g y e in
      let k = less_was (λ (q : RegionId). has_region ns q.slot) r w.1.regions (subst (Among r) (ap (λ z. z.regions) w.3) i) in
      ap (λ c. owner_slot (holds c)) (region_kept m ns r.slot k.1) ∙ owner s g r (find_region m r) refl (σ.owned s g w.1 w.2 r k.0);
}
  where
    owner : (s g : ℕ) (r : RegionId) (q : Option Region) → find_region m r ≡ q → owner_of (find_region m r) ≡ Some (record { slot = s; generation = g }) → owner_slot (holds (cell_at m.regions r.slot)) ≡ Some s
    owner s g r None e h = let d : None ≡ Some _ = sym (ap owner_of e) ∙ h in let z : ◌≡◌ {A = ℕ} 0 1 = cc in absurd (omega arith)
    owner s g r (Some y) e h =
        let d : Some y.owner ≡ Some (record { slot = s; generation = g }) = sym (ap owner_of e) ∙ h in
        ap (λ c. owner_slot (holds c)) (found_live m.regions r.slot r.generation y e) ∙ ap slot_of d
      where
        slot_of : Option OpId → Option ℕ
        slot_of None = None
        slot_of (Some o) = Some o.slot

module _ (ms : ℕ → List ℕ) (h : ℕ → Option ℕ) (a : Agree ms h) (s : ℕ) where
  less_without : (xs : List ℕ) → Apart xs → less (λ t. eqb t s) xs ≡ without s xs
  less_without [] p = refl
  less_without (x ∷ xs) p = elim (cases_eq x s) [
    | inl e ↦ ap (λ b. cond (not b) (x ∷ less (λ t. eqb t s) xs) (less (λ t. eqb t s) xs)) (eq-eqb x s e)
        ∙ less_none (λ t. eqb t s) xs (λ y i. ne_eqb y s (λ d. p.0 (subst (λ z. In z xs) (d ∙ sym e) (among_in y xs i))))
        ∙ sym (ap (λ b. cond b xs (x ∷ without s xs)) (eq-eqb s x (sym e)))
    | inr n ↦ ap (λ b. cond (not b) (x ∷ less (λ t. eqb t s) xs) (less (λ t. eqb t s) xs)) (ne_eqb x s n) ∙ ap (λ ys. x ∷ ys) (less_without xs p.1)
        ∙ sym (ap (λ b. cond b xs (x ∷ without s xs)) (ne_eqb s x (λ e. n (sym e))))
  ]

  absent : (c : ℕ) → (h s ≡ Some c → ⊥) → less (λ t. eqb t s) (ms c) ≡ ms c
  absent c n = less_none (λ t. eqb t s) (ms c) (λ y i. ne_eqb y s (λ d. n (ap h (sym d) ∙ a.home c y (among_in y (ms c) i))))

  gone_lists : (b : ℕ) → h s ≡ Some b → (c : ℕ) → less (λ t. eqb t s) (ms c) ≡ put ms b (without s (ms b)) c
  gone_lists b e c = elim (cases_eq c b) [
    | inl d ↦ ap (λ k. less (λ t. eqb t s) (ms k)) d ∙ less_without (ms b) (a.apart b) ∙ sym (ap (put ms b (without s (ms b))) d ∙ put_same ms b (without s (ms b)))
    | inr n ↦ absent c (λ d. n (some_some c b (sym d ∙ e))) ∙ sym (put_other ms b (without s (ms b)) c n)
  ]

  gone_home : h s ≡ None → (t : ℕ) → nowhere (λ k. eqb k s) h t ≡ h t
  gone_home e t = elim (cases_eq t s) [
    | inl d ↦ ap (λ b. cond b None (h t)) (eq-eqb t s d) ∙ sym (ap h d ∙ e)
    | inr n ↦ ap (λ b. cond b None (h t)) (ne_eqb t s n)
  ]

module _ (m : Model) (τ : Tidy m) where
  same_op_lem : (x : Operation) → disowned (λ _. false) x ≡ x
  same_op_lem x = disowned_none (λ _. false) x (λ _ _. refl)

  op_gone : (s : ℕ) (q : Option ℕ) → m.home_of s ≡ q → taken (λ t. eqb t s) (λ _. false) (λ _. false) m ≡ drop_op (unlink_at m s q) s
  op_gone s None e = same_model (taken (λ t. eqb t s) (λ _. false) (λ _. false) m) (drop_op m s)
      (sweep_one (disowned (λ _. false)) same_op_lem m.ops s) (sweep_none (λ x. x) (λ _. refl) m.blocks) (sweep_none (λ x. x) (λ _. refl) m.regions)
      (λ c. absent m.ops_of m.home_of τ.ops s c (λ d. some_none c (sym d ∙ e))) (gone_home m.ops_of m.home_of τ.ops s e)
      (λ r. less_none (λ _. false) (m.blocks_of r) (λ _ _. refl)) (λ _. refl)
  op_gone s (Some b) e = same_model (taken (λ t. eqb t s) (λ _. false) (λ _. false) m) (drop_op (unlink_at m s (Some b)) s)
      (sweep_one (disowned (λ _. false)) same_op_lem m.ops s) (sweep_none (λ x. x) (λ _. refl) m.blocks) (sweep_none (λ x. x) (λ _. refl) m.regions)
      (gone_lists m.ops_of m.home_of τ.ops s b e) (λ _. refl)
      (λ r. less_none (λ _. false) (m.blocks_of r) (λ _ _. refl)) (λ _. refl)

  block_gone : (s : ℕ) (q : Option ℕ) → m.place_of s ≡ q → taken (λ _. false) (λ t. eqb t s) (λ _. false) m ≡ drop_block (unlink_block_at m s q) s
  block_gone s None e = same_model (taken (λ _. false) (λ t. eqb t s) (λ _. false) m) (drop_block m s)
      (sweep_none (disowned (λ _. false)) same_op_lem m.ops) (sweep_one (λ x. x) (λ _. refl) m.blocks s) (sweep_none (λ x. x) (λ _. refl) m.regions)
      (λ c. less_none (λ _. false) (m.ops_of c) (λ _ _. refl)) (λ _. refl)
      (λ c. absent m.blocks_of m.place_of τ.blocks s c (λ d. some_none c (sym d ∙ e))) (gone_home m.blocks_of m.place_of τ.blocks s e)
  block_gone s (Some r) e = same_model (taken (λ _. false) (λ t. eqb t s) (λ _. false) m) (drop_block (unlink_block_at m s (Some r)) s)
      (sweep_none (disowned (λ _. false)) same_op_lem m.ops) (sweep_one (λ x. x) (λ _. refl) m.blocks s) (sweep_none (λ x. x) (λ _. refl) m.regions)
      (λ c. less_none (λ _. false) (m.ops_of c) (λ _ _. refl)) (λ _. refl)
      (gone_lists m.blocks_of m.place_of τ.blocks s r e) (λ _. refl)

  -- an operation that does not own the region at r has none there
  other_owner : (r i : ℕ) → (owner_slot (holds (cell_at m.regions r)) ≡ Some i → ⊥) → viewed (disowned (λ k. eqb k r)) (cell_at m.ops i) ≡ cell_at m.ops i
  other_owner r i n = at (cell_at m.ops i) refl
    where
      at : (c : Cell Operation) → cell_at m.ops i ≡ c → viewed (disowned (λ k. eqb k r)) c ≡ c
      at (Free g) e = refl
      at (Live g x) e = ap (Live g) (disowned_none (λ k. eqb k r) x (λ q j. ne_eqb q.slot r (λ d. n (ap (λ k. owner_slot (holds (cell_at m.regions k))) (sym d) ∙ τ.owned i g x e q j))))
      at Spent e = refl

  region_ops : (r : ℕ) (q : Option ℕ) → owner_slot (holds (cell_at m.regions r)) ≡ q → sweep (λ _. false) (disowned (λ k. eqb k r)) m.ops ≡ (disown_at m r q).ops
  region_ops r None e = ext_get_or Spent (sweep (λ _. false) (disowned (λ k. eqb k r)) m.ops) m.ops (length_sweep (disowned (λ k. eqb k r)) (λ _. false) m.ops)
      (λ i l. cell_at_sweep (disowned (λ k. eqb k r)) (λ _. false) m.ops i ∙ other_owner r i (λ d. some_none i (sym d ∙ e)))
  region_ops r (Some s) e =
      ext_get_or Spent (sweep (λ _. false) (disowned (λ k. eqb k r)) m.ops) (set m.ops s new) (length_sweep (disowned (λ k. eqb k r)) (λ _. false) m.ops ∙ sym (length-set m.ops s new))
      (λ i l. cell_at_sweep (disowned (λ k. eqb k r)) (λ _. false) m.ops i ∙ elim (cases_eq i s) [
        | inl d ↦ ap (λ j. viewed (disowned (λ k. eqb k r)) (cell_at m.ops j)) d
            ∙ sym (ap (cell_at (set m.ops s new)) d ∙ get_or-set_same m.ops s new Spent (omega (arith, l, d, length_sweep (disowned (λ k. eqb k r)) (λ _. false) m.ops)))
        | inr n ↦ other_owner r i (λ d. n (some_some i s (sym d ∙ e))) ∙ sym (get_or-set_other m.ops s i new Spent n)
      ])
    where
      new : Cell Operation
      new = viewed (disowned (λ k. eqb k r)) (cell_at m.ops s)

  region_gone : (r : ℕ) (q : Option ℕ) → owner_slot (holds (cell_at m.regions r)) ≡ q → taken (λ _. false) (λ _. false) (λ t. eqb t r) m ≡ drop_region (disown_at m r q) r
  region_gone r None e = same_model (taken (λ _. false) (λ _. false) (λ t. eqb t r) m) (drop_region m r)
      (region_ops r None e) (sweep_none (λ x. x) (λ _. refl) m.blocks) (sweep_one (λ x. x) (λ _. refl) m.regions r)
      (λ c. less_none (λ _. false) (m.ops_of c) (λ _ _. refl)) (λ _. refl) (λ c. less_none (λ _. false) (m.blocks_of c) (λ _ _. refl)) (λ _. refl)
  region_gone r (Some s) e = same_model (taken (λ _. false) (λ _. false) (λ t. eqb t r) m) (drop_region (disown_at m r (Some s)) r)
      (region_ops r (Some s) e) (sweep_none (λ x. x) (λ _. refl) m.blocks) (sweep_one (λ x. x) (λ _. refl) m.regions r)
      (λ c. less_none (λ _. false) (m.ops_of c) (λ _ _. refl)) (λ _. refl) (λ c. less_none (λ _. false) (m.blocks_of c) (λ _ _. refl)) (λ _. refl)

  node_gone : (n : IRNode) → taken (is_op n) (is_block n) (is_region n) m ≡ erase_node m n
  node_gone (node.Operation o) = op_gone o.slot (m.home_of o.slot) refl
  node_gone (node.BasicBlock b) = block_gone b.slot (m.place_of b.slot) refl
  node_gone (node.Region r) = region_gone r.slot (owner_slot (holds (cell_at m.regions r.slot))) refl

-- one node more
pub erase_step : (m : Model) (ns : List IRNode) (n : IRNode) → Sound m → erased m (ns ++ n ∷ []) ≡ erase_node (erased m ns) n
erase_step m ns n σ = erased_append m ns (n ∷ []) ∙ (λ i. taken (λ s. or_false (is_op n s) i) (λ s. or_false (is_block n s) i) (λ s. or_false (is_region n s) i) (erased m ns))
    ∙ node_gone (erased m ns) (tidy m ns σ) n

-- a loop over the nodes
pub erase_more : (m : Model) (ns : List IRNode) (i : ℕ) (d : IRNode) → Sound m → i < length ns → erased m (take (i + 1) ns) ≡ erase_node (erased m (take i ns)) (get_or ns i d)
erase_more m ns i d σ h = ap (erased m) (take_more ns i d h) ∙ erase_step m (take i ns) (get_or ns i d) σ

pub erase_all : (m : Model) (ns : List IRNode) (i : ℕ) → length ns ≤ i → erased m (take i ns) ≡ erased m ns
erase_all m ns i h = ap (erased m) (take_all i ns h)
