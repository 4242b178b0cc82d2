-- What a walk meets: each node that lives in the operation, and none twice.
use Rattle.std.proofs.Common.{◌≡◌, ℕ, zero, suc, ◌+◌, ◌<◌, ◌≤◌, true, cond, eqb, List, ◌∷◌, map, length, is_some, Some, None, Option, sym, refl, ap, ◌∙◌, subst, inl, inr, arith}
use Rattle.std.proofs.lemmas.Bool.{cases_Bool, eqb-true}
use Rattle.std.specs.List.{flat_map}
use Rattle.slots.specs.Cells.{Cell}
use Rattle.slots.specs.Cells.{Free, Live, Spent}
use Rattle.slots.specs.Cells.{cell_at, is_live, holds, under, live_of}
use Rattle.slots.proofs.CellLaws.{never, live_is, live_found, live_within, found_is_live}
use Rattle.lists.specs.Walk.{In, Apart}
use Rattle.lists.proofs.Chains.{some_none}
use Rattle.model.specs.declared.ids.OpId.{OpId}
use Rattle.model.specs.declared.ids.BlockId.{BlockId}
use Rattle.model.specs.declared.ids.RegionId.{RegionId}
use Rattle.model.specs.declared.ids.IRNode.{IRNode}
use Rattle.model.specs.declared.ids.IRNode.TheVariants as node
use Rattle.model.specs.Model.{Model, Operation, above, up, bind, op_id, block_id, find_op, regions_of}
use Rattle.model.specs.Walk.{slots_of_regions, block_by, region_by, walk_op, walk, Distinct, owner, Leads, Within, Alive, Walked}
use Rattle.model.specs.Sound.{Sound, Among}
use Rattle.model.proofs.Distincts.{among_joined, joined_among, distinct_joined, few_distinct}
use Rattle.model.proofs.Nesting.{InBlock, InRegion, region_owner, owner_region, within_up, up_of, above_of, not_under, not_beside, within_once, block_once, region_once}
use Rattle.model.proofs.Unfolding.{unfolds}

-- what lives under a generation lives under its own
pub found_under : {X : Type 0} (c : Cell X) (g : ℕ) → is_some (under c g) ≡ true → g ≡ live_of c
found_under (Free h) g e = absurd (never e)
found_under (Live h x) g e = elim (cases_Bool (eqb h g)) [
  | inl t ↦ sym (eqb-true h g t)
  | inr f ↦ absurd (never (sym (ap (λ b. is_some (cond b (Some x) None)) f) ∙ e))
]
found_under Spent g e = absurd (never e)

module _ (m : Model) (σ : Sound m) where
  -- what is met at the block b, and in the region r
  module _ (f : ℕ → List IRNode) (in-op : (c : ℕ) (n : IRNode) → Among n (f c) → Within m c n) where
    in_block : (b : ℕ) (n : IRNode) → Among n (block_by m f b) → InBlock m b n
    in_block b n (inl e) = inl e
    in_block b n (inr i) = let t = among_joined f n (m.ops_of b) i in inr (t.0, σ.ops.home b t.0 t.1, in-op t.0 n t.2)

    in_region : (r : ℕ) (n : IRNode) → Among n (region_by m f r) → InRegion m r n
    in_region r n i = let t = among_joined (block_by m f) n (m.blocks_of r) i in (t.0, σ.blocks.home r t.0 t.1, in_block t.0 n t.2)

  block_within : (s b : ℕ) → above m b ≡ Some s → (n : IRNode) → InBlock m b n → Within m s n
  block_within s b a n (inl e) = subst (Within m s) (sym e) (s, a, (zero, refl))
  block_within s b a n (inr u) = within_up m σ u.0 s (up_of m u.0 b u.1 ∙ a) n u.2

  within_op : (d s : ℕ) (n : IRNode) → Among n (walk_op d m s) → Within m s n
  within_op zero s n i = absurd i
  within_op (suc d) s n (inl e) = subst (Within m s) (sym e) (zero, refl)
  within_op (suc d) s n (inr i) =
      let t = among_joined (region_by m (walk_op d m)) n (slots_of_regions m s) i in
      let u = in_region (walk_op d m) (within_op d) t.0 n t.2 in
      block_within s u.0 (above_of m u.0 t.0 u.1 ∙ region_owner m σ s t.0 t.1) n u.2

  -- the regions of an operation are apart
  pub regions_apart : (s : ℕ) → Apart (slots_of_regions m s)
  regions_apart s = at (cell_at m.ops s) refl
    where
      at : (c : Cell Operation) → cell_at m.ops s ≡ c → Apart (map (λ (r : RegionId). r.slot) (regions_of (holds c)))
      at (Free g) e = tt
      at (Live g x) e = σ.apart s g x e
      at Spent e = tt

  op_not_block : (o : OpId) (b : BlockId) → node.Operation o ≡ node.BasicBlock b → ⊥
  op_not_block o b e = let z : ◌≡◌ {A = ℕ} 0 1 = cc in omega arith

  -- an operation is not met in its own regions
  not_inside : (s r : ℕ) → owner m r ≡ Some s → InRegion m r (node.Operation (op_id m s)) → ⊥
  not_inside s r e (b, p, inl d) = op_not_block (op_id m s) (block_id m b) d
  not_inside s r e (b, p, inr u) = not_under m σ u.0 s (up_of m u.0 b u.1 ∙ above_of m b r p ∙ e) u.2

  -- where no node is met twice in each operation, none is in each block and region
  module _ (f : ℕ → List IRNode) (in-op : (c : ℕ) (n : IRNode) → Among n (f c) → Within m c n) (each : (c : ℕ) → Distinct (f c)) where
    distinct_block : (b : ℕ) → Distinct (block_by m f b)
    distinct_block b = (
      λ j.
          let t = among_joined f (node.BasicBlock (block_id m b)) (m.ops_of b) j in
          not_beside m σ b b t.0 refl (home t.0 t.1) (in-op t.0 (node.BasicBlock (block_id m b)) t.2),
      distinct_joined f (m.ops_of b) (σ.ops.apart b) (λ c j. each c) (λ c e j k n l o.
          within_once m σ c e (up_of m c b (home c j) ∙ sym (up_of m e b (home e k))) n (in-op c n l) (in-op e n o)),
    )
      where
        home : (c : ℕ) → In c (m.ops_of b) → m.home_of c ≡ Some b
        home c i = σ.ops.home b c i

    distinct_region : (r : ℕ) → Distinct (region_by m f r)
    distinct_region r =
        distinct_joined (block_by m f) (m.blocks_of r) (σ.blocks.apart r) (λ b i. distinct_block b) (λ b e i j n k l.
        block_once m σ b e (over b i ∙ sym (over e j)) n (in_block f in-op b n k) (in_block f in-op e n l))
      where
        over : (b : ℕ) → In b (m.blocks_of r) → above m b ≡ owner m r
        over b i = above_of m b r (σ.blocks.home r b i)

    distinct_inside : (s : ℕ) → Distinct (node.Operation (op_id m s) ∷ flat_map (region_by m f) (slots_of_regions m s))
    distinct_inside s = (
      λ i.
          let t = among_joined (region_by m f) (node.Operation (op_id m s)) (slots_of_regions m s) i in
          not_inside s t.0 (region_owner m σ s t.0 t.1) (in_region f in-op t.0 (node.Operation (op_id m s)) t.2),
      distinct_joined (region_by m f) (slots_of_regions m s) (regions_apart s) (λ r i. distinct_region r) (λ r q i j n k l.
          region_once m σ r q (region_owner m σ s r i ∙ sym (region_owner m σ s q j)) n (in_region f in-op r n k) (in_region f in-op q n l)),
    )

  distinct_op : (d s : ℕ) → Distinct (walk_op d m s)
  distinct_op zero s = tt
  distinct_op (suc d) s = distinct_inside (walk_op d m) (within_op d) (distinct_op d) s

  -- no node is met twice
  pub walk_distinct : (s : ℕ) → Distinct (walk m s)
  walk_distinct s = distinct_op (suc (length m.ops)) s

  pub block_distinct : (b : ℕ) → Distinct (block_by m (walk m) b)
  block_distinct = distinct_block (walk m) (within_op (suc (length m.ops))) walk_distinct

  pub region_distinct : (r : ℕ) → Distinct (region_by m (walk m) r)
  region_distinct = distinct_region (walk m) (within_op (suc (length m.ops))) walk_distinct

  -- what lives has an identity, and of one slot only one
  pub op_alive : (s : ℕ) → is_live (cell_at m.ops s) ≡ true → Alive m (node.Operation (op_id m s))
  op_alive s l = let t = live_is (cell_at m.ops s) l in
      ap is_some (ap (λ c. under c (live_of c)) t.2 ∙ sym (ap (λ c. under c t.0) t.2) ∙ live_found m.ops s t.0 t.1 t.2)

  pub block_alive : (b : ℕ) → is_live (cell_at m.blocks b) ≡ true → Alive m (node.BasicBlock (block_id m b))
  block_alive b l = let t = live_is (cell_at m.blocks b) l in
      ap is_some (ap (λ c. under c (live_of c)) t.2 ∙ sym (ap (λ c. under c t.0) t.2) ∙ live_found m.blocks b t.0 t.1 t.2)

  -- what is met in what lives, lives
  module _ (f : ℕ → List IRNode) (each : (c : ℕ) → is_live (cell_at m.ops c) ≡ true → (n : IRNode) → Among n (f c) → Alive m n) where
    alive_block : (b : ℕ) → is_live (cell_at m.blocks b) ≡ true → (n : IRNode) → Among n (block_by m f b) → Alive m n
    alive_block b l n (inl e) = subst (Alive m) (sym e) (block_alive b l)
    alive_block b l n (inr i) = let t = among_joined f n (m.ops_of b) i in each t.0 (σ.op_in t.0 b (σ.ops.home b t.0 t.1)).0 n t.2

    alive_region : (r : ℕ) (n : IRNode) → Among n (region_by m f r) → Alive m n
    alive_region r n i = let t = among_joined (block_by m f) n (m.blocks_of r) i in alive_block t.0 (σ.block_in t.0 r (σ.blocks.home r t.0 t.1)).0 n t.2

  alive_op : (d s : ℕ) → is_live (cell_at m.ops s) ≡ true → (n : IRNode) → Among n (walk_op d m s) → Alive m n
  alive_op zero s l n i = absurd i
  alive_op (suc d) s l n (inl e) = subst (Alive m) (sym e) (op_alive s l)
  alive_op (suc d) s l n (inr i) = let t = among_joined (region_by m (walk_op d m)) n (slots_of_regions m s) i in alive_region (walk_op d m) (alive_op d) t.0 n t.2

  pub op_is : (o : OpId) → Alive m (node.Operation o) → o ≡ op_id m o.slot
  op_is o a = ap (λ g. record { slot = o.slot; generation = g }) (found_under (cell_at m.ops o.slot) o.generation a)

  pub block_is : (b : BlockId) → Alive m (node.BasicBlock b) → b ≡ block_id m b.slot
  block_is b a = ap (λ g. record { slot = b.slot; generation = g }) (found_under (cell_at m.blocks b.slot) b.generation a)

  -- operations first, then blocks
  number : IRNode → ℕ
  number (node.Operation o) = o.slot
  number (node.BasicBlock b) = length m.ops + b.slot
  number (node.Region r) = 0

  number_below : (n : IRNode) → Alive m n → number n < length m.ops + length m.blocks
  unfolding number
  number_below (node.Operation o) a = let l = live_within m.ops o.slot (found_is_live m.ops o.slot o.generation a) in omega arith
  number_below (node.BasicBlock b) a = let l = live_within m.blocks b.slot (found_is_live m.blocks b.slot b.generation a) in omega arith
  number_below (node.Region r) a = absurd a

  number_same : (n k : IRNode) → Alive m n → Alive m k → number n ≡ number k → n ≡ k
  unfolding number
  number_same (node.Operation o) (node.Operation p) a b e = ap node.Operation (op_is o a ∙ ap (op_id m) e ∙ sym (op_is p b))
  number_same (node.Operation o) (node.BasicBlock p) a b e = let l = live_within m.ops o.slot (found_is_live m.ops o.slot o.generation a) in absurd (omega arith)
  number_same (node.Operation o) (node.Region p) a b e = absurd b
  number_same (node.BasicBlock o) (node.Operation p) a b e = let l = live_within m.ops p.slot (found_is_live m.ops p.slot p.generation b) in absurd (omega arith)
  number_same (node.BasicBlock o) (node.BasicBlock p) a b e = let same : o.slot ≡ p.slot = omega arith in ap node.BasicBlock (block_is o a ∙ ap (block_id m) same ∙ sym (block_is p b))
  number_same (node.BasicBlock o) (node.Region p) a b e = absurd b
  number_same (node.Region o) k a b e = absurd a

  -- of nodes that live there are no more than slots
  few_alive : (ns : List IRNode) → Distinct ns → ((n : IRNode) → Among n ns → Alive m n) → length ns ≤ length m.ops + length m.blocks
  few_alive ns d a = few_distinct number (length m.ops + length m.blocks) ns d (λ n k i j. number_same n k (a n i) (a k j)) (λ n i. number_below n (a n i))

  pub walk_few : (s : ℕ) → is_live (cell_at m.ops s) ≡ true → length (walk m s) ≤ length m.ops + length m.blocks
  walk_few s l = few_alive (walk m s) (walk_distinct s) (alive_op (suc (length m.ops)) s l)

  pub block_few : (b : ℕ) → is_live (cell_at m.blocks b) ≡ true → length (block_by m (walk m) b) ≤ length m.ops + length m.blocks
  block_few b l = few_alive (block_by m (walk m) b) (block_distinct b) (alive_block (walk m) (alive_op (suc (length m.ops))) b l)

  pub region_few : (r : ℕ) → length (region_by m (walk m) r) ≤ length m.ops + length m.blocks
  region_few r = few_alive (region_by m (walk m) r) (region_distinct r) (alive_region (walk m) (alive_op (suc (length m.ops))) r)

  -- each node that is met lives, and is the operation or lies in it
  pub walk_alive : (s : ℕ) → is_live (cell_at m.ops s) ≡ true → (n : IRNode) → Among n (walk m s) → Alive m n
  walk_alive s l n i = alive_op (suc (length m.ops)) s l n i

  pub walk_within : (s : ℕ) (n : IRNode) → Among n (walk m s) → Within m s n
  walk_within s n i = within_op (suc (length m.ops)) s n i

  -- and each such node is met
  met_inside : (s r : ℕ) (n : IRNode) → owner m r ≡ Some s → Among n (region_by m (walk m) r) → Among n (walk m s)
  met_inside s r n e i = subst (Among n) (sym (unfolds m σ s)) (inr (joined_among (region_by m (walk m)) n r (slots_of_regions m s) (owner_region m σ s r e) i))

  met_above : (s b : ℕ) (n : IRNode) → above m b ≡ Some s → Among n (block_by m (walk m) b) → Among n (walk m s)
  met_above s b n e i = at (m.place_of b) refl
    where
      at : (q : Option ℕ) → m.place_of b ≡ q → Among n (walk m s)
      at None d = absurd (some_none s (sym e ∙ ap (λ z. bind z (owner m)) d))
      at (Some r) d = met_inside s r n (sym (above_of m b r d) ∙ e) (joined_among (block_by m (walk m)) n b (m.blocks_of r) (σ.blocks.held r b d) i)

  met_up : (s c : ℕ) (n : IRNode) → up m c ≡ Some s → Among n (walk m c) → Among n (walk m s)
  met_up s c n e i = at (m.home_of c) refl
    where
      at : (q : Option ℕ) → m.home_of c ≡ q → Among n (walk m s)
      at None d = absurd (some_none s (sym e ∙ ap (λ z. bind z (above m)) d))
      at (Some b) d = met_above s b n (sym (up_of m c b d) ∙ e) (inr (joined_among (walk m) n c (m.ops_of b) (σ.ops.held b c d) i))

  met_under : (k t s : ℕ) (n : IRNode) → Leads m k t s → Among n (walk m t) → Among n (walk m s)
  met_under zero t s n e i = subst (λ z. Among n (walk m z)) e i
  met_under (suc k) t s n h i = met_under k h.0 s n h.2 (met_up h.0 t n h.1 i)

  pub walk_meets : (s : ℕ) (n : IRNode) → Alive m n → Within m s n → Among n (walk m s)
  walk_meets s (node.Operation o) a w =
      met_under w.0 o.slot s (node.Operation o) w.1 (subst (Among (node.Operation o)) (sym (unfolds m σ o.slot)) (inl (ap node.Operation (op_is o a))))
  walk_meets s (node.BasicBlock b) a w =
      met_under w.2.0 w.0 s (node.BasicBlock b) w.2.1 (met_above w.0 b.slot (node.BasicBlock b) w.1 (inl (ap node.BasicBlock (block_is b a))))
  walk_meets s (node.Region r) a w = absurd a

-- the whole of what a walk promises
pub walked : (m : Model) → Sound m → length m.ops ≡ 512 → length m.blocks ≡ 128 → (o : OpId) → is_some (find_op m o) ≡ true → (ns : List IRNode) → ns ≡ walk m o.slot → Walked m o ns
walked m s ops blocks o h ns e =
    let live = found_is_live m.ops o.slot o.generation h in
    record {
      allowed = h;
      nodes = e;
      once = subst Distinct (sym e) (walk_distinct m s o.slot);
      all = λ n a w. subst (Among n) (sym e) (walk_meets m s o.slot n a w);
      only = λ n i. let j = subst (Among n) e i in (walk_alive m s o.slot live n j, walk_within m s o.slot n j);
      few = omega (arith, ap length e, walk_few m s o.slot live, ops, blocks);
    }
