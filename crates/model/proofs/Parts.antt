-- The part of a store that lies in a node: a closed list, in which each node that lies there stands once.
use Rattle.std.proofs.Common.{◌≡◌, ℕ, zero, suc, ◌+◌, ◌<◌, ◌⊎◌, List, [], ◌∷◌, ◌++◌, map, reverse, length, Some, None, Option, sym, refl, ap, ◌∙◌, subst, inl, inr, append-nil, arith}
use mathlib.Core.List.{reverse-cons}
use Rattle.std.specs.List.{flat_map}
use Rattle.lists.specs.Walk.{In, Apart}
use Rattle.lists.proofs.Chains.{some_none, some_some, in_left, in_right, in_cases}
use Rattle.lists.proofs.Counts.{apart_insert}
use Rattle.model.specs.declared.ids.IRNode.{IRNode}
use Rattle.model.specs.declared.ids.IRNode.TheVariants as node
use Rattle.model.specs.Model.{Model, above, up, op_id, block_id, region_id}
use Rattle.model.specs.Walk.{slots_of_regions, Distinct, owner, Under}
use Rattle.model.specs.Sound.{Sound, Among}
use Rattle.model.specs.Erasing.{body_nodes, block_nodes, edge_nodes, region_nodes, op_nodes_by, op_nodes}
use Rattle.model.proofs.Distincts.{among_cases, distinct_append, among_joined, distinct_joined}
use Rattle.model.proofs.Nesting.{region_owner, up_of, above_of, depth, depth_up, depth_few, under_up, not_under, within_once}
use Rattle.model.proofs.Unfolding.{joined_same}
use Rattle.model.proofs.Meeting.{regions_apart}

pub in_reversed : (x : ℕ) (xs : List ℕ) → In x (reverse xs) → In x xs
in_reversed x [] i = i
in_reversed x (y ∷ ys) i = elim (in_cases x (reverse ys) (y ∷ []) (subst (In x) (reverse-cons y ys) i)) [
  | inl j ↦ inr (in_reversed x ys j)
  | inr j ↦ elim j [ inl e ↦ inl e | inr k ↦ absurd k ]
]

pub in_reverse : (x : ℕ) (xs : List ℕ) → In x xs → In x (reverse xs)
in_reverse x [] i = i
in_reverse x (y ∷ ys) (inl e) = subst (In x) (sym (reverse-cons y ys)) (in_right x (reverse ys) (y ∷ []) (inl e))
in_reverse x (y ∷ ys) (inr i) = subst (In x) (sym (reverse-cons y ys)) (in_left x (reverse ys) (y ∷ []) (in_reverse x ys i))

pub apart_reverse : (xs : List ℕ) → Apart xs → Apart (reverse xs)
apart_reverse [] a = a
apart_reverse (x ∷ xs) a = subst Apart (sym (reverse-cons x xs))
    (apart_insert x (reverse xs) [] (subst Apart (sym (append-nil (reverse xs))) (apart_reverse xs a.1)) (λ i. a.0 (in_reversed x xs (subst (In x) (append-nil (reverse xs)) i))))

module _ {X : Type 0} (g : ℕ → X) where
  pub among_map : (x : X) (ks : List ℕ) → Among x (map g ks) → (k : ℕ) × In k ks × (x ≡ g k)
  among_map x [] i = absurd i
  among_map x (k ∷ ks) (inl e) = (k, inl refl, e)
  among_map x (k ∷ ks) (inr i) = let t = among_map x ks i in (t.0, inr t.1, t.2)

  pub map_among : (k : ℕ) (ks : List ℕ) → In k ks → Among (g k) (map g ks)
  map_among k [] i = absurd i
  map_among k (l ∷ ks) (inl e) = inl (ap g e)
  map_among k (l ∷ ks) (inr i) = inr (map_among k ks i)

  distinct_map : ((k l : ℕ) → g k ≡ g l → k ≡ l) → (ks : List ℕ) → Apart ks → Distinct (map g ks)
  distinct_map h [] a = tt
  distinct_map h (k ∷ ks) a = (λ i. let t = among_map (g k) ks i in a.0 (subst (λ z. In z ks) (sym (h k t.0 t.2)) t.1), distinct_map h ks a.1)

-- the operation that a node is or lies right in, and the region whose own it is
abbrev pub holder : Model → IRNode → Option ℕ
holder m (node.Operation o) = Some o.slot
holder m (node.BasicBlock b) = above m b.slot
holder m (node.Region r) = owner m r.slot

abbrev pub spot : Model → IRNode → Option ℕ
spot m (node.Operation o) = None
spot m (node.BasicBlock b) = m.place_of b.slot
spot m (node.Region r) = Some r.slot

-- the node lies in the operation s
abbrev pub Lies : Model → ℕ → IRNode → Type 0
Lies m s n = (p : ℕ) × (holder m n ≡ Some p) × Under m s p

-- in an operation of the block b; in one of a block of the region r
abbrev pub InBody : Model → ℕ → IRNode → Type 0
InBody m b n = (c : ℕ) × (m.home_of c ≡ Some b) × Lies m c n

abbrev pub Deep : Model → ℕ → IRNode → Type 0
Deep m r n = (b : ℕ) × (m.place_of b ≡ Some r) × InBody m b n

slot_of : IRNode → ℕ
slot_of (node.Operation o) = o.slot
slot_of (node.BasicBlock b) = b.slot
slot_of (node.Region r) = r.slot

module _ (m : Model) (σ : Sound m) where
  lies_up : (s p : ℕ) → up m s ≡ Some p → (n : IRNode) → Lies m s n → Lies m p n
  lies_up s p e n l = (l.0, l.1, under_up m σ l.0 s p e l.2)

  lies_once : (c d : ℕ) → up m c ≡ up m d → (n : IRNode) → Lies m c n → Lies m d n → c ≡ d
  lies_once c d e n u v =
      let same = some_some v.0 u.0 (sym v.1 ∙ u.1) in
      within_once m σ c d e (node.Operation (op_id m u.0)) u.2 (subst (Under m d) same v.2)

  pub spot_holder : (n : IRNode) (r : ℕ) → spot m n ≡ Some r → holder m n ≡ owner m r
  spot_holder (node.Operation o) r e = absurd (some_none r (sym e))
  spot_holder (node.BasicBlock b) r e = above_of m b.slot r e
  spot_holder (node.Region k) r e = ap (owner m) (some_some k.slot r e)

  deep_up : (r : ℕ) (n : IRNode) (u : Deep m r n) → up m u.2.0 ≡ owner m r
  deep_up r n u = up_of m u.2.0 u.0 u.2.1 ∙ above_of m u.0 r u.1

  -- what lies in an operation of a region does not lie right in the region's owner
  deep_not : (r : ℕ) (n : IRNode) → Deep m r n → holder m n ≡ owner m r → ⊥
  deep_not r n u h = not_under m σ u.2.0 u.2.2.0 (deep_up r n u ∙ sym h ∙ u.2.2.1) u.2.2.2

  body_once : (b d : ℕ) → above m b ≡ above m d → (n : IRNode) → InBody m b n → InBody m d n → b ≡ d
  body_once b d e n u v =
      let same = lies_once u.0 v.0 (up_of m u.0 b u.1 ∙ e ∙ sym (up_of m v.0 d v.1)) n u.2 v.2 in
      some_some b d (sym u.1 ∙ ap m.home_of same ∙ v.1)

  region_once : (r q : ℕ) → owner m r ≡ owner m q → (n : IRNode) → Deep m r n ⊎ (spot m n ≡ Some r) → Deep m q n ⊎ (spot m n ≡ Some q) → r ≡ q
  region_once r q e n (inl u) (inl v) =
      let same = body_once u.0 v.0 (above_of m u.0 r u.1 ∙ e ∙ sym (above_of m v.0 q v.1)) n u.2 v.2 in
      some_some r q (sym u.1 ∙ ap m.place_of same ∙ v.1)
  region_once r q e n (inl u) (inr j) = absurd (deep_not r n u (spot_holder n q j ∙ sym e))
  region_once r q e n (inr i) (inl v) = absurd (deep_not q n v (spot_holder n r i ∙ e))
  region_once r q e n (inr i) (inr j) = some_some r q (sym i ∙ j)

  edge_spot : (r : ℕ) (n : IRNode) → Among n (edge_nodes m r) → spot m n ≡ Some r
  edge_spot r n i = elim (among_cases n (map (λ b. node.BasicBlock (block_id m b)) (m.blocks_of r)) (node.Region (region_id m r) ∷ []) i) [
    | inl j ↦ let t = among_map (λ b. node.BasicBlock (block_id m b)) n (m.blocks_of r) j in ap (spot m) t.2 ∙ σ.blocks.home r t.0 t.1
    | inr j ↦ elim j [ inl e ↦ ap (spot m) e | inr k ↦ absurd k ]
  ]

  distinct_edge : (r : ℕ) → Distinct (edge_nodes m r)
  unfolding slot_of
  distinct_edge r = distinct_append (map (λ b. node.BasicBlock (block_id m b)) (m.blocks_of r)) (node.Region (region_id m r) ∷ [])
      (distinct_map (λ b. node.BasicBlock (block_id m b)) (λ k l e. ap slot_of e) (m.blocks_of r) (σ.blocks.apart r)) (λ i. i, tt)
      (λ n i j. let t = among_map (λ b. node.BasicBlock (block_id m b)) n (m.blocks_of r) i in elim j [ inl e ↦ clash t.0 (sym t.2 ∙ e) | inr k ↦ k ])
    where
      clash : (b : ℕ) → node.BasicBlock (block_id m b) ≡ node.Region (region_id m r) → ⊥
      clash b e = let z : ◌≡◌ {A = ℕ} 0 1 = cc in omega arith

  home : (b c : ℕ) → In c (reverse (m.ops_of b)) → m.home_of c ≡ Some b
  home b c i = σ.ops.home b c (in_reversed c (m.ops_of b) i)

  place : (r b : ℕ) → In b (reverse (m.blocks_of r)) → m.place_of b ≡ Some r
  place r b i = σ.blocks.home r b (in_reversed b (m.blocks_of r) i)

  pub own : (s r : ℕ) → In r (reverse (slots_of_regions m s)) → owner m r ≡ Some s
  own s r i = region_owner m σ s r (in_reversed r (slots_of_regions m s) i)

  -- what stands in the lists, where each operation's list has what lies in it
  module _ (f : ℕ → List IRNode) (in-op : (c : ℕ) (n : IRNode) → Among n (f c) → Lies m c n) where
    pub in_body : (b : ℕ) (n : IRNode) → Among n (body_nodes m f b) → InBody m b n
    in_body b n i = let t = among_joined f n (reverse (m.ops_of b)) i in (t.0, home b t.0 t.1, in-op t.0 n t.2)

    in_deep : (r : ℕ) (n : IRNode) → Among n (flat_map (body_nodes m f) (reverse (m.blocks_of r))) → Deep m r n
    in_deep r n i = let t = among_joined (body_nodes m f) n (reverse (m.blocks_of r)) i in (t.0, place r t.0 t.1, in_body t.0 n t.2)

    pub in_region : (r : ℕ) (n : IRNode) → Among n (region_nodes m f r) → Deep m r n ⊎ (spot m n ≡ Some r)
    in_region r n i = elim (among_cases n (flat_map (body_nodes m f) (reverse (m.blocks_of r))) (edge_nodes m r) i) [ inl j ↦ inl (in_deep r n j) | inr j ↦ inr (edge_spot r n j) ]

    in_inside : (s : ℕ) (n : IRNode) → Among n (flat_map (region_nodes m f) (reverse (slots_of_regions m s)) ++ node.Operation (op_id m s) ∷ []) → Lies m s n
    in_inside s n i = elim (among_cases n (flat_map (region_nodes m f) (reverse (slots_of_regions m s))) (node.Operation (op_id m s) ∷ []) i) [
      | inl j ↦
          let t = among_joined (region_nodes m f) n (reverse (slots_of_regions m s)) j in
          let o = own s t.0 t.1 in
          elim (in_region t.0 n t.2) [ inl u ↦ lies_up u.2.0 s (deep_up t.0 n u ∙ o) n u.2.2 | inr e ↦ (s, spot_holder n t.0 e ∙ o, (zero, refl)) ]
      | inr j ↦ elim j [ inl e ↦ (s, ap (holder m) e, (zero, refl)) | inr k ↦ absurd k ]
    ]

    module _ (each : (c : ℕ) → Distinct (f c)) where
      distinct_body : (b : ℕ) → Distinct (body_nodes m f b)
      distinct_body b = distinct_joined f (reverse (m.ops_of b)) (apart_reverse (m.ops_of b) (σ.ops.apart b)) (λ c i. each c) (λ c e j k n l o.
          lies_once c e (up_of m c b (home b c j) ∙ sym (up_of m e b (home b e k))) n (in-op c n l) (in-op e n o))

      pub distinct_block : (b : ℕ) → Distinct (block_nodes m f b)
      distinct_block b = distinct_append (body_nodes m f b) (node.BasicBlock (block_id m b) ∷ []) (distinct_body b) (λ i. i, tt)
          (λ n i j. let u = in_body b n i in elim j [ inl e ↦ not_under m σ u.0 u.2.0 (up_of m u.0 b u.1 ∙ sym (ap (holder m) e) ∙ u.2.1) u.2.2 | inr k ↦ k ])

      pub distinct_region : (r : ℕ) → Distinct (region_nodes m f r)
      distinct_region r = distinct_append (flat_map (body_nodes m f) (reverse (m.blocks_of r))) (edge_nodes m r)
          (distinct_joined (body_nodes m f) (reverse (m.blocks_of r)) (apart_reverse (m.blocks_of r) (σ.blocks.apart r)) (λ b i. distinct_body b) (λ b e i j n k l.
          body_once b e (above_of m b r (place r b i) ∙ sym (above_of m e r (place r e j))) n (in_body b n k) (in_body e n l)))
          (distinct_edge r) (λ n i j. deep_not r n (in_deep r n i) (spot_holder n r (edge_spot r n j)))

      distinct_inside : (s : ℕ) → Distinct (flat_map (region_nodes m f) (reverse (slots_of_regions m s)) ++ node.Operation (op_id m s) ∷ [])
      distinct_inside s = distinct_append (flat_map (region_nodes m f) (reverse (slots_of_regions m s))) (node.Operation (op_id m s) ∷ [])
          (distinct_joined (region_nodes m f) (reverse (slots_of_regions m s)) (apart_reverse (slots_of_regions m s) (regions_apart m σ s)) (λ r i. distinct_region r) (λ r q i j n k l.
          region_once r q (own s r i ∙ sym (own s q j)) n (in_region r n k) (in_region q n l)))
          (λ i. i, tt) (λ n i j. elim j [ inl e ↦ outer n e i | inr k ↦ k ])
        where
          outer : (n : IRNode) → n ≡ node.Operation (op_id m s) → Among n (flat_map (region_nodes m f) (reverse (slots_of_regions m s))) → ⊥
          outer n e i =
              let t = among_joined (region_nodes m f) n (reverse (slots_of_regions m s)) i in
              elim (in_region t.0 n t.2) [ inl u ↦ deep_not t.0 n u (ap (holder m) e ∙ sym (own s t.0 t.1)) | inr d ↦ some_none t.0 (sym d ∙ ap (spot m) e) ]

  pub lies_op : (d s : ℕ) (n : IRNode) → Among n (op_nodes_by d m s) → Lies m s n
  lies_op zero s n i = absurd i
  lies_op (suc d) s n i = in_inside (op_nodes_by d m) (lies_op d) s n i

  pub distinct_op : (d s : ℕ) → Distinct (op_nodes_by d m s)
  distinct_op zero s = tt
  distinct_op (suc d) s = distinct_inside (op_nodes_by d m) (lies_op d) (distinct_op d) s

  -- two lists that go deep enough are the same
  enough : (d e s : ℕ) → length m.ops < d + depth m σ s → length m.ops < e + depth m σ s → op_nodes_by d m s ≡ op_nodes_by e m s
  enough zero e s l k = let few = depth_few m σ s in absurd (omega arith)
  enough (suc d) zero s l k = let few = depth_few m σ s in absurd (omega arith)
  enough (suc d) (suc e) s l k = ap (λ ns. ns ++ node.Operation (op_id m s) ∷ [])
      (joined_same (region_nodes m (op_nodes_by d m)) (region_nodes m (op_nodes_by e m)) (reverse (slots_of_regions m s)) (λ r i. ap (λ ns. ns ++ edge_nodes m r)
      (joined_same (body_nodes m (op_nodes_by d m)) (body_nodes m (op_nodes_by e m)) (reverse (m.blocks_of r)) (λ b j.
      joined_same (op_nodes_by d m) (op_nodes_by e m) (reverse (m.ops_of b)) (λ c h.
      let up_is = depth_up m σ c s (up_of m c b (home b c h) ∙ above_of m b r (place r b j) ∙ own s r i) in
      enough d e c (omega arith) (omega arith))))))

  pub nodes_unfold : (s : ℕ) → op_nodes m s ≡ flat_map (region_nodes m (op_nodes m)) (reverse (slots_of_regions m s)) ++ node.Operation (op_id m s) ∷ []
  nodes_unfold s =
      let more : op_nodes_by (suc (length m.ops)) m s ≡ op_nodes_by (suc (suc (length m.ops))) m s = enough (suc (length m.ops)) (suc (suc (length m.ops))) s (omega arith) (omega arith) in
      more
