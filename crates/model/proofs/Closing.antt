-- The part that lies in a live node is closed; of a closed list, the length and what becomes of its nodes.
use Rattle.std.proofs.Common.{◌≡◌, ℕ, zero, suc, ◌+◌, ◌<◌, ◌≤◌, Bool, true, false, cond, ◌⊎◌, List, [], ◌∷◌, map, reverse, length, is_some, Some, None, Option, sym, refl, ap, ◌∙◌, subst, inl, inr, arith}
use Rattle.std.proofs.lemmas.Bool.{cases_Bool, eq-eqb, eqb-true, or_cases, or_left, or_right}
use Rattle.std.specs.List.{flat_map}
use Rattle.slots.specs.Cells.{Cell}
use Rattle.slots.specs.Cells.{Free, Live, Spent}
use Rattle.slots.specs.Cells.{cell_at, is_live, holds, under, live_of, found, retired, viewed}
use Rattle.slots.proofs.CellLaws.{never, live_is, live_found, live_within, found_is_live}
use Rattle.lists.specs.Walk.{In}
use Rattle.lists.proofs.Chains.{some_none, some_some}
use Rattle.model.specs.declared.ids.OpId.{OpId}
use Rattle.model.specs.declared.ids.BlockId.{BlockId}
use Rattle.model.specs.declared.ids.RegionId.{RegionId}
use Rattle.model.specs.declared.ids.Region.{Region}
use Rattle.model.specs.declared.ids.IRNode.{IRNode}
use Rattle.model.specs.declared.ids.IRNode.TheVariants as node
use Rattle.model.specs.Model.{Model, above, up, bind, owner_slot, op_id, block_id, region_id, regions_of, find_region}
use Rattle.model.specs.Walk.{slots_of_regions, Distinct, owner, Leads}
use Rattle.model.specs.Sound.{Sound, Among}
use Rattle.model.specs.Erasing.{is_op, is_block, is_region, has, has_op, has_block, has_region, is_node, disowned, erased, Closed, used_outside, body_nodes, block_nodes, edge_nodes, region_nodes, op_nodes_by, op_nodes, part_of}
use Rattle.model.proofs.Distincts.{among_cases, among_left, among_right, among_joined, joined_among, few_distinct}
use Rattle.model.proofs.Nesting.{region_owner, owner_region, up_of, above_of, slot_among}
use Rattle.model.proofs.Meeting.{found_under, op_alive, block_alive, op_is, block_is}
use Rattle.model.proofs.Sweeps.{cell_at_sweep, sweep_in}
use Rattle.model.proofs.Erased.{erase_sound}
use Rattle.model.proofs.Parts.{in_reverse, in_reversed, among_map, map_among, Lies, InBody, Deep, holder, spot, in_body, in_region, distinct_block, distinct_region, distinct_op, lies_op, nodes_unfold, own}

-- what the tests say
pub has_among : (t : IRNode → ℕ → Bool) (n : IRNode) (ns : List IRNode) (s : ℕ) → t n s ≡ true → Among n ns → has t ns s ≡ true
has_among t n [] s h i = absurd i
has_among t n (k ∷ ns) s h (inl e) = or_left (t k s) (has t ns s) (ap (λ z. t z s) (sym e) ∙ h)
has_among t n (k ∷ ns) s h (inr i) = or_right (t k s) (has t ns s) (has_among t n ns s h i)

pub among_has : (t : IRNode → ℕ → Bool) (ns : List IRNode) (s : ℕ) → has t ns s ≡ true → (n : IRNode) × Among n ns × (t n s ≡ true)
among_has t [] s h = absurd (never h)
among_has t (k ∷ ns) s h = elim (or_cases (t k s) (has t ns s) h) [
  | inl e ↦ (k, inl refl, e)
  | inr e ↦ let r = among_has t ns s e in (r.0, inr r.1, r.2)
]

pub is_op_lem : (n : IRNode) (s : ℕ) → is_op n s ≡ true → (o : OpId) × (n ≡ node.Operation o) × (s ≡ o.slot)
is_op_lem (node.Operation o) s h = (o, refl, eqb-true s o.slot h)
is_op_lem (node.BasicBlock b) s h = absurd (never h)
is_op_lem (node.Region r) s h = absurd (never h)

pub is_block_lem : (n : IRNode) (s : ℕ) → is_block n s ≡ true → (b : BlockId) × (n ≡ node.BasicBlock b) × (s ≡ b.slot)
is_block_lem (node.Operation o) s h = absurd (never h)
is_block_lem (node.BasicBlock b) s h = (b, refl, eqb-true s b.slot h)
is_block_lem (node.Region r) s h = absurd (never h)

pub is_region_lem : (n : IRNode) (s : ℕ) → is_region n s ≡ true → (r : RegionId) × (n ≡ node.Region r) × (s ≡ r.slot)
is_region_lem (node.Operation o) s h = absurd (never h)
is_region_lem (node.BasicBlock b) s h = absurd (never h)
is_region_lem (node.Region r) s h = (r, refl, eqb-true s r.slot h)

-- with a node, P has what lies right in it
record Down (m : Model) (P : IRNode → Type 0) : Type 0 where
  regions : (o : OpId) (r : RegionId) → P (node.Operation o) → owner m r.slot ≡ Some o.slot → P (node.Region r)
  blocks : (r : RegionId) (b : BlockId) → P (node.Region r) → m.place_of b.slot ≡ Some r.slot → P (node.BasicBlock b)
  ops : (b : BlockId) (o : OpId) → P (node.BasicBlock b) → m.home_of o.slot ≡ Some b.slot → P (node.Operation o)

down_lies : (m : Model) (s : ℕ) → Down m (Lies m s)
down_lies m s = record {
  regions = λ o r l e. (l.0, e ∙ l.1, l.2);
  blocks = λ r b l e. (l.0, above_of m b.slot r.slot e ∙ l.1, l.2);
  ops = λ b o l e. (o.slot, refl, (suc l.2.0, (l.0, up_of m o.slot b.slot e ∙ l.1, l.2.1)));
}

AtBlock : Model → ℕ → IRNode → Type 0
AtBlock m b n = InBody m b n ⊎ (is_block n b ≡ true)

down_block : (m : Model) (b : ℕ) → Down m (AtBlock m b)
unfolding AtBlock
down_block m b = record {
  regions = λ o r p e. elim p [ inl u ↦ inl (u.0, u.1, (down_lies m u.0).regions o r u.2 e) | inr h ↦ absurd (never h) ];
  blocks = λ r k p e. elim p [ inl u ↦ inl (u.0, u.1, (down_lies m u.0).blocks r k u.2 e) | inr h ↦ absurd (never h) ];
  ops = λ k o p e. elim p [
    | inl u ↦ inl (u.0, u.1, (down_lies m u.0).ops k o u.2 e)
    | inr h ↦ inl (o.slot, e ∙ ap Some (sym (eqb-true b k.slot h)), (o.slot, refl, (zero, refl)))
  ];
}

AtRegion : Model → ℕ → IRNode → Type 0
AtRegion m r n = Deep m r n ⊎ (spot m n ≡ Some r)

down_region : (m : Model) (r : ℕ) → Down m (AtRegion m r)
unfolding AtRegion
down_region m r = record {
  regions = λ o k p e. elim p [ inl u ↦ inl (u.0, u.1, (u.2.0, u.2.1, (down_lies m u.2.0).regions o k u.2.2 e)) | inr h ↦ absurd (some_none r (sym h)) ];
  blocks = λ k b p e. elim p [ inl u ↦ inl (u.0, u.1, (u.2.0, u.2.1, (down_lies m u.2.0).blocks k b u.2.2 e)) | inr h ↦ inr (e ∙ h) ];
  ops = λ b o p e. elim p [
    | inl u ↦ inl (u.0, u.1, (u.2.0, u.2.1, (down_lies m u.2.0).ops b o u.2.2 e))
    | inr h ↦ inl (b.slot, h, (o.slot, e, (o.slot, refl, (zero, refl))))
  ];
}

module _ (m : Model) (σ : Sound m) where
  pub region_alive : (r : ℕ) → is_live (cell_at m.regions r) ≡ true → is_node m (node.Region (region_id m r)) ≡ true
  region_alive r l = let t = live_is (cell_at m.regions r) l in
      ap is_some (ap (λ c. under c (live_of c)) t.2 ∙ sym (ap (λ c. under c t.0) t.2) ∙ live_found m.regions r t.0 t.1 t.2)

  pub region_is : (r : RegionId) → is_some (find_region m r) ≡ true → r ≡ region_id m r.slot
  region_is r a = ap (λ g. record { slot = r.slot; generation = g }) (found_under (cell_at m.regions r.slot) r.generation a)

  pub owner_live : (r s : ℕ) → owner m r ≡ Some s → is_live (cell_at m.regions r) ≡ true
  owner_live r s e = at (cell_at m.regions r) e
    where
      at : (c : Cell Region) → owner_slot (holds c) ≡ Some s → is_live c ≡ true
      at (Free g) h = absurd (some_none s (sym h))
      at (Live g y) h = refl
      at Spent h = absurd (some_none s (sym h))

  -- each live node that lies in an operation, a block or a region is listed
  edge_listed : (r : ℕ) (n : IRNode) → is_node m n ≡ true → spot m n ≡ Some r → Among n (edge_nodes m r)
  edge_listed r (node.Operation o) a e = absurd (some_none r (sym e))
  edge_listed r (node.BasicBlock b) a e = among_left (node.BasicBlock b) (map (λ k. node.BasicBlock (block_id m k)) (m.blocks_of r)) (node.Region (region_id m r) ∷ [])
      (subst (λ k. Among k (map (λ k. node.BasicBlock (block_id m k)) (m.blocks_of r))) (sym (ap node.BasicBlock (block_is m σ b a)))
      (map_among (λ k. node.BasicBlock (block_id m k)) b.slot (m.blocks_of r) (σ.blocks.held r b.slot e)))
  edge_listed r (node.Region k) a e = among_right (node.Region k) (map (λ k. node.BasicBlock (block_id m k)) (m.blocks_of r)) (node.Region (region_id m r) ∷ [])
      (inl (ap node.Region (region_is k a ∙ ap (region_id m) (some_some k.slot r e))))

  edge_in_region : (r : ℕ) (n : IRNode) → is_node m n ≡ true → spot m n ≡ Some r → Among n (region_nodes m (op_nodes m) r)
  edge_in_region r n a e = among_right n (flat_map (body_nodes m (op_nodes m)) (reverse (m.blocks_of r))) (edge_nodes m r) (edge_listed r n a e)

  body_listed : (b c : ℕ) (n : IRNode) → m.home_of c ≡ Some b → Among n (op_nodes m c) → Among n (body_nodes m (op_nodes m) b)
  body_listed b c n e i = joined_among (op_nodes m) n c (reverse (m.ops_of b)) (in_reverse c (m.ops_of b) (σ.ops.held b c e)) i

  deep_listed : (r b : ℕ) (n : IRNode) → m.place_of b ≡ Some r → Among n (body_nodes m (op_nodes m) b) → Among n (region_nodes m (op_nodes m) r)
  deep_listed r b n e i = among_left n (flat_map (body_nodes m (op_nodes m)) (reverse (m.blocks_of r))) (edge_nodes m r)
      (joined_among (body_nodes m (op_nodes m)) n b (reverse (m.blocks_of r)) (in_reverse b (m.blocks_of r) (σ.blocks.held r b e)) i)

  inside_listed : (s r : ℕ) (n : IRNode) → owner m r ≡ Some s → Among n (region_nodes m (op_nodes m) r) → Among n (op_nodes m s)
  inside_listed s r n e i = subst (Among n) (sym (nodes_unfold m σ s)) (among_left n (flat_map (region_nodes m (op_nodes m)) (reverse (slots_of_regions m s))) (node.Operation (op_id m s) ∷ [])
      (joined_among (region_nodes m (op_nodes m)) n r (reverse (slots_of_regions m s)) (in_reverse r (slots_of_regions m s) (owner_region m σ s r e)) i))

  above_listed : (s b : ℕ) (n : IRNode) → above m b ≡ Some s → ((r : ℕ) → m.place_of b ≡ Some r → Among n (region_nodes m (op_nodes m) r)) → Among n (op_nodes m s)
  above_listed s b n e i = at (m.place_of b) refl
    where
      at : (q : Option ℕ) → m.place_of b ≡ q → Among n (op_nodes m s)
      at None d = absurd (some_none s (sym e ∙ ap (λ z. bind z (owner m)) d))
      at (Some r) d = inside_listed s r n (sym (above_of m b r d) ∙ e) (i r d)

  up_listed : (s c : ℕ) (n : IRNode) → up m c ≡ Some s → Among n (op_nodes m c) → Among n (op_nodes m s)
  up_listed s c n e i = at (m.home_of c) refl
    where
      at : (q : Option ℕ) → m.home_of c ≡ q → Among n (op_nodes m s)
      at None d = absurd (some_none s (sym e ∙ ap (λ z. bind z (above m)) d))
      at (Some b) d = above_listed s b n (sym (up_of m c b d) ∙ e) (λ r p. deep_listed r b n p (body_listed b c n d i))

  under_listed : (k t s : ℕ) (n : IRNode) → Leads m k t s → Among n (op_nodes m t) → Among n (op_nodes m s)
  under_listed zero t s n e i = subst (λ z. Among n (op_nodes m z)) e i
  under_listed (suc k) t s n h i = under_listed k h.0 s n h.2 (up_listed h.0 t n h.1 i)

  here_listed : (p : ℕ) (n : IRNode) → is_node m n ≡ true → holder m n ≡ Some p → Among n (op_nodes m p)
  here_listed p (node.Operation o) a e = subst (Among (node.Operation o)) (sym (nodes_unfold m σ p))
      (among_right (node.Operation o) (flat_map (region_nodes m (op_nodes m)) (reverse (slots_of_regions m p))) (node.Operation (op_id m p) ∷ [])
      (inl (ap node.Operation (op_is m σ o a ∙ ap (op_id m) (some_some o.slot p e)))))
  here_listed p (node.BasicBlock b) a e = above_listed p b.slot (node.BasicBlock b) e (λ r d. edge_in_region r (node.BasicBlock b) a d)
  here_listed p (node.Region r) a e = inside_listed p r.slot (node.Region r) e (edge_in_region r.slot (node.Region r) a refl)

  pub op_listed : (s : ℕ) (n : IRNode) → Lies m s n → is_node m n ≡ true → Among n (op_nodes m s)
  op_listed s n l a = under_listed l.2.0 l.0 s n l.2.1 (here_listed l.0 n a l.1)

  in_body_listed : (b : ℕ) (n : IRNode) → InBody m b n → is_node m n ≡ true → Among n (body_nodes m (op_nodes m) b)
  in_body_listed b n u a = body_listed b u.0 n u.1 (op_listed u.0 n u.2 a)

  block_listed : (b : ℕ) (n : IRNode) → AtBlock m b n → is_node m n ≡ true → Among n (block_nodes m (op_nodes m) b)
  unfolding AtBlock
  block_listed b n (inl u) a = among_left n (body_nodes m (op_nodes m) b) (node.BasicBlock (block_id m b) ∷ []) (in_body_listed b n u a)
  block_listed b n (inr h) a =
      let t = is_block_lem n b h in
      among_right n (body_nodes m (op_nodes m) b) (node.BasicBlock (block_id m b) ∷ [])
      (inl (t.1 ∙ ap node.BasicBlock (block_is m σ t.0 (ap (is_node m) (sym t.1) ∙ a) ∙ ap (block_id m) (sym t.2))))

  region_listed : (r : ℕ) (n : IRNode) → AtRegion m r n → is_node m n ≡ true → Among n (region_nodes m (op_nodes m) r)
  unfolding AtRegion
  region_listed r n (inl u) a = deep_listed r u.0 n u.1 (in_body_listed u.0 n u.2 a)
  region_listed r n (inr e) a = edge_in_region r n a e

  -- what is listed lives
  module _ (f : ℕ → List IRNode) (each : (c : ℕ) → is_live (cell_at m.ops c) ≡ true → (n : IRNode) → Among n (f c) → is_node m n ≡ true) where
    alive_body : (b : ℕ) (n : IRNode) → Among n (body_nodes m f b) → is_node m n ≡ true
    alive_body b n i =
        let t = among_joined f n (reverse (m.ops_of b)) i in
        each t.0 (σ.op_in t.0 b (σ.ops.home b t.0 (in_reversed t.0 (m.ops_of b) t.1))).0 n t.2

    alive_block : (b : ℕ) → is_live (cell_at m.blocks b) ≡ true → (n : IRNode) → Among n (block_nodes m f b) → is_node m n ≡ true
    alive_block b l n i = elim (among_cases n (body_nodes m f b) (node.BasicBlock (block_id m b) ∷ []) i) [
      | inl j ↦ alive_body b n j
      | inr j ↦ elim j [ inl e ↦ ap (is_node m) e ∙ block_alive m σ b l | inr k ↦ absurd k ]
    ]

    alive_edge : (r : ℕ) → is_live (cell_at m.regions r) ≡ true → (n : IRNode) → Among n (edge_nodes m r) → is_node m n ≡ true
    alive_edge r l n i = elim (among_cases n (map (λ k. node.BasicBlock (block_id m k)) (m.blocks_of r)) (node.Region (region_id m r) ∷ []) i) [
      | inl j ↦
          let t = among_map (λ k. node.BasicBlock (block_id m k)) n (m.blocks_of r) j in
          ap (is_node m) t.2 ∙ block_alive m σ t.0 (σ.block_in t.0 r (σ.blocks.home r t.0 t.1)).0
      | inr j ↦ elim j [ inl e ↦ ap (is_node m) e ∙ region_alive r l | inr k ↦ absurd k ]
    ]

    alive_region : (r : ℕ) → is_live (cell_at m.regions r) ≡ true → (n : IRNode) → Among n (region_nodes m f r) → is_node m n ≡ true
    alive_region r l n i = elim (among_cases n (flat_map (body_nodes m f) (reverse (m.blocks_of r))) (edge_nodes m r) i) [
      | inl j ↦ let t = among_joined (body_nodes m f) n (reverse (m.blocks_of r)) j in alive_body t.0 n t.2
      | inr j ↦ alive_edge r l n j
    ]

  alive_op : (d s : ℕ) → is_live (cell_at m.ops s) ≡ true → (n : IRNode) → Among n (op_nodes_by d m s) → is_node m n ≡ true
  alive_op zero s l n i = absurd i
  alive_op (suc d) s l n i = elim (among_cases n (flat_map (region_nodes m (op_nodes_by d m)) (reverse (slots_of_regions m s))) (node.Operation (op_id m s) ∷ []) i) [
    | inl j ↦
        let t = among_joined (region_nodes m (op_nodes_by d m)) n (reverse (slots_of_regions m s)) j in
        alive_region (op_nodes_by d m) (alive_op d) t.0 (owner_live t.0 s (own m σ s t.0 t.1)) n t.2
    | inr j ↦ elim j [ inl e ↦ ap (is_node m) e ∙ op_alive m σ s l | inr k ↦ absurd k ]
  ]

  -- a list of just the live nodes of which P holds is closed
  closed_by : (P : IRNode → Type 0) → Down m P → (ns : List IRNode) → Distinct ns → ((n : IRNode) → Among n ns → is_node m n ≡ true)
      → ((n : IRNode) → Among n ns → P n) → ((n : IRNode) → P n → is_node m n ≡ true → Among n ns) → Closed m ns
  closed_by P down ns d a i l = record {
    live = a;
    distinct = d;
    regions_in = λ s g x h e r j.
        let t = among_has is_op ns s h in
        let k = is_op_lem t.0 s t.2 in
        let o = region_owner m σ s r.slot (subst (λ c. In r.slot (map (λ (i : RegionId). i.slot) (regions_of (holds c)))) (sym e) (slot_among r x.regions j)) in
        let p = down.regions k.0 (region_id m r.slot) (subst P k.1 (i t.0 t.1)) (o ∙ ap Some k.2) in
        has_among is_region (node.Region (region_id m r.slot)) ns r.slot (eq-eqb r.slot r.slot refl)
        (l (node.Region (region_id m r.slot)) p (region_alive r.slot (owner_live r.slot s o)));
    blocks_in = λ r b h j.
        let t = among_has is_region ns r h in
        let k = is_region_lem t.0 r t.2 in
        let o = σ.blocks.home r b j in
        let p = down.blocks k.0 (block_id m b) (subst P k.1 (i t.0 t.1)) (o ∙ ap Some k.2) in
        has_among is_block (node.BasicBlock (block_id m b)) ns b (eq-eqb b b refl) (l (node.BasicBlock (block_id m b)) p (block_alive m σ b (σ.block_in b r o).0));
    ops_in = λ b s h j.
        let t = among_has is_block ns b h in
        let k = is_block_lem t.0 b t.2 in
        let o = σ.ops.home b s j in
        let p = down.ops k.0 (op_id m s) (subst P k.1 (i t.0 t.1)) (o ∙ ap Some k.2) in
        has_among is_op (node.Operation (op_id m s)) ns s (eq-eqb s s refl) (l (node.Operation (op_id m s)) p (op_alive m σ s (σ.op_in s b o).0));
  }

  all : ℕ
  all = suc (length m.ops)

  pub part_closed : (n : IRNode) → is_node m n ≡ true → Closed m (part_of m n)
  unfolding all AtBlock AtRegion
  part_closed (node.Operation o) a =
      closed_by (Lies m o.slot) (down_lies m o.slot) (op_nodes m o.slot) (distinct_op m σ all o.slot)
      (alive_op all o.slot (found_is_live m.ops o.slot o.generation a)) (lies_op m σ all o.slot) (op_listed o.slot)
  part_closed (node.BasicBlock b) a =
      closed_by (AtBlock m b.slot) (down_block m b.slot) (block_nodes m (op_nodes m) b.slot) (distinct_block m σ (op_nodes m) (lies_op m σ all) (distinct_op m σ all) b.slot)
      (alive_block (op_nodes m) (alive_op all) b.slot (found_is_live m.blocks b.slot b.generation a)) at (block_listed b.slot)
    where
      at : (n : IRNode) → Among n (block_nodes m (op_nodes m) b.slot) → InBody m b.slot n ⊎ (is_block n b.slot ≡ true)
      at n i = elim (among_cases n (body_nodes m (op_nodes m) b.slot) (node.BasicBlock (block_id m b.slot) ∷ []) i) [
        | inl j ↦ inl (in_body m σ (op_nodes m) (lies_op m σ all) b.slot n j)
        | inr j ↦ elim j [ inl e ↦ inr (ap (λ k. is_block k b.slot) e ∙ eq-eqb b.slot b.slot refl) | inr k ↦ absurd k ]
      ]
  part_closed (node.Region r) a =
      closed_by (AtRegion m r.slot) (down_region m r.slot) (region_nodes m (op_nodes m) r.slot) (distinct_region m σ (op_nodes m) (lies_op m σ all) (distinct_op m σ all) r.slot)
      (alive_region (op_nodes m) (alive_op all) r.slot (found_is_live m.regions r.slot r.generation a)) (in_region m σ (op_nodes m) (lies_op m σ all) r.slot) (region_listed r.slot)

  pub erase_part_sound : (n : IRNode) → is_node m n ≡ true → used_outside m (part_of m n) ≡ false → Sound (erased m (part_of m n))
  erase_part_sound n a u = erase_sound m (part_of m n) σ (part_closed n a) u

  -- the node itself is in its part
  pub part_root : (n : IRNode) → is_node m n ≡ true → Among n (part_of m n)
  unfolding AtBlock AtRegion
  part_root (node.Operation o) a = op_listed o.slot (node.Operation o) (o.slot, refl, (zero, refl)) a
  part_root (node.BasicBlock b) a = block_listed b.slot (node.BasicBlock b) (inr (eq-eqb b.slot b.slot refl)) a
  part_root (node.Region r) a = region_listed r.slot (node.Region r) (inr refl) a

  -- operations first, then blocks, then regions
  number : IRNode → ℕ
  number (node.Operation o) = o.slot
  number (node.BasicBlock b) = length m.ops + b.slot
  number (node.Region r) = length m.ops + (length m.blocks + r.slot)

  op_below : (o : OpId) → is_node m (node.Operation o) ≡ true → o.slot < length m.ops
  op_below o a = live_within m.ops o.slot (found_is_live m.ops o.slot o.generation a)

  block_below : (b : BlockId) → is_node m (node.BasicBlock b) ≡ true → b.slot < length m.blocks
  block_below b a = live_within m.blocks b.slot (found_is_live m.blocks b.slot b.generation a)

  number_below : (n : IRNode) → is_node m n ≡ true → number n < length m.ops + (length m.blocks + length m.regions)
  unfolding number
  number_below (node.Operation o) a = let l = op_below o a in omega arith
  number_below (node.BasicBlock b) a = let l = block_below b a in omega arith
  number_below (node.Region r) a = let l = live_within m.regions r.slot (found_is_live m.regions r.slot r.generation a) in omega arith

  number_same : (n k : IRNode) → is_node m n ≡ true → is_node m k ≡ true → number n ≡ number k → n ≡ k
  unfolding number
  number_same (node.Operation o) (node.Operation p) a b e = ap node.Operation (op_is m σ o a ∙ ap (op_id m) e ∙ sym (op_is m σ p b))
  number_same (node.Operation o) (node.BasicBlock p) a b e = let l = op_below o a in absurd (omega arith)
  number_same (node.Operation o) (node.Region p) a b e = let l = op_below o a in absurd (omega arith)
  number_same (node.BasicBlock o) (node.Operation p) a b e = let l = op_below p b in absurd (omega arith)
  number_same (node.BasicBlock o) (node.BasicBlock p) a b e = let same : o.slot ≡ p.slot = omega arith in ap node.BasicBlock (block_is m σ o a ∙ ap (block_id m) same ∙ sym (block_is m σ p b))
  number_same (node.BasicBlock o) (node.Region p) a b e = let l = block_below o a in absurd (omega arith)
  number_same (node.Region o) (node.Operation p) a b e = let l = op_below p b in absurd (omega arith)
  number_same (node.Region o) (node.BasicBlock p) a b e = let l = block_below p b in absurd (omega arith)
  number_same (node.Region o) (node.Region p) a b e = let same : o.slot ≡ p.slot = omega arith in ap node.Region (region_is o a ∙ ap (region_id m) same ∙ sym (region_is p b))

  -- a closed list is no longer than there are slots
  pub closed_few : (ns : List IRNode) → Closed m ns → length ns ≤ length m.ops + (length m.blocks + length m.regions)
  closed_few ns c = few_distinct number (length m.ops + (length m.blocks + length m.regions)) ns c.distinct
      (λ n k i j. number_same n k (c.live n i) (c.live k j)) (λ n i. number_below n (c.live n i))

  pub part_few : (n : IRNode) → is_node m n ≡ true → length m.ops ≡ 512 → length m.blocks ≡ 128 → length m.regions ≡ 128 → length (part_of m n) ≤ 768
  part_few n a o b r = let h = closed_few (part_of m n) (part_closed n a) in omega arith

-- the cell of what is in the list is retired, and the node is dead
pub op_retired : (m : Model) (ns : List IRNode) (s : ℕ) → has_op ns s ≡ true → cell_at (erased m ns).ops s ≡ retired (cell_at m.ops s)
op_retired m ns s h = cell_at_sweep (disowned (has_region ns)) (has_op ns) m.ops s ∙ ap (λ b. cond b (retired (cell_at m.ops s)) (viewed (disowned (has_region ns)) (cell_at m.ops s))) h

pub block_retired : (m : Model) (ns : List IRNode) (s : ℕ) → has_block ns s ≡ true → cell_at (erased m ns).blocks s ≡ retired (cell_at m.blocks s)
block_retired m ns s h = cell_at_sweep (λ x. x) (has_block ns) m.blocks s ∙ ap (λ b. cond b (retired (cell_at m.blocks s)) (viewed (λ x. x) (cell_at m.blocks s))) h

pub region_retired : (m : Model) (ns : List IRNode) (s : ℕ) → has_region ns s ≡ true → cell_at (erased m ns).regions s ≡ retired (cell_at m.regions s)
region_retired m ns s h = cell_at_sweep (λ x. x) (has_region ns) m.regions s ∙ ap (λ b. cond b (retired (cell_at m.regions s)) (viewed (λ x. x) (cell_at m.regions s))) h

dead : {X : Type 0} (cs : List (Cell X)) (s g : ℕ) → is_live (cell_at cs s) ≡ false → is_some (found cs s g) ≡ false
dead cs s g h = elim (cases_Bool (is_some (found cs s g))) [ inl t ↦ absurd (never (sym h ∙ found_is_live cs s g t)) | inr t ↦ t ]

pub erased_dead : (m : Model) (ns : List IRNode) (n : IRNode) → Among n ns → is_node (erased m ns) n ≡ false
erased_dead m ns (node.Operation o) i = dead (erased m ns).ops o.slot o.generation
    (sweep_in (disowned (has_region ns)) (has_op ns) m.ops o.slot (has_among is_op (node.Operation o) ns o.slot (eq-eqb o.slot o.slot refl) i))
erased_dead m ns (node.BasicBlock b) i = dead (erased m ns).blocks b.slot b.generation
    (sweep_in (λ x. x) (has_block ns) m.blocks b.slot (has_among is_block (node.BasicBlock b) ns b.slot (eq-eqb b.slot b.slot refl) i))
erased_dead m ns (node.Region r) i = dead (erased m ns).regions r.slot r.generation
    (sweep_in (λ x. x) (has_region ns) m.regions r.slot (has_among is_region (node.Region r) ns r.slot (eq-eqb r.slot r.slot refl) i))
