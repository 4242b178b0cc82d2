-- How operations, blocks and regions lie in one another.
use Rattle.std.proofs.Common.{◌≡◌, ℕ, zero, suc, ◌+◌, ◌<◌, ◌≤◌, ◌⊎◌, List, [], ◌∷◌, map, length, Some, None, Option, sym, refl, ap, ◌∙◌, subst, inl, inr, arith}
use Rattle.slots.specs.Cells.{Cell}
use Rattle.slots.specs.Cells.{Free, Live, Spent}
use Rattle.slots.specs.Cells.{cell_at, holds}
use Rattle.slots.proofs.CellLaws.{found_live}
use Rattle.lists.specs.Walk.{In}
use Rattle.lists.proofs.Chains.{some_none, some_some}
use Rattle.model.specs.declared.ids.OpId.{OpId}
use Rattle.model.specs.declared.ids.RegionId.{RegionId}
use Rattle.model.specs.declared.ids.Region.{Region}
use Rattle.model.specs.declared.ids.IRNode.{IRNode}
use Rattle.model.specs.declared.ids.IRNode.TheVariants as node
use Rattle.model.specs.Model.{Model, Operation, above, up, bind, owner_slot, owner_of, find_region, find_op, regions_of, block_id}
use Rattle.model.specs.Walk.{slots_of_regions, owner, Leads, Under, Within}
use Rattle.model.specs.Sound.{Sound, Steps, Among}
use Rattle.model.proofs.Climbs.{steps_few, steps_unique, up_within}

-- what is above an operation is above its block, and what is above a block owns its region
pub up_of : (m : Model) (c b : ℕ) → m.home_of c ≡ Some b → up m c ≡ above m b
up_of m c b e = ap (λ q. bind q (above m)) e

pub above_of : (m : Model) (b r : ℕ) → m.place_of b ≡ Some r → above m b ≡ owner m r
above_of m b r e = ap (λ q. bind q (owner m)) e

among_slot : (r : ℕ) (ids : List RegionId) → In r (map (λ (i : RegionId). i.slot) ids) → (i : RegionId) × (r ≡ i.slot) × Among i ids
among_slot r [] h = absurd h
among_slot r (i ∷ ids) (inl e) = (i, e, inl refl)
among_slot r (i ∷ ids) (inr h) = let t = among_slot r ids h in (t.0, t.1, inr t.2)

pub slot_among : (i : RegionId) (ids : List RegionId) → Among i ids → In i.slot (map (λ (i : RegionId). i.slot) ids)
slot_among i [] h = absurd h
slot_among i (j ∷ ids) (inl e) = inl (ap (λ (i : RegionId). i.slot) e)
slot_among i (j ∷ ids) (inr h) = inr (slot_among i ids h)

module _ (m : Model) (σ : Sound m) where
  -- a region of the operation at s has that for its owner
  pub region_owner : (s r : ℕ) → In r (slots_of_regions m s) → owner m r ≡ Some s
  region_owner s r h = at (cell_at m.ops s) refl h
    where
      region : (g : ℕ) (i : RegionId) (q : Option Region) → find_region m i ≡ q → owner_of (find_region m i) ≡ Some (record { slot = s; generation = g }) → owner m i.slot ≡ Some s
      region g i None d e =
          let k : ◌≡◌ {A = Option OpId} None (Some (record { slot = s; generation = g })) = ap owner_of (sym d) ∙ e in
          let z : ◌≡◌ {A = ℕ} 0 1 = cc in
          absurd (omega arith)
      region g i (Some y) d e =
          let k : Some y.owner ≡ Some (record { slot = s; generation = g }) = ap owner_of (sym d) ∙ e in
          let same : y.owner ≡ record { slot = s; generation = g } = cc in
          ap (λ c. owner_slot (holds c)) (found_live m.regions i.slot i.generation y d) ∙ ap (λ (o : OpId). Some o.slot) same

      at : (c : Cell Operation) → cell_at m.ops s ≡ c → In r (map (λ (i : RegionId). i.slot) (regions_of (holds c))) → owner m r ≡ Some s
      at (Free g) e h = absurd h
      at (Live g x) e h =
          let t = among_slot r x.regions h in
          ap (owner m) t.1 ∙ region g t.0 (find_region m t.0) refl (σ.owned s g x e t.0 t.2)
      at Spent e h = absurd h

  -- and stands among the regions of its owner
  pub owner_region : (s r : ℕ) → owner m r ≡ Some s → In r (slots_of_regions m s)
  owner_region s r e = at (cell_at m.regions r) refl (sym e)
    where
      held : (g : ℕ) (y : Region) (q : Option Operation) → find_op m y.owner ≡ q → y.owner.slot ≡ s → Among (record { slot = r; generation = g }) (regions_of q) → In r (slots_of_regions m s)
      held g y None d k i = absurd i
      held g y (Some x) d k i =
          subst (λ z. In r (map (λ (i : RegionId). i.slot) (regions_of (holds (cell_at m.ops z))))) k
          (subst (λ c. In r (map (λ (i : RegionId). i.slot) (regions_of (holds c)))) (sym (found_live m.ops y.owner.slot y.owner.generation x d))
          (slot_among (record { slot = r; generation = g }) x.regions i))

      at : (c : Cell Region) → cell_at m.regions r ≡ c → Some s ≡ owner m r → In r (slots_of_regions m s)
      at (Free g) d k = absurd (some_none s (k ∙ ap (λ c. owner_slot (holds c)) d))
      at (Live g y) d k =
          let w = some_some s y.owner.slot (k ∙ ap (λ c. owner_slot (holds c)) d) in
          held g y (find_op m y.owner) refl (sym w) (σ.owners r g y d)
      at Spent d k = absurd (some_none s (k ∙ ap (λ c. owner_slot (holds c)) d))

  -- what lies right in the operation at s
  pub block_above : (s r b : ℕ) → In r (slots_of_regions m s) → In b (m.blocks_of r) → above m b ≡ Some s
  block_above s r b h i = above_of m b r (σ.blocks.home r b i) ∙ region_owner s r h

  pub op_up : (s r b c : ℕ) → In r (slots_of_regions m s) → In b (m.blocks_of r) → In c (m.ops_of b) → up m c ≡ Some s
  op_up s r b c h i j = up_of m c b (σ.ops.home b c j) ∙ block_above s r b h i

  -- how many operations lie above the one at s
  pub depth : ℕ → ℕ
  depth s = (σ.ends s).0

  pub depth_up : (s p : ℕ) → up m s ≡ Some p → depth s ≡ suc (depth p)
  unfolding depth
  depth_up s p e = steps_unique (up m) (depth s) (suc (depth p)) s (σ.ends s).1 (p, e, (σ.ends p).1)

  pub depth_few : (s : ℕ) → depth s ≤ length m.ops
  unfolding depth
  depth_few s = at (depth s) (σ.ends s).1
    where
      at : (k : ℕ) → Steps (up m) k s → k ≤ length m.ops
      at zero h = omega arith
      at (suc k) h = let few = steps_few (up m) (length m.ops) (up_within m σ) k h.0 h.2 (up_within m σ s h.0 h.1) in omega arith

  pub depth_within : (s : ℕ) → s < length m.ops → depth s < length m.ops
  unfolding depth
  depth_within s l = steps_few (up m) (length m.ops) (up_within m σ) (depth s) s (σ.ends s).1 l

  pub leads_depth : (n t s : ℕ) → Leads m n t s → depth t ≡ n + depth s
  leads_depth zero t s e = rw e (omega arith)
  leads_depth (suc n) t s h = let one = depth_up t h.0 h.1 in let more = leads_depth n h.0 s h.2 in omega arith

  leads_same : (n t s u : ℕ) → Leads m n t s → Leads m n t u → s ≡ u
  leads_same zero t s u e d = sym e ∙ d
  leads_same (suc n) t s u h k =
      let e = some_some k.0 h.0 (sym k.1 ∙ h.1) in
      leads_same n h.0 s u h.2 (subst (λ p. Leads m n p u) e k.2)

  leads_up : (n t s p : ℕ) → up m s ≡ Some p → Leads m n t s → Leads m (suc n) t p
  leads_up zero t s p e d = (p, ap (up m) d ∙ e, refl)
  leads_up (suc n) t s p e h = (h.0, h.1, leads_up n h.0 s p e h.2)

  -- what lies in s lies in what is above s
  pub under_up : (t s p : ℕ) → up m s ≡ Some p → Under m s t → Under m p t
  under_up t s p e u = (suc u.0, leads_up u.0 t s p e u.1)

  pub within_up : (s p : ℕ) → up m s ≡ Some p → (n : IRNode) → Within m s n → Within m p n
  within_up s p e (node.Operation o) u = under_up o.slot s p e u
  within_up s p e (node.BasicBlock b) u = (u.0, u.1, under_up u.0 s p e u.2)
  within_up s p e (node.Region r) u = absurd u

  -- an operation does not lie in what lies in it
  pub not_under : (s p : ℕ) → up m s ≡ Some p → Under m s p → ⊥
  not_under s p e u = let one = depth_up s p e in let more = leads_depth u.0 p s u.1 in omega arith

  depth_same : (c d : ℕ) → up m c ≡ up m d → depth c ≡ depth d
  unfolding depth
  depth_same c d e = at (up m d) refl
    where
      top : (t : ℕ) → up m t ≡ None → depth t ≡ zero
      top t h = steps_unique (up m) (depth t) zero t (σ.ends t).1 h

      at : (q : Option ℕ) → up m d ≡ q → depth c ≡ depth d
      at None h = top c (e ∙ h) ∙ sym (top d h)
      at (Some p) h = depth_up c p (e ∙ h) ∙ sym (depth_up d p h)

  -- of operations side by side, one node lies in one only
  under_once : (t c d : ℕ) → up m c ≡ up m d → Under m c t → Under m d t → c ≡ d
  under_once t c d e u v =
      let j = leads_depth u.0 t c u.1 in
      let k = leads_depth v.0 t d v.1 in
      let a = depth_same c d e in
      let same : v.0 ≡ u.0 = omega arith in
      leads_same u.0 t c d u.1 (subst (λ n. Leads m n t d) same v.1)

  pub within_once : (c d : ℕ) → up m c ≡ up m d → (n : IRNode) → Within m c n → Within m d n → c ≡ d
  within_once c d e (node.Operation o) u v = under_once o.slot c d e u v
  within_once c d e (node.BasicBlock b) u v =
      let same = some_some v.0 u.0 (sym v.1 ∙ u.1) in
      under_once u.0 c d e u.2 (subst (Under m d) same v.2)
  within_once c d e (node.Region r) u v = absurd u

-- the node is the block b or lies in it; the node lies in the region r
abbrev pub InBlock : Model → ℕ → IRNode → Type 0
InBlock m b n = (n ≡ node.BasicBlock (block_id m b)) ⊎ ((c : ℕ) × (m.home_of c ≡ Some b) × Within m c n)

abbrev pub InRegion : Model → ℕ → IRNode → Type 0
InRegion m r n = (b : ℕ) × (m.place_of b ≡ Some r) × InBlock m b n

block_same : (m : Model) (b d : ℕ) → node.BasicBlock (block_id m b) ≡ node.BasicBlock (block_id m d) → b ≡ d
block_same m b d e = ap at e
  where
    at : IRNode → ℕ
    at (node.Operation o) = 0
    at (node.BasicBlock i) = i.slot
    at (node.Region r) = 0

module _ (m : Model) (σ : Sound m) where
  -- a block does not lie in an operation in it, nor in one of a block beside it
  pub not_beside : (b d c : ℕ) → above m b ≡ above m d → m.home_of c ≡ Some d → Within m c (node.BasicBlock (block_id m b)) → ⊥
  not_beside b d c e h w = not_under m σ c w.0 (up_of m c d h ∙ sym e ∙ w.1) w.2

  -- of blocks, and of regions, side by side, one node lies in one only
  pub block_once : (b d : ℕ) → above m b ≡ above m d → (n : IRNode) → InBlock m b n → InBlock m d n → b ≡ d
  block_once b d e n (inl i) (inl j) = block_same m b d (sym i ∙ j)
  block_once b d e n (inl i) (inr v) = absurd (not_beside b d v.0 e v.1 (subst (Within m v.0) i v.2))
  block_once b d e n (inr u) (inl j) = absurd (not_beside d b u.0 (sym e) u.1 (subst (Within m u.0) j u.2))
  block_once b d e n (inr u) (inr v) =
      let same = within_once m σ u.0 v.0 (up_of m u.0 b u.1 ∙ e ∙ sym (up_of m v.0 d v.1)) n u.2 v.2 in
      some_some b d (sym u.1 ∙ ap m.home_of same ∙ v.1)

  pub region_once : (r q : ℕ) → owner m r ≡ owner m q → (n : IRNode) → InRegion m r n → InRegion m q n → r ≡ q
  region_once r q e n u v =
      let same = block_once u.0 v.0 (above_of m u.0 r u.1 ∙ e ∙ sym (above_of m v.0 q v.1)) n u.2 v.2 in
      some_some r q (sym u.1 ∙ ap m.place_of same ∙ v.1)
