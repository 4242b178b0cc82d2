-- A store in which an operation or a new block was put at a point is sound.
use Rattle.std.proofs.Common.{◌≡◌, ℕ, Bool, true, false, cond, ◌&&◌, eqb, ltb, List, [], ◌∷◌, ◌++◌, length, is_some, Some, None, Option, sym, refl, ap, ◌∙◌, subst, inl, inr, append_assoc, append-nil, arith}
use Rattle.std.proofs.lemmas.Bool.{cases_Bool}
use Rattle.slots.specs.Cells.{cell_at, is_free, is_live, frees}
use Rattle.slots.proofs.CellLaws.{never, found_is_live}
use Rattle.lists.specs.Walk.{Apart, insert_after, insert_before}
use Rattle.lists.proofs.Chains.{some_none, some_some, split}
use Rattle.lists.proofs.Counts.{apart_before, insert_before_at, insert_after_at}
use Rattle.lists.proofs.Edits.{some_of}
use Rattle.model.specs.declared.ids.OpId.{OpId}
use Rattle.model.specs.declared.points.OpInsertionPoint.{OpInsertionPoint}
use Rattle.model.specs.declared.points.OpInsertionPoint.TheVariants as point
use Rattle.model.specs.declared.points.BlockInsertionPoint.{BlockInsertionPoint}
use Rattle.model.specs.declared.points.BlockInsertionPoint.TheVariants as spot
use Rattle.model.specs.declared.refusal.Refusal.TheVariants.{NotLive, PointUnset, InBlock, NoBlock, Inside, NoSlot, TooMany}
use Rattle.model.specs.Model.{Model, find_op, inside, whether}
use Rattle.model.specs.Calls.{link_at, create_at}
use Rattle.model.specs.Sound.{Sound, Agree}
use Rattle.model.specs.Points.{is_unset, block_at, point_live, placed_at, inserted_in, inserted_at, insert_refusal, is_block_unset, region_at, block_point_live, placed_block_at, created_in, created_at, create_refusal}
use Rattle.model.proofs.Refusals.{none_from}
use Rattle.model.proofs.Appending.{link_sound}
use Rattle.model.proofs.Creating.{create_sound}

-- ys is xs with s put in somewhere
record Put (s : ℕ) (xs ys : List ℕ) : Type 0 where
  us : List ℕ
  vs : List ℕ
  was : xs ≡ us ++ vs
  is : ys ≡ us ++ s ∷ vs

put_front : (s : ℕ) (xs : List ℕ) → Put s xs (s ∷ xs)
put_front s xs = record { us = []; vs = xs; was = refl; is = refl }

put_back : (s : ℕ) (xs : List ℕ) → Put s xs (xs ++ s ∷ [])
put_back s xs = record { us = xs; vs = []; was = sym (append-nil xs); is = refl }

module _ (ms : ℕ → List ℕ) (h : ℕ → Option ℕ) (a : Agree ms h) (c k s : ℕ) (e : h k ≡ Some c) where
  put_after : Put s (ms c) (insert_after k s (ms c))
  put_after =
      let p = split k (ms c) (a.held c k e) in
      record {
        us = p.0 ++ k ∷ [];
        vs = p.1;
        was = p.2 ∙ sym (append_assoc p.0 (k ∷ []) p.1);
        is = ap (insert_after k s) p.2 ∙ insert_after_at k s p.0 p.1 (apart_before k p.0 p.1 (subst Apart p.2 (a.apart c))) ∙ sym (append_assoc p.0 (k ∷ []) (s ∷ p.1));
      }

  put_before : Put s (ms c) (insert_before k s (ms c))
  put_before =
      let p = split k (ms c) (a.held c k e) in
      record {
        us = p.0;
        vs = k ∷ p.1;
        was = p.2;
        is = ap (insert_before k s) p.2 ∙ insert_before_at k s p.0 p.1 (apart_before k p.0 p.1 (subst Apart p.2 (a.apart c)));
      }

-- an operation may be put at the point, which is in the block at `block`
pub record Allowed (m : Model) (p : OpInsertionPoint) (o : OpId) : Type 0 where
  pub op : is_some (find_op m o) ≡ true
  pub live : point_live m p ≡ true
  pub out : m.home_of o.slot ≡ None
  pub block : ℕ
  pub at : block_at m p ≡ Some block
  pub away : inside m o.slot block ≡ false

pub insert_allowed : (m : Model) (p : OpInsertionPoint) (o : OpId) → insert_refusal m p o ≡ None → Allowed m p o
insert_allowed m p o e = on (is_some (find_op m o)) (point_live m p) (is_unset p) (is_some (m.home_of o.slot)) (block_at m p) refl refl refl refl e
  where
    on : (x y u z : Bool) (q : Option ℕ) → is_some (find_op m o) ≡ x → point_live m p ≡ y → is_some (m.home_of o.slot) ≡ z → block_at m p ≡ q
        → cond (x && y) (cond u (Some PointUnset) (cond z (Some InBlock) (cond (is_some q) (cond (whether q (inside m o.slot)) (Some Inside) None) (Some NoBlock)))) (Some NotLive) ≡ None
        → Allowed m p o
    on true true false false (Some b) i j k l e = elim (cases_Bool (inside m o.slot b)) [
      | inl t ↦ let d : Some Inside ≡ None = ap (λ w. cond w (Some Inside) None) (sym t) ∙ e in let z : ◌≡◌ {A = ℕ} 0 1 = cc in absurd (omega arith)
      | inr t ↦ record { op = i; live = j; out = none_from _ k; block = b; at = l; away = t }
    ]
    on true true false false None i j k l e = let z : ◌≡◌ {A = ℕ} 0 1 = cc in absurd (omega arith)
    on true true false true q i j k l e = let z : ◌≡◌ {A = ℕ} 0 1 = cc in absurd (omega arith)
    on true true true z q i j k l e = let z : ◌≡◌ {A = ℕ} 0 1 = cc in absurd (omega arith)
    on true false u z q i j k l e = let z : ◌≡◌ {A = ℕ} 0 1 = cc in absurd (omega arith)
    on false y u z q i j k l e = let z : ◌≡◌ {A = ℕ} 0 1 = cc in absurd (omega arith)

module _ (m : Model) (σ : Sound m) where
  -- the block that the point is in is live
  pub point_block : (p : OpInsertionPoint) (b : ℕ) → point_live m p ≡ true → block_at m p ≡ Some b → is_live (cell_at m.blocks b) ≡ true
  point_block point.Unset b l e = absurd (some_none b (sym e))
  point_block (point.AtBlockStart c) b l e = subst (λ z. is_live (cell_at m.blocks z) ≡ true) (some_some c.slot b e) (found_is_live m.blocks c.slot c.generation l)
  point_block (point.AtBlockEnd c) b l e = subst (λ z. is_live (cell_at m.blocks z) ≡ true) (some_some c.slot b e) (found_is_live m.blocks c.slot c.generation l)
  point_block (point.AfterOperation k) b l e = (σ.op_in k.slot b e).1
  point_block (point.BeforeOperation k) b l e = (σ.op_in k.slot b e).1

  put_op : (p : OpInsertionPoint) (b s : ℕ) → block_at m p ≡ Some b → Put s (m.ops_of b) (placed_at p s (m.ops_of b))
  put_op point.Unset b s e = absurd (some_none b (sym e))
  put_op (point.AtBlockStart c) b s e = put_front s (m.ops_of b)
  put_op (point.AtBlockEnd c) b s e = put_back s (m.ops_of b)
  put_op (point.AfterOperation k) b s e = put_after m.ops_of m.home_of σ.ops b k.slot s e
  put_op (point.BeforeOperation k) b s e = put_before m.ops_of m.home_of σ.ops b k.slot s e

  pub allowed_sound : (p : OpInsertionPoint) (o : OpId) → Allowed m p o → Sound (inserted_at m p o.slot)
  allowed_sound p o a =
      let b = a.block in
      let s = o.slot in
      let w = put_op p b s a.at in
      subst (λ q. Sound (inserted_in m q p s)) (sym a.at)
      (subst (λ xs. Sound (link_at m b s xs)) (sym w.is)
      (link_sound m b s w.us w.vs w.was (found_is_live m.ops s o.generation a.op) (point_block p b a.live a.at) a.out a.away σ))

  pub insert_sound : (p : OpInsertionPoint) (o : OpId) → insert_refusal m p o ≡ None → Sound (inserted_at m p o.slot)
  insert_sound p o e = allowed_sound p o (insert_allowed m p o e)

-- a block may be made at the point
pub record Creatable (m : Model) (p : BlockInsertionPoint) (ts : List ℕ) : Type 0 where
  pub free : frees m.blocks ≡ 0 → ⊥
  pub few : ltb 8 (length ts) ≡ false
  pub live : block_point_live m p ≡ true
  pub set : is_block_unset p ≡ false

pub create_allowed : (m : Model) (p : BlockInsertionPoint) (ts : List ℕ) → create_refusal m p ts ≡ None → Creatable m p ts
create_allowed m p ts e = on (eqb (frees m.blocks) 0) (ltb 8 (length ts)) (block_point_live m p) (is_block_unset p) refl refl refl refl e
  where
    on : (x y z u : Bool) → eqb (frees m.blocks) 0 ≡ x → ltb 8 (length ts) ≡ y → block_point_live m p ≡ z → is_block_unset p ≡ u
        → cond x (Some NoSlot) (cond y (Some TooMany) (cond z (cond u (Some PointUnset) None) (Some NotLive))) ≡ None → Creatable m p ts
    on false false true false i j k l e = record { free = λ d. never (sym i ∙ ap (λ n. eqb n 0) d); few = j; live = k; set = l }
    on false false true true i j k l e = let z : ◌≡◌ {A = ℕ} 0 1 = cc in absurd (omega arith)
    on false false false u i j k l e = let z : ◌≡◌ {A = ℕ} 0 1 = cc in absurd (omega arith)
    on false true z u i j k l e = let z : ◌≡◌ {A = ℕ} 0 1 = cc in absurd (omega arith)
    on true y z u i j k l e = let z : ◌≡◌ {A = ℕ} 0 1 = cc in absurd (omega arith)

-- the region that a point is in
pub record Region-at (m : Model) (p : BlockInsertionPoint) : Type 0 where
  pub region : ℕ
  pub at : region_at m p ≡ Some region
  pub live : is_live (cell_at m.regions region) ≡ true

module _ (m : Model) (σ : Sound m) where
  beside : (k : ℕ) → is_live (cell_at m.blocks k) ≡ true → (r : ℕ) × (m.place_of k ≡ Some r) × (is_live (cell_at m.regions r) ≡ true)
  beside k l = let q = some_of (m.place_of k) (σ.placed k l) in (q.0, q.1, (σ.block_in k q.0 q.1).1)

  -- a point that is live is in a live region
  pub point_region : (p : BlockInsertionPoint) → block_point_live m p ≡ true → is_block_unset p ≡ false → Region-at m p
  point_region spot.Unset l u = absurd (never (sym u))
  point_region (spot.AtRegionStart r) l u = record { region = r.slot; at = refl; live = found_is_live m.regions r.slot r.generation l }
  point_region (spot.AtRegionEnd r) l u = record { region = r.slot; at = refl; live = found_is_live m.regions r.slot r.generation l }
  point_region (spot.AfterBlock k) l u = let q = beside k.slot (found_is_live m.blocks k.slot k.generation l) in record { region = q.0; at = q.1; live = q.2 }
  point_region (spot.BeforeBlock k) l u = let q = beside k.slot (found_is_live m.blocks k.slot k.generation l) in record { region = q.0; at = q.1; live = q.2 }

  put_block : (p : BlockInsertionPoint) (r b : ℕ) → region_at m p ≡ Some r → Put b (m.blocks_of r) (placed_block_at p b (m.blocks_of r))
  put_block spot.Unset r b e = absurd (some_none r (sym e))
  put_block (spot.AtRegionStart q) r b e = put_front b (m.blocks_of r)
  put_block (spot.AtRegionEnd q) r b e = put_back b (m.blocks_of r)
  put_block (spot.AfterBlock k) r b e = put_after m.blocks_of m.place_of σ.blocks r k.slot b e
  put_block (spot.BeforeBlock k) r b e = put_before m.blocks_of m.place_of σ.blocks r k.slot b e

  pub created_sound : (p : BlockInsertionPoint) (b : ℕ) (ts : List ℕ) → is_free (cell_at m.blocks b) ≡ true → block_point_live m p ≡ true → is_block_unset p ≡ false → Sound (created_at m p b ts)
  created_sound p b ts f l u =
      let q = point_region p l u in
      let w = put_block p q.region b q.at in
      subst (λ r. Sound (created_in m r p b ts)) (sym q.at)
      (subst (λ xs. Sound (create_at m b q.region xs ts)) (sym w.is) (create_sound m b q.region w.us w.vs ts w.was f q.live σ))
