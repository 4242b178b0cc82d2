-- A store with one operation more is sound.
use Rattle.std.proofs.Common.{◌≡◌, ℕ, ◌<◌, Bool, true, ◌⊎◌, List, map, length, Some, None, Option, sym, refl, ap, ◌∙◌, subst, inl, inr, arith}
use mathlib.Core.Path.{fun_ext}
use Rattle.std.proofs.lemmas.List.{get_or-set_same, get_or-set_other}
use Rattle.std.proofs.lemmas.Bool.{cases_eq}
use Rattle.slots.specs.Cells.{Live, Spent}
use Rattle.slots.specs.Cells.{cell_at, is_free, next_of, holds}
use Rattle.slots.proofs.CellLaws.{free_within, live_not_free, live_found, live_is}
use Rattle.lists.specs.Walk.{In, Apart}
use Rattle.lists.proofs.Counts.{in_dec}
use Rattle.model.specs.declared.ids.OpId.{OpId}
use Rattle.model.specs.declared.ids.RegionId.{RegionId}
use Rattle.model.specs.declared.ids.Region.{Region}
use Rattle.model.specs.declared.ids.Value.{Value}
use Rattle.model.specs.Model.{Model, Operation, are_values, find_op, find_region, owner_of, regions_of, owner_slot, bind, above, up}
use Rattle.model.specs.Calls.{next_op, next_ids, make_at, Usable}
use Rattle.model.specs.Sound.{Among, Sound, Steps}
use Rattle.model.proofs.Opens.{all_in, next_ids_slots, next_ids_in, next_ids_has, opened_other, opened_at}
use Rattle.model.proofs.Frames.{Keeps, found_kept, values_kept, is_live_kept}

module _ (m : Model) (s : ℕ) (rs : List ℕ) (kind note : ℕ) (vs : List Value) (ts : List ℕ) (gs : List Bool) (u : Usable m s rs gs) where
  n : Model
  n = make_at m s rs kind note vs ts gs

  new : Operation
  new = record { kind = kind; note = note; operands = vs; results = ts; regions = next_ids m.regions rs }

  within : (r : ℕ) → In r rs → r < length m.regions
  within r i = free_within m.regions r (all_in (λ z. is_free (cell_at m.regions z) ≡ true) rs u.regions r i)

  op_new : cell_at n.ops s ≡ Live (next_of (cell_at m.ops s)) new
  unfolding n new
  op_new = get_or-set_same m.ops s _ Spent (free_within m.ops s u.op)

  ops_kept : Keeps m.ops n.ops
  unfolding n
  ops_kept t g x e = get_or-set_other m.ops s t _ Spent (λ d. live_not_free m.ops t g x e (ap (λ z. is_free (cell_at m.ops z)) d ∙ u.op)) ∙ e

  ops_back : (t g : ℕ) (x : Operation) → cell_at n.ops t ≡ Live g x → (cell_at m.ops t ≡ Live g x) ⊎ ((t ≡ s) × (g ≡ next_of (cell_at m.ops s)) × (x ≡ new))
  unfolding n
  ops_back t g x e =
      elim (cases_eq t s) [
        | inl d ↦ let h : Live g x ≡ Live (next_of (cell_at m.ops s)) new = sym e ∙ ap (cell_at n.ops) d ∙ op_new in inr (d, cc, cc)
        | inr ne ↦ inl (sym (get_or-set_other m.ops s t _ Spent ne) ∙ e)
      ]

  regions_kept : Keeps m.regions n.regions
  unfolding n
  regions_kept r g y e =
      opened_other (next_op m s) m.regions rs gs r (λ i. live_not_free m.regions r g y e (all_in (λ z. is_free (cell_at m.regions z) ≡ true) rs u.regions r i)) ∙ e

  region_new : (r : ℕ) → In r rs → (g : Bool) × (cell_at n.regions r ≡ Live (next_of (cell_at m.regions r)) (record { graph = g; owner = next_op m s }))
  unfolding n
  region_new r i = opened_at (next_op m s) m.regions rs gs r u.count u.apart within i

  regions_back : (r g : ℕ) (y : Region) → cell_at n.regions r ≡ Live g y → (cell_at m.regions r ≡ Live g y) ⊎ (In r rs × (g ≡ next_of (cell_at m.regions r)) × (y.owner ≡ next_op m s))
  unfolding n
  regions_back r g y e =
      elim (in_dec r rs) [
        | inl i ↦
            let h = region_new r i in
            let d : Live g y ≡ Live (next_of (cell_at m.regions r)) (record { graph = h.0; owner = next_op m s }) = sym e ∙ h.1 in
            let k : y ≡ record { graph = h.0; owner = next_op m s } = cc in
            inr (i, cc, ap (λ z. z.owner) k)
        | inr ni ↦ inl (sym (opened_other (next_op m s) m.regions rs gs r ni) ∙ e)
      ]

  module _ (σ : Sound m) (live : are_values m vs ≡ true) where
    values : (ws : List Value) → are_values m ws ≡ true → are_values n ws ≡ true
    unfolding n
    values = values_kept m n ops_kept (λ t g x e. e)

    region_owned : (r : RegionId) (o : OpId) → owner_of (find_region m r) ≡ Some o → owner_of (find_region n r) ≡ Some o
    region_owned r o h = at (find_region m r) refl
      where
        at : (q : Option Region) → find_region m r ≡ q → owner_of (find_region n r) ≡ Some o
        at None e = let d : None ≡ Some o = ap owner_of (sym e) ∙ h in let z : ◌≡◌ {A = ℕ} 0 1 = cc in absurd (omega arith)
        at (Some y) e = ap owner_of (found_kept m.regions n.regions regions_kept r.slot r.generation y e ∙ sym e) ∙ h

    above_same : (b : ℕ) → above n b ≡ above m b
    unfolding n
    above_same b = at (m.place_of b) refl
      where
        at : (q : Option ℕ) → m.place_of b ≡ q → bind q (λ r. owner_slot (holds (cell_at n.regions r))) ≡ bind q (λ r. owner_slot (holds (cell_at m.regions r)))
        at None e = refl
        at (Some r) e =
            let l = live_is (cell_at m.regions r) (σ.block_in b r e).1 in
            ap (λ z. owner_slot (holds z)) (regions_kept r l.0 l.1 l.2 ∙ sym l.2)

    up_same : (t : ℕ) → up n t ≡ up m t
    unfolding n
    up_same t = ap (bind (m.home_of t)) (fun_ext above_same)

    sound : Sound n
    unfolding n new
    sound = record {
      operands = λ t g x e. elim (ops_back t g x e) [ inl o ↦ values x.operands (σ.operands t g x o) | inr w ↦ rw w.2 (values vs live) ];
      owned = λ t g x e r i. elim (ops_back t g x e) [
        | inl o ↦ region_owned r (record { slot = t; generation = g }) (σ.owned t g x o r i)
        | inr w ↦
            let j = next_ids_in m.regions rs r (subst (λ z. Among r z.regions) w.2 i) in
            let h = region_new r.slot j.0 in
            ap owner_of (live_found n.regions r.slot r.generation _ (h.1 ∙ ap (λ k. Live k (record { graph = h.0; owner = next_op m s })) (sym j.1)))
            ∙ ap (λ k. Some (record { slot = s; generation = k })) (sym w.1) ∙ ap (λ k. Some (record { slot = k; generation = g })) (sym w.0)
      ];
      apart = λ t g x e. elim (ops_back t g x e) [
        | inl o ↦ σ.apart t g x o
        | inr w ↦ subst (λ z. Apart (map (λ (r : RegionId). r.slot) z.regions)) (sym w.2) (subst Apart (sym (next_ids_slots m.regions rs)) u.apart)
      ];
      owners = λ r g y e. elim (regions_back r g y e) [
        | inl o ↦ old r g y (σ.owners r g y o)
        | inr w ↦
            subst (λ z. Among (record { slot = r; generation = g }) (regions_of (find_op n z))) (sym w.2)
            (subst (λ z. Among (record { slot = r; generation = g }) (regions_of z)) (sym (live_found n.ops s (next_of (cell_at m.ops s)) new op_new))
            (subst (λ k. Among (record { slot = r; generation = k }) (next_ids m.regions rs)) (sym w.1) (next_ids_has m.regions rs r w.0)))
      ];
      ops = σ.ops;
      blocks = σ.blocks;
      op_in = λ t b e. let h = σ.op_in t b e in (is_live_kept m.ops n.ops ops_kept t h.0, h.1);
      block_in = λ b r e. let h = σ.block_in b r e in (h.0, is_live_kept m.regions n.regions regions_kept r h.1);
      placed = σ.placed;
      ends = subst (λ f. (t : ℕ) → (k : ℕ) × Steps f k t) (sym (fun_ext up_same)) σ.ends;
    }
      where
        old : (r g : ℕ) (y : Region) → Among (record { slot = r; generation = g }) (regions_of (find_op m y.owner)) → Among (record { slot = r; generation = g }) (regions_of (find_op n y.owner))
        old r g y i = at (find_op m y.owner) refl
          where
            at : (q : Option Operation) → find_op m y.owner ≡ q → Among (record { slot = r; generation = g }) (regions_of (find_op n y.owner))
            at None e = absurd (subst (λ z. Among (record { slot = r; generation = g }) (regions_of z)) e i)
            at (Some x) e = subst (λ z. Among (record { slot = r; generation = g }) (regions_of z)) (e ∙ sym (found_kept m.ops n.ops ops_kept y.owner.slot y.owner.generation x e)) i

pub make_sound : (m : Model) (s : ℕ) (rs : List ℕ) (kind note : ℕ) (vs : List Value) (ts : List ℕ) (gs : List Bool) → Usable m s rs gs → Sound m → are_values m vs ≡ true → Sound (make_at m s rs kind note vs ts gs)
unfolding n
make_sound m s rs kind note vs ts gs u σ live = sound m s rs kind note vs ts gs u σ live
