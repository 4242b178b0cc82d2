-- A store in which records changed in their places is sound.
use Rattle.std.proofs.Common.{◌≡◌, ℕ, true, false, cond, ◌&&◌, eqb, ltb, ◌⊎◌, List, [], ◌∷◌, map, length, Some, None, Option, sym, refl, ap, ◌∙◌, subst, inl, inr, arith}
use Rattle.slots.specs.Cells.{Cell}
use Rattle.slots.specs.Cells.{Free, Live, Spent}
use Rattle.slots.specs.Cells.{cell_at, is_live, viewed, under, found}
use Rattle.lists.specs.Walk.{Apart}
use Rattle.model.specs.declared.ids.DefiningEntity.{DefiningEntity}
use Rattle.model.specs.declared.ids.DefiningEntity.TheVariants as definer
use Rattle.model.specs.declared.ids.RegionId.{RegionId}
use Rattle.model.specs.declared.ids.Value.{Value}
use Rattle.model.specs.Model.{Model, Operation, Block, types_of, is_value, are_values, results_of, args_of, regions_of}
use Rattle.model.specs.Calls.{with_ops, with_blocks}
use Rattle.model.specs.Sound.{Sound, Among}

-- each cell is as it was, or f of it
abbrev pub Changed : {X : Type 0} → (X → X) → List (Cell X) → List (Cell X) → Type 0
Changed f cs ds = (s : ℕ) → (cell_at ds s ≡ cell_at cs s) ⊎ (cell_at ds s ≡ viewed f (cell_at cs s))

module _ {X : Type 0} (f : X → X) (cs ds : List (Cell X)) (ch : Changed f cs ds) where
  -- what f keeps of a record is kept of what is found
  pub found_same : {Y : Type 0} (look : Option X → Y) → ((x : X) → look (Some (f x)) ≡ look (Some x)) → (s g : ℕ) → look (found ds s g) ≡ look (found cs s g)
  found_same look h s g = elim (ch s) [
    | inl e ↦ ap (λ c. look (under c g)) e
    | inr e ↦ ap (λ c. look (under c g)) e ∙ at (cell_at cs s)
  ]
    where
      at : (c : Cell X) → look (under (viewed f c) g) ≡ look (under c g)
      at (Free k) = refl
      at (Live k x) = elim (eqb k g) as (λ b. look (cond b (Some (f x)) None) ≡ look (cond b (Some x) None)) [ true ↦ h x | false ↦ refl ]
      at Spent = refl

  pub live_same : (s : ℕ) → is_live (cell_at ds s) ≡ is_live (cell_at cs s)
  live_same s = elim (ch s) [ inl e ↦ ap is_live e | inr e ↦ ap is_live e ∙ at (cell_at cs s) ]
    where
      at : (c : Cell X) → is_live (viewed f c) ≡ is_live c
      at (Free k) = refl
      at (Live k x) = refl
      at Spent = refl

  pub was : (s g : ℕ) (y : X) → cell_at ds s ≡ Live g y → (x : X) × (cell_at cs s ≡ Live g x) × ((y ≡ x) ⊎ (y ≡ f x))
  was s g y e = elim (ch s) [
    | inl d ↦ (y, sym d ∙ e, inl refl)
    | inr d ↦ let h = at (cell_at cs s) (sym d ∙ e) in (h.0, h.1, inr h.2)
  ]
    where
      at : (c : Cell X) → viewed f c ≡ Live g y → (x : X) × (c ≡ Live g x) × (y ≡ f x)
      at (Free k) e = let z : ◌≡◌ {A = ℕ} 0 1 = cc in absurd (omega arith)
      at (Live k x) e = let p : k ≡ g = cc in (x, ap (λ j. Live j x) p, cc)
      at Spent e = let z : ◌≡◌ {A = ℕ} 0 1 = cc in absurd (omega arith)

-- the values are those that were, where as many are defined
pub values_same : (m n : Model) → ((e : DefiningEntity) → length (types_of n e) ≡ length (types_of m e)) → (vs : List Value) → are_values n vs ≡ are_values m vs
values_same m n h [] = refl
values_same m n h (v ∷ vs) = ap (λ k. ltb v.index k && are_values n vs) (h v.definer) ∙ ap (λ b. is_value m v && b) (values_same m n h vs)

pub ops_sound : (m : Model) (cs : List (Cell Operation)) (f : Operation → Operation) → Changed f m.ops cs
    → ((x : Operation) → length (f x).results ≡ length x.results) → ((x : Operation) → (f x).regions ≡ x.regions)
    → ((x : Operation) → are_values m x.operands ≡ true → are_values m (f x).operands ≡ true) → Sound m → Sound (with_ops m cs)
ops_sound m cs f ch types regions operands σ = record {
  operands = λ s g y e. let w = was f m.ops cs ch s g y e in
      values_same m (with_ops m cs) sized y.operands ∙ elim w.2 [ inl d ↦ rw d (σ.operands s g w.0 w.1) | inr d ↦ rw d (operands w.0 (σ.operands s g w.0 w.1)) ];
  owned = λ s g y e r i. let w = was f m.ops cs ch s g y e in σ.owned s g w.0 w.1 r (subst (Among r) (same w.0 y w.2) i);
  apart = λ s g y e. let w = was f m.ops cs ch s g y e in subst (λ rs. Apart (map (λ (r : RegionId). r.slot) rs)) (sym (same w.0 y w.2)) (σ.apart s g w.0 w.1);
  owners = λ r g y e. subst (Among (record { slot = r; generation = g })) (sym (found_same f m.ops cs ch regions_of regions y.owner.slot y.owner.generation)) (σ.owners r g y e);
  ops = σ.ops;
  blocks = σ.blocks;
  op_in = λ s b e. let h = σ.op_in s b e in (live_same f m.ops cs ch s ∙ h.0, h.1);
  block_in = σ.block_in;
  placed = σ.placed;
  ends = σ.ends;
}
  where
    same : (x y : Operation) → (y ≡ x) ⊎ (y ≡ f x) → y.regions ≡ x.regions
    same x y (inl d) = ap (λ z. z.regions) d
    same x y (inr d) = ap (λ z. z.regions) d ∙ regions x

    sized : (e : DefiningEntity) → length (types_of (with_ops m cs) e) ≡ length (types_of m e)
    sized (definer.Op o) = found_same f m.ops cs ch (λ q. length (results_of q)) types o.slot o.generation
    sized (definer.Block b) = refl

pub blocks_sound : (m : Model) (cs : List (Cell Block)) (f : Block → Block) → Changed f m.blocks cs
    → ((x : Block) → length (f x).args ≡ length x.args) → Sound m → Sound (with_blocks m cs)
blocks_sound m cs f ch types σ = record {
  operands = λ s g y e. values_same m (with_blocks m cs) sized y.operands ∙ σ.operands s g y e;
  owned = σ.owned;
  apart = σ.apart;
  owners = σ.owners;
  ops = σ.ops;
  blocks = σ.blocks;
  op_in = λ s b e. let h = σ.op_in s b e in (h.0, live_same f m.blocks cs ch b ∙ h.1);
  block_in = λ b r e. let h = σ.block_in b r e in (live_same f m.blocks cs ch b ∙ h.0, h.1);
  placed = λ b h. σ.placed b (sym (live_same f m.blocks cs ch b) ∙ h);
  ends = σ.ends;
}
  where
    sized : (e : DefiningEntity) → length (types_of (with_blocks m cs) e) ≡ length (types_of m e)
    sized (definer.Op o) = refl
    sized (definer.Block b) = found_same f m.blocks cs ch (λ q. length (args_of q)) types b.slot b.generation
