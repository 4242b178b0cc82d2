-- The walk is cut off nowhere.
use Rattle.std.proofs.Common.{◌≡◌, ℕ, zero, suc, ◌+◌, ◌<◌, List, [], ◌∷◌, length, refl, ap, inl, inr, arith}
use Rattle.std.specs.List.{flat_map}
use Rattle.lists.specs.Walk.{In}
use Rattle.model.specs.declared.ids.IRNode.{IRNode}
use Rattle.model.specs.declared.ids.IRNode.TheVariants as node
use Rattle.model.specs.Model.{Model, op_id, block_id}
use Rattle.model.specs.Walk.{slots_of_regions, block_by, region_by, walk_op, walk}
use Rattle.model.specs.Sound.{Sound}
use Rattle.model.proofs.Nesting.{depth, depth_up, depth_few, op_up}

pub joined_same : {X : Type 0} (f g : ℕ → List X) (xs : List ℕ) → ((x : ℕ) → In x xs → f x ≡ g x) → flat_map f xs ≡ flat_map g xs
joined_same f g [] h = refl
joined_same f g (x ∷ xs) h = let e = h x (inl refl) in let es = joined_same f g xs (λ y i. h y (inr i)) in cc

-- walks that agree on what lies right in the operation at s
regions_same : (m : Model) (f g : ℕ → List IRNode) (s : ℕ) → ((r b c : ℕ) → In r (slots_of_regions m s) → In b (m.blocks_of r) → In c (m.ops_of b) → f c ≡ g c)
    → flat_map (region_by m f) (slots_of_regions m s) ≡ flat_map (region_by m g) (slots_of_regions m s)
regions_same m f g s h =
    joined_same (region_by m f) (region_by m g) (slots_of_regions m s) (λ r i.
    joined_same (block_by m f) (block_by m g) (m.blocks_of r) (λ b j.
    ap (λ ns. node.BasicBlock (block_id m b) ∷ ns) (joined_same f g (m.ops_of b) (λ c k. h r b c i j k))))

-- two walks that go deep enough are the same
enough : (m : Model) (σ : Sound m) (d e s : ℕ) → length m.ops < d + depth m σ s → length m.ops < e + depth m σ s → walk_op d m s ≡ walk_op e m s
enough m σ zero e s h k = let few = depth_few m σ s in absurd (omega arith)
enough m σ (suc d) zero s h k = let few = depth_few m σ s in absurd (omega arith)
enough m σ (suc d) (suc e) s h k =
    ap (λ ns. node.Operation (op_id m s) ∷ ns) (regions_same m (walk_op d m) (walk_op e m) s (λ r b c i j l.
    let deeper = depth_up m σ c s (op_up m σ s r b c i j l) in
    enough m σ d e c (omega arith) (omega arith)))

pub unfolds : (m : Model) → Sound m → (s : ℕ) → walk m s ≡ node.Operation (op_id m s) ∷ flat_map (region_by m (walk m)) (slots_of_regions m s)
unfolds m σ s =
    let more : walk_op (suc (length m.ops)) m s ≡ walk_op (suc (suc (length m.ops))) m s = enough m σ (suc (length m.ops)) (suc (suc (length m.ops))) s (omega arith) (omega arith) in
    more
