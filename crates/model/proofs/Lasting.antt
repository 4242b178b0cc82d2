-- What lives goes on living where nothing is erased; and what is erased was in the list.
use Rattle.std.proofs.Common.{◌≡◌, ℕ, Bool, true, false, cond, eqb, ◌⊎◌, List, set, is_some, Some, None, Option, sym, refl, ap, ◌∙◌, subst, inl, inr}
use Rattle.std.proofs.lemmas.List.{get_or-set_other}
use Rattle.std.proofs.lemmas.Bool.{cases_Bool, eq-eqb}
use Rattle.slots.specs.Cells.{Cell}
use Rattle.slots.specs.Cells.{Free, Live, Spent}
use Rattle.slots.specs.Cells.{cell_at, found, under, is_free, viewed}
use Rattle.slots.proofs.CellLaws.{never, found_is_live, live_is, live_not_free}
use Rattle.model.specs.declared.ids.OpId.{OpId}
use Rattle.model.specs.declared.ids.Value.{Value}
use Rattle.model.specs.declared.ids.DefiningEntity.{DefiningEntity}
use Rattle.model.specs.declared.ids.DefiningEntity.TheVariants as definer
use Rattle.model.specs.declared.ids.IRNode.{IRNode}
use Rattle.model.specs.declared.ids.IRNode.TheVariants as node
use Rattle.model.specs.declared.points.OpInsertionPoint.{OpInsertionPoint}
use Rattle.model.specs.declared.points.BlockInsertionPoint.{BlockInsertionPoint}
use Rattle.model.specs.Model.{Model, Operation, find_op, op_id}
use Rattle.model.specs.Calls.{next_op, opened, Usable, make_at, unlink_at, retyped, reargued, typed_at, reused, replace_all}
use Rattle.model.specs.Points.{inserted_in, created_in}
use Rattle.model.specs.Sound.{Sound, Among}
use Rattle.model.specs.Erasing.{is_op, is_block, is_region, has_op, has_block, has_region, disowned, is_node, Closed, erased}
use Rattle.model.proofs.Opens.{all_in, opened_other}
use Rattle.model.proofs.InPlace.{Changed, found_same, was}
use Rattle.model.proofs.Changing.{changed_one, changed_uses}
use Rattle.model.proofs.Meeting.{op_alive}
use Rattle.model.proofs.Erased.{op_kept, block_kept, region_kept}
use Rattle.model.proofs.Closing.{among_has, is_op_lem, is_block_lem, is_region_lem}
use Rattle.model.proofs.Lives.{one_each}

-- what lives in m lives in n
abbrev pub Lasts : Model → Model → Type 0
Lasts m n = (x : IRNode) → is_node m x ≡ true → is_node n x ≡ true

abbrev pub Lasting : {X : Type 0} → List (Cell X) → List (Cell X) → Type 0
Lasting cs ds = (s g : ℕ) → is_some (found cs s g) ≡ true → is_some (found ds s g) ≡ true

module _ {X : Type 0} where
  -- a free cell is used
  pub lasting_set : (cs : List (Cell X)) (s : ℕ) (d : Cell X) → is_free (cell_at cs s) ≡ true → Lasting cs (set cs s d)
  lasting_set cs s d f t g h =
      let l = live_is (cell_at cs t) (found_is_live cs t g h) in
      ap (λ c. is_some (under c g)) (get_or-set_other cs s t d Spent (λ e. live_not_free cs t l.0 l.1 l.2 (ap (λ z. is_free (cell_at cs z)) e ∙ f))) ∙ h

  -- records change in their places
  pub lasting_changed : (f : X → X) (cs ds : List (Cell X)) → Changed f cs ds → Lasting cs ds
  lasting_changed f cs ds ch s g h = found_same f cs ds ch is_some (λ x. refl) s g ∙ h

  pub some_under : (f : X → X) (c : Cell X) (g : ℕ) → is_some (under (viewed f c) g) ≡ is_some (under c g)
  some_under f (Free k) g = refl
  some_under f (Live k x) g = elim (eqb k g) as (λ b. is_some (cond b (Some (f x)) None) ≡ is_some (cond b (Some x) None)) [ true ↦ refl | false ↦ refl ]
  some_under f Spent g = refl

pub lasts_by : (m n : Model) → Lasting m.ops n.ops → Lasting m.blocks n.blocks → Lasting m.regions n.regions → Lasts m n
lasts_by m n p q r (node.Operation o) h = p o.slot o.generation h
lasts_by m n p q r (node.BasicBlock b) h = q b.slot b.generation h
lasts_by m n p q r (node.Region k) h = r k.slot k.generation h

pub lasts_same : (m n : Model) → n.ops ≡ m.ops → n.blocks ≡ m.blocks → n.regions ≡ m.regions → Lasts m n
lasts_same m n p q r = lasts_by m n (λ s g h. ap (λ cs. is_some (found cs s g)) p ∙ h) (λ s g h. ap (λ cs. is_some (found cs s g)) q ∙ h) (λ s g h. ap (λ cs. is_some (found cs s g)) r ∙ h)

module _ (m : Model) where
  pub make_lasts : (s : ℕ) (rs : List ℕ) (kind note : ℕ) (vs : List Value) (ts : List ℕ) (gs : List Bool) → Usable m s rs gs → Lasts m (make_at m s rs kind note vs ts gs)
  make_lasts s rs kind note vs ts gs u = lasts_by m (make_at m s rs kind note vs ts gs) (lasting_set m.ops s _ u.op) (λ t g h. h) regions
    where
      regions : Lasting m.regions (opened m.regions (next_op m s) rs gs)
      regions t g h =
          let l = live_is (cell_at m.regions t) (found_is_live m.regions t g h) in
          ap (λ c. is_some (under c g)) (opened_other (next_op m s) m.regions rs gs t (λ i.
          live_not_free m.regions t l.0 l.1 l.2 (all_in (λ z. is_free (cell_at m.regions z) ≡ true) rs u.regions t i))) ∙ h

  pub create_lasts : (q : Option ℕ) (p : BlockInsertionPoint) (b : ℕ) (ts : List ℕ) → is_free (cell_at m.blocks b) ≡ true → Lasts m (created_in m q p b ts)
  create_lasts None p b ts f = λ x h. h
  create_lasts (Some r) p b ts f = lasts_by m (created_in m (Some r) p b ts) (λ t g h. h) (lasting_set m.blocks b _ f) (λ t g h. h)

  pub insert_lasts : (q : Option ℕ) (p : OpInsertionPoint) (s : ℕ) → Lasts m (inserted_in m q p s)
  insert_lasts None p s = λ x h. h
  insert_lasts (Some b) p s = lasts_same m (inserted_in m (Some b) p s) refl refl refl

  pub unlink_lasts : (s : ℕ) (q : Option ℕ) → Lasts m (unlink_at m s q)
  unlink_lasts s None = λ x h. h
  unlink_lasts s (Some b) = lasts_same m (unlink_at m s (Some b)) refl refl refl

  pub typed_lasts : (e : DefiningEntity) (i t : ℕ) → Lasts m (typed_at m e i t)
  typed_lasts (definer.Op o) i t = lasts_by m (typed_at m (definer.Op o) i t) (lasting_changed (retyped i t) m.ops _ (changed_one (retyped i t) m.ops o.slot)) (λ t g h. h) (λ t g h. h)
  typed_lasts (definer.Block b) i t = lasts_by m (typed_at m (definer.Block b) i t) (λ t g h. h) (lasting_changed (reargued i t) m.blocks _ (changed_one (reargued i t) m.blocks b.slot)) (λ t g h. h)

  pub replace_lasts : (v w : Value) → Lasts m (replace_all m v w)
  replace_lasts v w = lasts_by m (replace_all m v w) (lasting_changed (reused v w) m.ops _ (changed_uses m v w)) (λ t g h. h) (λ t g h. h)

  -- a closed list is closed whatever the operations use
  pub closed_replaced : (v w : Value) (ns : List IRNode) → Closed m ns → Closed (replace_all m v w) ns
  closed_replaced v w ns c = record {
    live = λ n i. replace_lasts v w n (c.live n i);
    distinct = c.distinct;
    regions_in = λ s g y h e r i.
        let t = was (reused v w) m.ops _ (changed_uses m v w) s g y e in
        c.regions_in s g t.0 h t.1 r (subst (Among r) (same t.0 y t.2) i);
    blocks_in = c.blocks_in;
    ops_in = c.ops_in;
  }
    where
      same : (x y : Operation) → (y ≡ x) ⊎ (y ≡ reused v w x) → y.regions ≡ x.regions
      same x y (inl d) = ap (λ z. z.regions) d
      same x y (inr d) = ap (λ z. z.regions) d

-- what has gone was in the list
pub erased_gone : (m : Model) (ns : List IRNode) → Closed m ns → (x : IRNode) → is_node m x ≡ true → is_node (erased m ns) x ≡ false → Among x ns
erased_gone m ns c (node.Operation o) h d = elim (cases_Bool (has_op ns o.slot)) [
  | inl t ↦
      let a = among_has is_op ns o.slot t in
      let i = is_op_lem a.0 o.slot a.2 in
      let e = one_each m (node.Operation o) (node.Operation i.0) h (ap (is_node m) (sym i.1) ∙ c.live a.0 a.1) (eq-eqb o.slot i.0.slot i.2) in
      subst (λ z. Among z ns) (i.1 ∙ sym e) a.1
  | inr t ↦ absurd (never (sym d ∙ ap (λ z. is_some (under z o.generation)) (op_kept m ns o.slot t) ∙ some_under (disowned (has_region ns)) (cell_at m.ops o.slot) o.generation ∙ h))
]
erased_gone m ns c (node.BasicBlock b) h d = elim (cases_Bool (has_block ns b.slot)) [
  | inl t ↦
      let a = among_has is_block ns b.slot t in
      let i = is_block_lem a.0 b.slot a.2 in
      let e = one_each m (node.BasicBlock b) (node.BasicBlock i.0) h (ap (is_node m) (sym i.1) ∙ c.live a.0 a.1) (eq-eqb b.slot i.0.slot i.2) in
      subst (λ z. Among z ns) (i.1 ∙ sym e) a.1
  | inr t ↦ absurd (never (sym d ∙ ap (λ z. is_some (under z b.generation)) (block_kept m ns b.slot t) ∙ h))
]
erased_gone m ns c (node.Region r) h d = elim (cases_Bool (has_region ns r.slot)) [
  | inl t ↦
      let a = among_has is_region ns r.slot t in
      let i = is_region_lem a.0 r.slot a.2 in
      let e = one_each m (node.Region r) (node.Region i.0) h (ap (is_node m) (sym i.1) ∙ c.live a.0 a.1) (eq-eqb r.slot i.0.slot i.2) in
      subst (λ z. Among z ns) (i.1 ∙ sym e) a.1
  | inr t ↦ absurd (never (sym d ∙ ap (λ z. is_some (under z r.generation)) (region_kept m ns r.slot t) ∙ h))
]

-- the operation that lies in a block of m, and is live under the same identity in n, is the one that is live there
pub same_op_lem : (m n : Model) → Sound m → (o : OpId) (b : ℕ) → m.home_of o.slot ≡ Some b → is_node n (node.Operation (op_id m o.slot)) ≡ true → is_some (find_op n o) ≡ true → is_some (find_op m o) ≡ true
same_op_lem m n σ o b e l h =
    let is = one_each n (node.Operation o) (node.Operation (op_id m o.slot)) h l (eq-eqb o.slot o.slot refl) in
    ap (is_node m) is ∙ op_alive m σ o.slot (σ.op_in o.slot b e).0
