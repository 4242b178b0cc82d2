-- Each change of a store leads on in time.
use Rattle.std.proofs.Common.{◌≡◌, ℕ, Bool, true, false, cond, eqb, ◌⊎◌, List, map, length, set, is_some, Some, None, Option, sym, refl, ◌∙◌, subst, inl, inr}
use Rattle.std.proofs.lemmas.List.{get_or-set_same, get_or-set_other, set_past, length-set, length-map}
use Rattle.std.proofs.lemmas.Bool.{cases_eq, cases_lt, cases_Bool}
use Rattle.std.specs.List.{AllByRecursion}
use Rattle.slots.specs.Cells.{Cell}
use Rattle.slots.specs.Cells.{Free, Live, Spent}
use Rattle.slots.specs.Cells.{cell_at, is_free, next_of, retired, under, viewed}
use Rattle.slots.proofs.CellLaws.{never, cell_at_viewed, free_within}
use Rattle.lists.specs.Walk.{In, Apart}
use Rattle.lists.proofs.Counts.{in_dec}
use Rattle.model.specs.declared.ids.OpId.{OpId}
use Rattle.model.specs.declared.ids.Region.{Region}
use Rattle.model.specs.declared.ids.Value.{Value}
use Rattle.model.specs.declared.ids.DefiningEntity.{DefiningEntity}
use Rattle.model.specs.declared.ids.DefiningEntity.TheVariants as definer
use Rattle.model.specs.declared.ids.IRNode.{IRNode}
use Rattle.model.specs.declared.ids.IRNode.TheVariants as node
use Rattle.model.specs.Model.{Model}
use Rattle.model.specs.Calls.{opened, make_at, Usable, Made, next_op, link_at, unlink_at, retyped, reargued, typed_at, reused, replace_all, drop_op}
use Rattle.model.specs.declared.points.OpInsertionPoint.{OpInsertionPoint}
use Rattle.model.specs.declared.points.BlockInsertionPoint.{BlockInsertionPoint}
use Rattle.model.specs.Points.{inserted_in, created_in}
use Rattle.model.specs.Erasing.{is_node, past, is_past, sweep, disowned, has_op, has_block, has_region, erased, unlink_block_at, drop_block, disown_at, drop_region, erase_node}
use Rattle.model.specs.Later.{Dead, Later}
use Rattle.model.proofs.Opens.{all_in, length_opened, opened_at, opened_other}
use Rattle.model.proofs.Sweeps.{cell_at_sweep, length_sweep}
use Rattle.model.proofs.Past.{past_not_node, retired_past, past_retired, past_viewed, past_occupied}

-- from the cell c to d, what the generation g names went one way only
pub record Onward {X : Type 0} (c d : Cell X) : Type 0 where
  pub gone : (g : ℕ) → past g c ≡ true → past g d ≡ true
  pub once : (g : ℕ) → is_some (under c g) ≡ true → (is_some (under d g) ≡ true) ⊎ (past g d ≡ true)

-- from the cells cs to ds, each went on
pub record Moves {X : Type 0} (cs ds : List (Cell X)) : Type 0 where
  pub cell : (s : ℕ) → Onward (cell_at cs s) (cell_at ds s)
  pub sized : length ds ≡ length cs

module _ {X : Type 0} where
  pub onward_refl : (c : Cell X) → Onward c c
  onward_refl c = record { gone = λ g h. h; once = λ g h. inl h }

  pub onward_trans : (c d e : Cell X) → Onward c d → Onward d e → Onward c e
  onward_trans c d e p q = record {
    gone = λ g h. q.gone g (p.gone g h);
    once = λ g h. elim (p.once g h) [ inl l ↦ q.once g l | inr k ↦ inr (q.gone g k) ];
  }

  -- what lives in a cell changes
  pub onward_viewed : (f : X → X) (c : Cell X) → Onward c (viewed f c)
  onward_viewed f c = record { gone = λ g h. past_viewed g f c ∙ h; once = λ g h. inl (at g c ∙ h) }
    where
      at : (g : ℕ) (c : Cell X) → is_some (under (viewed f c) g) ≡ is_some (under c g)
      at g (Free k) = refl
      at g (Live k x) = elim (eqb k g) as (λ b. is_some (cond b (Some (f x)) None) ≡ is_some (cond b (Some x) None)) [ true ↦ refl | false ↦ refl ]
      at g Spent = refl

  -- it goes
  pub onward_retired : (c : Cell X) → Onward c (retired c)
  onward_retired c = record { gone = λ g h. past_retired g c h; once = λ g h. inr (retired_past g c h) }

  -- something comes to live in a free cell
  pub onward_occupied : (c : Cell X) (x : X) → is_free c ≡ true → Onward c (Live (next_of c) x)
  onward_occupied c x f = record { gone = λ g h. past_occupied g c x f h; once = λ g h. absurd (dead g c f h) }
    where
      dead : (g : ℕ) (c : Cell X) → is_free c ≡ true → is_some (under c g) ≡ true → ⊥
      dead g (Free k) f h = never h
      dead g (Live k y) f h = never f
      dead g Spent f h = never f

  pub moves_refl : (cs : List (Cell X)) → Moves cs cs
  moves_refl cs = record { cell = λ s. onward_refl (cell_at cs s); sized = refl }

  pub moves_same : (cs ds : List (Cell X)) → ds ≡ cs → Moves cs ds
  moves_same cs ds e = subst (Moves cs) (sym e) (moves_refl cs)

  pub moves_trans : (cs ds es : List (Cell X)) → Moves cs ds → Moves ds es → Moves cs es
  moves_trans cs ds es p q = record { cell = λ s. onward_trans (cell_at cs s) (cell_at ds s) (cell_at es s) (p.cell s) (q.cell s); sized = q.sized ∙ p.sized }

  -- one cell goes on
  pub moves_set : (cs : List (Cell X)) (s : ℕ) (d : Cell X) → Onward (cell_at cs s) d → Moves cs (set cs s d)
  moves_set cs s d p = record {
    cell = λ k. elim (cases_eq k s) [
      | inl e ↦ elim (cases_lt s (length cs)) [
        | inl lt ↦ subst (λ z. Onward (cell_at cs z) (cell_at (set cs s d) z)) (sym e) (subst (Onward (cell_at cs s)) (sym (get_or-set_same cs s d Spent lt)) p)
        | inr le ↦ subst (λ z. Onward (cell_at cs k) (cell_at z k)) (sym (set_past cs s d le)) (onward_refl (cell_at cs k))
      ]
      | inr ne ↦ subst (Onward (cell_at cs k)) (sym (get_or-set_other cs s k d Spent ne)) (onward_refl (cell_at cs k))
    ];
    sized = length-set cs s d;
  }

  pub moves_viewed : (f : X → X) (cs : List (Cell X)) (s : ℕ) → Moves cs (set cs s (viewed f (cell_at cs s)))
  moves_viewed f cs s = moves_set cs s _ (onward_viewed f (cell_at cs s))

  pub moves_retired : (cs : List (Cell X)) (s : ℕ) → Moves cs (set cs s (retired (cell_at cs s)))
  moves_retired cs s = moves_set cs s _ (onward_retired (cell_at cs s))

  pub moves_occupied : (cs : List (Cell X)) (s : ℕ) (x : X) → is_free (cell_at cs s) ≡ true → Moves cs (set cs s (Live (next_of (cell_at cs s)) x))
  moves_occupied cs s x f = moves_set cs s _ (onward_occupied (cell_at cs s) x f)

  pub moves_map : (f : X → X) (cs : List (Cell X)) → Moves cs (map (viewed f) cs)
  moves_map f cs = record { cell = λ s. subst (Onward (cell_at cs s)) (sym (cell_at_viewed f cs s)) (onward_viewed f (cell_at cs s)); sized = length-map cs (viewed f) }

  pub moves_sweep : (f : ℕ → Bool) (k : X → X) (cs : List (Cell X)) → Moves cs (sweep f k cs)
  moves_sweep f k cs = record { cell = λ s. subst (Onward (cell_at cs s)) (sym (cell_at_sweep k f cs s)) (at (f s) (cell_at cs s)); sized = length_sweep k f cs }
    where
      at : (b : Bool) (c : Cell X) → Onward c (cond b (retired c) (viewed k c))
      at true c = onward_retired c
      at false c = onward_viewed k c

pub moves_opened : (cs : List (Cell Region)) (o : OpId) (rs : List ℕ) (gs : List Bool) → AllByRecursion (λ r. is_free (cell_at cs r) ≡ true) rs → Apart rs → length rs ≡ length gs → Moves cs (opened cs o rs gs)
moves_opened cs o rs gs free apart count = record {
  cell = λ s. elim (in_dec s rs) [
    | inl i ↦ let h = opened_at o cs rs gs s count apart (λ r j. free_within cs r (usable r j)) i in subst (Onward (cell_at cs s)) (sym h.1) (onward_occupied (cell_at cs s) _ (usable s i))
    | inr ni ↦ subst (Onward (cell_at cs s)) (sym (opened_other o cs rs gs s ni)) (onward_refl (cell_at cs s))
  ];
  sized = length_opened o cs rs gs;
}
  where
    usable : (r : ℕ) → In r rs → is_free (cell_at cs r) ≡ true
    usable = all_in (λ z. is_free (cell_at cs z) ≡ true) rs free

-- where the cells of all three tables went on, so did the store
pub later_by : (m n : Model) → Moves m.ops n.ops → Moves m.blocks n.blocks → Moves m.regions n.regions → Later m n
later_by m n p q r = record {
  gone = goes;
  once = λ x h. stays x h;
  fresh = λ x h. elim (cases_Bool (is_past m x)) [ inl t ↦ absurd (never (sym (past_not_node n x (goes x t)) ∙ h)) | inr t ↦ t ];
  op_slots = p.sized;
  block_slots = q.sized;
  region_slots = r.sized;
}
  where
    goes : (x : IRNode) → Dead m x → Dead n x
    goes (node.Operation o) h = (p.cell o.slot).gone o.generation h
    goes (node.BasicBlock b) h = (q.cell b.slot).gone b.generation h
    goes (node.Region k) h = (r.cell k.slot).gone k.generation h

    stays : (x : IRNode) → is_node m x ≡ true → (is_node n x ≡ true) ⊎ Dead n x
    stays (node.Operation o) h = (p.cell o.slot).once o.generation h
    stays (node.BasicBlock b) h = (q.cell b.slot).once b.generation h
    stays (node.Region k) h = (r.cell k.slot).once k.generation h

-- what has gone does not live
pub dead_not_live : (m : Model) (x : IRNode) → Dead m x → is_node m x ≡ true → ⊥
dead_not_live m x d h = never (sym (past_not_node m x d) ∙ h)

pub later_trans : (m n k : Model) → Later m n → Later n k → Later m k
later_trans m n k p q = record {
  gone = λ x h. q.gone x (p.gone x h);
  once = λ x h. elim (p.once x h) [ inl l ↦ q.once x l | inr d ↦ inr (q.gone x d) ];
  fresh = λ x h. elim (cases_Bool (is_past m x)) [ inl t ↦ absurd (dead_not_live k x (q.gone x (p.gone x t)) h) | inr t ↦ t ];
  op_slots = q.op_slots ∙ p.op_slots;
  block_slots = q.block_slots ∙ p.block_slots;
  region_slots = q.region_slots ∙ p.region_slots;
}

-- what lived and lives again lived all the while
pub lived_between : (m n k : Model) → Later m n → Later n k → (x : IRNode) → is_node m x ≡ true → is_node k x ≡ true → is_node n x ≡ true
lived_between m n k p q x a b = elim (p.once x a) [ inl l ↦ l | inr d ↦ absurd (dead_not_live k x (q.gone x d) b) ]

-- the cells stay
pub later_same : (m n : Model) → n.ops ≡ m.ops → n.blocks ≡ m.blocks → n.regions ≡ m.regions → Later m n
later_same m n p q r = later_by m n (moves_same m.ops n.ops p) (moves_same m.blocks n.blocks q) (moves_same m.regions n.regions r)

pub later_refl : (m : Model) → Later m m
later_refl m = later_same m m refl refl refl

pub later_is : (m n : Model) → n ≡ m → Later m n
later_is m n e = subst (Later m) (sym e) (later_refl m)

-- the cells of one table went on, and the others stay
pub later_ops : (m n : Model) → Moves m.ops n.ops → n.blocks ≡ m.blocks → n.regions ≡ m.regions → Later m n
later_ops m n p q r = later_by m n p (moves_same m.blocks n.blocks q) (moves_same m.regions n.regions r)

pub later_blocks : (m n : Model) → n.ops ≡ m.ops → Moves m.blocks n.blocks → n.regions ≡ m.regions → Later m n
later_blocks m n p q r = later_by m n (moves_same m.ops n.ops p) q (moves_same m.regions n.regions r)

pub later_regions : (m n : Model) → n.ops ≡ m.ops → n.blocks ≡ m.blocks → Moves m.regions n.regions → Later m n
later_regions m n p q r = later_by m n (moves_same m.ops n.ops p) (moves_same m.blocks n.blocks q) r

module _ (m : Model) where
  pub make_later : (s : ℕ) (rs : List ℕ) (kind note : ℕ) (vs : List Value) (ts : List ℕ) (gs : List Bool) → Usable m s rs gs → Later m (make_at m s rs kind note vs ts gs)
  make_later s rs kind note vs ts gs u =
      later_by m _ (moves_occupied m.ops s _ u.op) (moves_refl m.blocks) (moves_opened m.regions (next_op m s) rs gs u.regions u.apart u.count)

  pub made_later : (n : Model) (kind note : ℕ) (vs : List Value) (ts : List ℕ) (gs : List Bool) (o : OpId) → Made m n kind note vs ts gs o → Later m n
  made_later n kind note vs ts gs o h = subst (Later m) (sym h.after) (make_later o.slot h.slots kind note vs ts gs h.usable)

  pub create_later : (q : Option ℕ) (p : BlockInsertionPoint) (b : ℕ) (ts : List ℕ) → is_free (cell_at m.blocks b) ≡ true → Later m (created_in m q p b ts)
  create_later None p b ts f = later_refl m
  create_later (Some r) p b ts f = later_blocks m _ refl (moves_occupied m.blocks b _ f) refl

  pub link_later : (b s : ℕ) (xs : List ℕ) → Later m (link_at m b s xs)
  link_later b s xs = later_same m _ refl refl refl

  pub insert_later : (q : Option ℕ) (p : OpInsertionPoint) (s : ℕ) → Later m (inserted_in m q p s)
  insert_later None p s = later_refl m
  insert_later (Some b) p s = link_later b s _

  pub unlink_later : (s : ℕ) (q : Option ℕ) → Later m (unlink_at m s q)
  unlink_later s None = later_refl m
  unlink_later s (Some b) = later_same m _ refl refl refl

  pub unlink_block_later : (b : ℕ) (q : Option ℕ) → Later m (unlink_block_at m b q)
  unlink_block_later b None = later_refl m
  unlink_block_later b (Some r) = later_same m _ refl refl refl

  pub typed_later : (e : DefiningEntity) (i t : ℕ) → Later m (typed_at m e i t)
  typed_later (definer.Op o) i t = later_ops m _ (moves_viewed (retyped i t) m.ops o.slot) refl refl
  typed_later (definer.Block b) i t = later_blocks m _ refl (moves_viewed (reargued i t) m.blocks b.slot) refl

  pub replace_later : (v w : Value) → Later m (replace_all m v w)
  replace_later v w = later_ops m _ (moves_map (reused v w) m.ops) refl refl

  pub disown_later : (r : ℕ) (q : Option ℕ) → Later m (disown_at m r q)
  disown_later r None = later_refl m
  disown_later r (Some s) = later_ops m _ (moves_viewed _ m.ops s) refl refl

  pub drop_later : (s : ℕ) → Later m (drop_op m s)
  drop_later s = later_ops m _ (moves_retired m.ops s) refl refl

  pub drop_block_later : (b : ℕ) → Later m (drop_block m b)
  drop_block_later b = later_blocks m _ refl (moves_retired m.blocks b) refl

  pub drop_region_later : (r : ℕ) → Later m (drop_region m r)
  drop_region_later r = later_regions m _ refl refl (moves_retired m.regions r)

  pub erased_later : (ns : List IRNode) → Later m (erased m ns)
  erased_later ns = later_by m _ (moves_sweep (has_op ns) (disowned (has_region ns)) m.ops) (moves_sweep (has_block ns) (λ x. x) m.blocks) (moves_sweep (has_region ns) (λ x. x) m.regions)

pub erase_node_later : (m : Model) (x : IRNode) → Later m (erase_node m x)
erase_node_later m (node.Operation o) = later_trans m _ _ (unlink_later m o.slot _) (drop_later _ o.slot)
erase_node_later m (node.BasicBlock b) = later_trans m _ _ (unlink_block_later m b.slot _) (drop_block_later _ b.slot)
erase_node_later m (node.Region r) = later_trans m _ _ (disown_later m r.slot _) (drop_region_later _ r.slot)
