-- Each change leaves all but what it says.
use Rattle.std.proofs.Common.{◌≡◌, ℕ, Bool, true, false, cond, List, set, Some, None, Option, refl, ap, ◌∙◌}
use Rattle.std.proofs.lemmas.List.{get_or-set_other}
use Rattle.std.proofs.lemmas.Bool.{eq-eqb, ne_eqb}
use Rattle.slots.specs.Cells.{Cell}
use Rattle.slots.specs.Cells.{Live, Spent}
use Rattle.slots.specs.Cells.{cell_at, is_live, viewed}
use Rattle.slots.proofs.CellLaws.{cell_at_viewed, viewed_dead}
use Rattle.model.specs.declared.ids.RegionId.{RegionId}
use Rattle.model.specs.declared.ids.Region.{Region}
use Rattle.model.specs.declared.ids.Value.{Value}
use Rattle.model.specs.declared.ids.DefiningEntity.{DefiningEntity}
use Rattle.model.specs.declared.ids.DefiningEntity.TheVariants as definer
use Rattle.model.specs.declared.ids.IRNode.{IRNode}
use Rattle.model.specs.Model.{Model, Operation, Block, put}
use Rattle.model.specs.Calls.{next_op, make_at, create_at, link_at, unlink_at, typed_at, reused, replace_all}
use Rattle.model.specs.Erasing.{has_op, has_block, has_region, disowned, erased}
use Rattle.model.specs.Frames.{SameOff, CellsBut, SamePlaces, MakeKeeps, CreateKeeps, LinkKeeps, TypeKeeps, ReplaceKeeps, Unowning, EraseKeeps, Keeping}
use Rattle.model.proofs.Opens.{opened_other}
use Rattle.model.proofs.Sweeps.{viewed_same, sweep_out, less_none, among_in, nowhere_has}

pub put_off : {X : Type 0} (f : ℕ → X) (k : ℕ) (v : X) → SameOff k f (put f k v)
put_off f k v i ne = ap (λ b. cond b v (f i)) (ne_eqb i k ne)

pub set_off : {X : Type 0} (cs : List (Cell X)) (s : ℕ) (d : Cell X) → CellsBut (λ t. t ≡ s) cs (set cs s d)
set_off cs s d t ne = get_or-set_other cs s t d Spent ne

-- only cells change
unmoved : (m : Model) (os : List (Cell Operation)) (bs : List (Cell Block)) (rs : List (Cell Region))
    → SamePlaces m (record { ops = os; blocks = bs; regions = rs; ops_of = m.ops_of; home_of = m.home_of; blocks_of = m.blocks_of; place_of = m.place_of })
unmoved m os bs rs = record { ops_of = refl; home_of = refl; blocks_of = refl; place_of = refl }

-- only one block's list and one operation's place change
relinked : (m : Model) (b s : ℕ) (xs : List ℕ) (q : Option ℕ)
    → LinkKeeps m (record { ops = m.ops; blocks = m.blocks; regions = m.regions; ops_of = put m.ops_of b xs; home_of = put m.home_of s q; blocks_of = m.blocks_of; place_of = m.place_of }) b s
relinked m b s xs q = record {
  cells = record { ops = refl; blocks = refl; regions = refl };
  ops_of = put_off m.ops_of b xs;
  home_of = put_off m.home_of s q;
  blocks_of = refl;
  place_of = refl;
}

refuted : (b : Bool) → (b ≡ true → ⊥) → b ≡ false
refuted true h = absurd (h refl)
refuted false h = refl

module _ (m : Model) where
  pub make_keeps : (s : ℕ) (rs : List ℕ) (kind note : ℕ) (vs : List Value) (ts : List ℕ) (gs : List Bool) → MakeKeeps m (make_at m s rs kind note vs ts gs) s rs
  make_keeps s rs kind note vs ts gs = record {
    ops = set_off m.ops s _;
    blocks = refl;
    regions = opened_other (next_op m s) m.regions rs gs;
    places = unmoved m _ _ _;
  }

  pub create_keeps : (b r : ℕ) (xs ts : List ℕ) → CreateKeeps m (create_at m b r xs ts) b r
  create_keeps b r xs ts = record {
    ops = refl;
    blocks = set_off m.blocks b _;
    regions = refl;
    ops_of = refl;
    home_of = refl;
    blocks_of = put_off m.blocks_of r _;
    place_of = put_off m.place_of b _;
  }

  pub link_keeps : (b s : ℕ) (xs : List ℕ) → LinkKeeps m (link_at m b s xs) b s
  link_keeps b s xs = relinked m b s xs (Some b)

  pub unlink_keeps : (s b : ℕ) → LinkKeeps m (unlink_at m s (Some b)) b s
  unlink_keeps s b = relinked m b s _ None

  pub type_keeps : (e : DefiningEntity) (i t : ℕ) → TypeKeeps m (typed_at m e i t) e
  type_keeps (definer.Op o) i t = record {
    ops = λ s n. set_off m.ops o.slot _ s (λ d. n (eq-eqb s o.slot d));
    blocks = λ b n. refl;
    regions = refl;
    places = unmoved m _ _ _;
  }
  type_keeps (definer.Block b) i t = record {
    ops = λ s n. refl;
    blocks = λ c n. set_off m.blocks b.slot _ c (λ d. n (eq-eqb c b.slot d));
    regions = refl;
    places = unmoved m _ _ _;
  }

  pub replace_keeps : (v w : Value) → ReplaceKeeps m (replace_all m v w)
  replace_keeps v w = record {
    live = λ s g x e. (reused v w x, cell_at_viewed (reused v w) m.ops s ∙ ap (viewed (reused v w)) e, record { kind = refl; note = refl; results = refl; regions = refl });
    others = λ s n. cell_at_viewed (reused v w) m.ops s ∙ viewed_dead (reused v w) (cell_at m.ops s) (λ g x e. n (ap is_live e));
    blocks = refl;
    regions = refl;
    places = unmoved m _ _ _;
  }

  module _ (ns : List IRNode) where
    out_ops : (s : ℕ) → has_op ns s ≡ false → cell_at (erased m ns).ops s ≡ viewed (disowned (has_region ns)) (cell_at m.ops s)
    out_ops s h = sweep_out (disowned (has_region ns)) (has_op ns) m.ops s h

    own_all : (x : Operation) → Unowning ns x → disowned (has_region ns) x ≡ x
    own_all x u = ap (λ rs. record { kind = x.kind; note = x.note; operands = x.operands; results = x.results; regions = rs }) (less_none (λ (r : RegionId). has_region ns r.slot) x.regions u)

    pub erase_keeps : EraseKeeps m (erased m ns) ns
    erase_keeps = record {
      ops = out_ops;
      live = λ s g x h e u. out_ops s h ∙ ap (viewed (disowned (has_region ns))) e ∙ ap (Live g) (own_all x u);
      blocks = λ b n. sweep_out (λ x. x) (has_block ns) m.blocks b (refuted (has_block ns b) n) ∙ viewed_same (cell_at m.blocks b);
      regions = λ r n. sweep_out (λ x. x) (has_region ns) m.regions r (refuted (has_region ns r) n) ∙ viewed_same (cell_at m.regions r);
      ops_of = λ b h. less_none (has_op ns) (m.ops_of b) (λ s i. h s (among_in s (m.ops_of b) i));
      home_of = λ s n. nowhere_has (has_op ns) m.home_of s (refuted (has_op ns s) n);
      blocks_of = λ r h. less_none (has_block ns) (m.blocks_of r) (λ b i. h b (among_in b (m.blocks_of r) i));
      place_of = λ b n. nowhere_has (has_block ns) m.place_of b (refuted (has_block ns b) n);
    }

pub keeping : Keeping
keeping = record {
  made = make_keeps;
  created = create_keeps;
  linked = link_keeps;
  unlinked = unlink_keeps;
  typed = type_keeps;
  replaced = replace_keeps;
  gone = erase_keeps;
}
