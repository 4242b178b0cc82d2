-- What a change of the lists does to the meaning of the tables.
use Rattle.std.proofs.Common.{◌≡◌, ℕ, ◌≤◌, true, List, [], ◌∷◌, length, is_some, Some, None, vec_items, Option, sym, refl, ap, ◌∙◌, inl, inr, arith}
use mathlib.Core.Path.{fun_ext}
use Rattle.slots.specs.Cells.{cells}
use Rattle.lists.specs.Walk.{without}
use Rattle.lists.specs.Lists.{containers}
use Rattle.model.specs.Calls.{unlink_at}
use Rattle.model.specs.declared.points.OpInsertionPoint.{OpInsertionPoint}
use Rattle.model.specs.Points.{block_at, placed_at, inserted_in, inserted_at}
use Rattle.tables.specs.declared.tables.Tables.{Tables}
use Rattle.tables.specs.View.{view, sizes, op_cells, block_cells}
use Rattle.std.proofs.lemmas.List.{get_or_past}
use Rattle.std.proofs.lemmas.Bool.{cases_eq}
use Rattle.lists.specs.declared.lists.LinkedLists.{LinkedLists}
use Rattle.lists.specs.Lists.{nodes, members, home, Relinked}
use Rattle.model.specs.Model.{put}
use Rattle.model.proofs.Lists.{put_same, put_other}

module _ (l k : LinkedLists) (c : ℕ) (xs : List ℕ) (x : ℕ) (o : Option ℕ) (h : Relinked l k c xs x o) where
  pub members_put : members k ≡ put (members l) c xs
  members_put = fun_ext (λ i. elim (cases_eq i c) [
    | inl e ↦ ap (members k) e ∙ h.here ∙ sym (ap (put (members l) c xs) e ∙ put_same (members l) c xs)
    | inr n ↦ h.others i n ∙ sym (put_other (members l) c xs i n)
  ])

  pub home_put : home k ≡ put (home l) x o
  home_put = fun_ext (λ i. elim (cases_eq i x) [
    | inl e ↦ ap (home k) e ∙ h.moved ∙ sym (ap (put (home l) x o) e ∙ put_same (home l) x o)
    | inr n ↦ h.stay i n ∙ sym (put_other (home l) x o i n)
  ])

-- past the last node there is nothing
pub home_past : (l : LinkedLists) (x : ℕ) → nodes l ≤ x → home l x ≡ None
home_past l x h = ap (λ z. z.container) (get_or_past (vec_items l.raw.links) x (record { container = None; prev = None; next = None }) h)

pub some_is : {X : Type 0} (q : Option X) → is_some q ≡ true → (x : X) × (q ≡ Some x)
some_is None e = let z : ◌≡◌ {A = ℕ} 0 1 = cc in absurd (omega arith)
some_is (Some x) e = (x, refl)

-- the lists of operations became those of k
module _ (t : Tables) (k : LinkedLists) where
  abbrev with_lists : Tables
  with_lists = record { operations = t.operations; blocks = t.blocks; regions = t.regions; op_lists = k; block_lists = t.block_lists }

  relinked_view : (c : ℕ) (xs : List ℕ) (x : ℕ) (o : Option ℕ) → Relinked t.op_lists k c xs x o
      → view with_lists ≡ record { ops = op_cells t; blocks = block_cells t; regions = cells t.regions; ops_of = put (members t.op_lists) c xs; home_of = put (home t.op_lists) x o; blocks_of = members t.block_lists; place_of = home t.block_lists }
  relinked_view c xs x o h =
      let f = members_put t.op_lists k c xs x o h in
      let g = home_put t.op_lists k c xs x o h in
      λ i. record { ops = op_cells t; blocks = block_cells t; regions = cells t.regions; ops_of = f i; home_of = g i; blocks_of = members t.block_lists; place_of = home t.block_lists }

  relinked_sizes : (c : ℕ) (xs : List ℕ) (x : ℕ) (o : Option ℕ) → Relinked t.op_lists k c xs x o → sizes with_lists ≡ sizes t
  relinked_sizes c xs x o h =
      λ i. length (cells t.operations) ∷ length (cells t.blocks) ∷ length (cells t.regions) ∷ h.nodes i ∷ h.containers i ∷ nodes t.block_lists ∷ containers t.block_lists ∷ []

  pub insert_view : (p : OpInsertionPoint) (op : ℕ) → is_some (block_at (view t) p) ≡ true
      → ((b : ℕ) → block_at (view t) p ≡ Some b → Relinked t.op_lists k b (placed_at p op (members t.op_lists b)) op (Some b))
      → (view with_lists ≡ inserted_at (view t) p op) × (sizes with_lists ≡ sizes t)
  insert_view p op e h =
      let c = some_is (block_at (view t) p) e in
      (relinked_view _ _ _ _ (h c.0 c.1) ∙ ap (λ q. inserted_in (view t) q p op) (sym c.1), relinked_sizes _ _ _ _ (h c.0 c.1))

  pub unlink_view : (op : ℕ) → is_some (home t.op_lists op) ≡ true
      → ((c : ℕ) → home t.op_lists op ≡ Some c → Relinked t.op_lists k c (without op (members t.op_lists c)) op None)
      → (view with_lists ≡ unlink_at (view t) op (home t.op_lists op)) × (sizes with_lists ≡ sizes t)
  unlink_view op e h =
      let c = some_is (home t.op_lists op) e in
      (relinked_view _ _ _ _ (h c.0 c.1) ∙ ap (unlink_at (view t) op) (sym c.1), relinked_sizes _ _ _ _ (h c.0 c.1))
