-- What is asked of nodes and of operations, as one pass over a list.
use Rattle.std.proofs.Common.{◌≡◌, ℕ, suc, ◌+◌, ◌<◌, Bool, true, false, cond, not, ◌||◌, List, [], ◌∷◌, map, length, Some, None, Option, sym, refl, ap, ◌∙◌, arith}
use Rattle.std.specs.List.{list_any, range_with_len, fold, zip}
use Rattle.std.specs.Option.{option_map}
use Rattle.slots.specs.Cells.{Cell}
use Rattle.slots.specs.Cells.{cells, cell_at, holds}
use Rattle.slots.proofs.CellLaws.{cell_at_viewed, holds_viewed}
use Rattle.row.specs.Items.{row_items}
use Rattle.tables.specs.declared.records.Operation as record_of
use Rattle.tables.specs.declared.tables.Tables.{Tables}
use Rattle.tables.specs.View.{view, view_op}
use Rattle.model.specs.declared.ids.IRNode.{IRNode}
use Rattle.model.specs.declared.ids.DefiningEntity.{DefiningEntity}
use Rattle.model.specs.declared.ids.DefiningEntity.TheVariants as definer
use Rattle.model.specs.declared.ids.Value.{Value}
use Rattle.model.specs.Model.{Operation}
use Rattle.model.specs.Calls.{replaced, chained, replace_each}
use Rattle.model.proofs.Chains.{each_operands}
use Rattle.model.specs.Erasing.{is_op, is_block, has, has_op, defines, some_defined, operands_of, used_from}

pub has_any : (test : IRNode → ℕ → Bool) (ns : List IRNode) (s : ℕ) → list_any (λ n. test n s) ns ≡ has test ns s
has_any test [] s = refl
has_any test (n ∷ ns) s = ap (λ b. test n s || b) (has_any test ns s)

-- is the node what e names, by its slot?
abbrev pub is_definer : DefiningEntity → IRNode → Bool
is_definer (definer.Op o) n = is_op n o.slot
is_definer (definer.Block b) n = is_block n b.slot

pub defines_any : (e : DefiningEntity) (ns : List IRNode) → list_any (is_definer e) ns ≡ defines ns e
defines_any (definer.Op o) ns = has_any is_op ns o.slot
defines_any (definer.Block b) ns = has_any is_block ns b.slot

pub defined_any : (ns : List IRNode) (f : Value → Value) (vs : List Value) → list_any (λ v. defines ns (f v).definer) vs ≡ some_defined ns (map f vs)
defined_any ns f [] = refl
defined_any ns f (v ∷ vs) = ap (λ b. defines ns (f v).definer || b) (defined_any ns f vs)

pub some_defined_any : (ns : List IRNode) (vs : List Value) → list_any (λ v. defines ns v.definer) vs ≡ some_defined ns vs
some_defined_any ns [] = refl
some_defined_any ns (v ∷ vs) = ap (λ b. defines ns v.definer || b) (some_defined_any ns vs)

pub chained_fold : (vs ws : List Value) (u : Value) → fold (λ (a : Value) (p : Value × Value). replaced p.0 p.1 a) u (zip vs ws) ≡ chained vs ws u
chained_fold [] ws u = refl
chained_fold (v ∷ vs) [] u = refl
chained_fold (v ∷ vs) (w ∷ ws) u = chained_fold vs ws (replaced v w u)

-- does the operation in this cell, that of the slot s, use a value of the nodes without being one of them?
abbrev pub uses_out : List IRNode → ℕ → Cell Operation → Bool
uses_out ns s c = cond (has_op ns s) false (some_defined ns (operands_of (holds c)))

-- a test of slots answers the same as one pass over the cells from the slot i on
used_any : (ns : List IRNode) (t : ℕ → Bool) (cs : List (Cell Operation)) (i : ℕ) → ((k : ℕ) → k < length cs → t (k + i) ≡ uses_out ns (k + i) (cell_at cs k)) → list_any t (range_with_len i (length cs)) ≡ used_from ns i cs
used_any ns t [] i h = refl
used_any ns t (c ∷ cs) i h =
    let z : 0 + i ≡ i = omega arith in
    ap (λ b. b || list_any t (range_with_len (i + 1) (length cs))) (sym (ap t z) ∙ h 0 (omega arith) ∙ ap (λ n. uses_out ns n c) z)
    ∙ ap (λ b. uses_out ns i c || b) (used_any ns t cs (i + 1) (λ k le. let e : k + (i + 1) ≡ suc k + i = omega arith in ap t e ∙ h (suc k) (omega arith) ∙ ap (λ n. uses_out ns n (cell_at cs k)) (sym e)))

pub used_all : (ns : List IRNode) (cs : List (Cell Operation)) → list_any (λ s. uses_out ns s (cell_at cs s)) (range_with_len 0 (length cs)) ≡ used_from ns 0 cs
used_all ns cs = used_any ns (λ s. uses_out ns s (cell_at cs s)) cs 0 (λ k le. let e : k + 0 ≡ k = omega arith in ap (λ s. uses_out ns s (cell_at cs s)) e ∙ ap (λ s. uses_out ns s (cell_at cs k)) (sym e))

-- b, unless h
pub false_unless : (h b : Bool) → false ≡ b → false ≡ cond h false b
false_unless true b e = refl
false_unless false b e = e

pub not_unless : (h b : Bool) → true ≡ b → not h ≡ cond h false b
not_unless true b e = refl
not_unless false b e = e

-- the operands of an operation when ws have taken the place of vs, and whether the nodes define one, by its record
module _ (t : Tables) (vs ws : List Value) (s : ℕ) where
  abbrev pub operands_after : List Value
  operands_after = operands_of (holds (cell_at (replace_each (view t) vs ws).ops s))

  by_record : (q : Option record_of.Operation) → q ≡ holds (cell_at (cells t.operations) s) → map (chained vs ws) (operands_of (option_map view_op q)) ≡ operands_after
  by_record q e =
      ap (λ z. map (chained vs ws) (operands_of z)) (ap (option_map view_op) e ∙ sym (ap holds (cell_at_viewed view_op (cells t.operations) s) ∙ holds_viewed view_op (cell_at (cells t.operations) s)))
      ∙ sym (each_operands (view t) vs ws s)

module _ (t : Tables) (ns : List IRNode) (vs ws : List Value) (s : ℕ) where
  pub defined_none : None ≡ holds (cell_at (cells t.operations) s) → false ≡ some_defined ns (operands_after t vs ws s)
  defined_none e = ap (some_defined ns) (by_record t vs ws s None e)

  pub defined_some : (x : record_of.Operation) (us : List Value) → Some x ≡ holds (cell_at (cells t.operations) s) → us ≡ row_items x.operands
      → list_any (λ v. defines ns (chained vs ws v).definer) us ≡ some_defined ns (operands_after t vs ws s)
  defined_some x us e is = defined_any ns (chained vs ws) us ∙ ap (some_defined ns) (ap (map (chained vs ws)) is ∙ by_record t vs ws s (Some x) e)
