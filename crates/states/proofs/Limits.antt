-- Every store keeps its limits.
use Rattle.std.proofs.Common.{ℕ, ◌≤◌, Bool, true, false, cond, eqb, length, Some, None, sym, subst, arith}
use Rattle.std.proofs.lemmas.List.{length-take}
use Rattle.row.specs.declared.row.Row.{Row}
use Rattle.row.specs.Items.{row_items}
use Rattle.slots.specs.Cells.{Cell, Free, Live, Spent, cell_at, cells, viewed, under}
use Rattle.slots.proofs.CellLaws.{cell_at_viewed}
use Rattle.model.specs.declared.ids.OpId.{OpId}
use Rattle.model.specs.Model.{Operation, find_op}
use Rattle.model.specs.Erasing.{operands_of}
use Rattle.tables.specs.declared.records.Operation as tables
use Rattle.tables.specs.View.{view_op}
use Rattle.store.specs.declared.store.Store.{Store}
use Rattle.store.specs.Meaning.{meaning}
use Rattle.store.proofs.GoodLaws.{ops_sized}
use Rattle.rules.specs.Setting.{FewIn, Sized}

pub row_few : {X : Type 0} {n : ℕ} (r : Row X n) → length (row_items r) ≤ n
row_few r = omega (arith, length-take r.len r.items, r.within)

few_viewed : (c : Cell tables.Operation) → FewIn (viewed view_op c)
few_viewed (Free g) = tt
few_viewed (Live g x) = row_few x.operands
few_viewed Spent = tt

pub store_sized : (s : Store) → Sized (meaning s)
store_sized s = record {
  slots = omega (arith, ops_sized s.tables s.good);
  operands = λ k. subst FewIn (sym (cell_at_viewed view_op (cells s.tables.operations) k)) (few_viewed (cell_at (cells s.tables.operations) k));
}

few_under : (c : Cell Operation) (g : ℕ) → FewIn c → length (operands_of (under c g)) ≤ 8
few_under (Free h) g f = omega arith
few_under (Live h x) g f = at (eqb h g)
  where
    at : (b : Bool) → length (operands_of (cond b (Some x) None)) ≤ 8
    at true = f
    at false = omega arith
few_under Spent g f = omega arith

pub operands_few : (s : Store) (o : OpId) → length (operands_of (find_op (meaning s) o)) ≤ 8
operands_few s o = few_under (cell_at (meaning s).ops o.slot) o.generation ((store_sized s).operands o.slot)
