-- The ways out of the methods that take an operation out of its block, and move it.
use Rattle.std.proofs.Common.{◌≡◌, Bool, true, [], ◌∷◌, ◌++◌, Some, None, Result, sym, ap, ◌∙◌, append_assoc, arith, MatchResult}
use Rattle.model.specs.declared.ids.OpId.{OpId}
use Rattle.model.specs.declared.points.OpInsertionPoint.{OpInsertionPoint}
use Rattle.model.specs.declared.refusal.Refusal.{Refusal}
use Rattle.model.specs.Calls.{unlink_refusal, unlink_at}
use Rattle.model.specs.Points.{insert_refusal, inserted_at}
use Rattle.model.specs.Moving.{move_refusal, old_place}
use Rattle.calls.specs.declared.events.RecorderEvent.TheVariants.{UnlinkedOperation, InsertedOperation}
use Rattle.calls.specs.World.{World, Reply, unlink, insert, move, done, refused, kept, fits}
use Rattle.calls.specs.Perform.{Performed}
use Rattle.calls.proofs.Outcomes.{performed_done, kept_append, fits_fewer, fits_after}
use Rattle.calls.proofs.Accepting.{move_allowed, move_unlink, move_insert}
use Rattle.calls.proofs.Performing.{not_done}
use Rattle.rewriter.specs.Seen.{told}
use Rattle.rewriter.proofs.Ways.{none_picked, Parts, parts, accepted}

pub unlink_done : (keeps : Bool) (w : World) (o : OpId) → unlink_refusal w.model o ≡ None → fits keeps w.records 1 ≡ true
    → (v : World) → v.point ≡ w.point → v.records ≡ w.records ++ kept keeps (UnlinkedOperation o (old_place w.model o) ∷ []) → (r : Result (Unit {0}) Refusal)
    → MatchResult r (λ _. (unlink_refusal w.model o ≡ None) × (v.model ≡ unlink_at w.model o.slot (w.model.home_of o.slot))) (λ e. (unlink_refusal w.model o ≡ Some e) × (v.model ≡ w.model))
    → Performed keeps w (unlink o) v (told r)
unlink_done keeps w o h f v point records r cases =
    let a = accepted (unlink_refusal w.model o) (v.model ≡ unlink_at w.model o.slot (w.model.home_of o.slot)) (λ _. v.model ≡ w.model) h r cases in
    performed_done keeps w (unlink o) h none_picked f tt v a.1 point records (told r) a.0

-- the operation o may be moved to p, and there is room for two records; it is taken out, and that leads to v
module _ (keeps : Bool) (w v : World) (o : OpId) (p : OpInsertionPoint) (h : move_refusal w.model o p ≡ None) (f : fits keeps w.records 2 ≡ true) where
  was_out : (r : Reply) (out : Performed keeps w (unlink o) v r) → Parts keeps w (unlink o) out.pick v r
  was_out r out = parts keeps w (unlink o) v r out (move_unlink w.model p o (move_allowed w.model p o h)) (fits_fewer keeps w.records 2 1 (omega arith) f)

  -- that is not refused
  pub out_taken : {A : Type 0} (e : Refusal) → Performed keeps w (unlink o) v (refused e) → A
  out_taken e out = not_done e (sym (was_out (refused e) out).reply)

  -- then the point is p for a while, in u, and the operation is inserted, which leads to x; in y the point is back
  pub moved : Performed keeps w (unlink o) v done → (u : World) → u.model ≡ v.model → u.point ≡ p → u.records ≡ v.records
      → (x : World) (r : Reply) → Performed keeps u (insert o) x r → (y : World) → y.model ≡ x.model → y.point ≡ v.point → y.records ≡ x.records → Performed keeps w (move o p) y r
  moved out u model point records x r into y model' point' records' =
      let a = was_out done out in
      let m = u.model in
      let is = model ∙ a.model in
      let free : insert_refusal m u.point o ≡ None = ap (λ q. insert_refusal m q o) point ∙ ap (λ z. insert_refusal z p o) is ∙ move_insert w.model p o (move_allowed w.model p o h) in
      let room : fits keeps u.records 1 ≡ true = ap (λ es. fits keeps es 1) (records ∙ a.records) ∙ fits_after keeps w.records (UnlinkedOperation o (old_place w.model o)) 1 f in
      let b = parts keeps u (insert o) x r into free room in
      performed_done keeps w (move o p) h none_picked f tt y
      (model' ∙ b.model ∙ ap (λ z. inserted_at z u.point o.slot) is ∙ ap (λ q. inserted_at (unlink_at w.model o.slot (w.model.home_of o.slot)) q o.slot) point)
      (point' ∙ a.point)
      (records' ∙ b.records ∙ ap (λ es. es ++ kept keeps (InsertedOperation o ∷ [])) (records ∙ a.records)
      ∙ append_assoc w.records (kept keeps (UnlinkedOperation o (old_place w.model o) ∷ [])) (kept keeps (InsertedOperation o ∷ []))
      ∙ ap (λ es. w.records ++ es) (sym (kept_append keeps (UnlinkedOperation o (old_place w.model o) ∷ []) (InsertedOperation o ∷ []))))
      r b.reply
