-- What is known where a call is not refused.
use Rattle.std.proofs.Common.{◌≡◌, ℕ, Bool, true, false, cond, not, ◌&&◌, eqb, List, length, is_some, Some, None, Option, sym, refl, ap, ◌∙◌, subst}
use Rattle.std.proofs.lemmas.Bool.{and_parts, eqb-true, eqb-false}
use Rattle.slots.proofs.CellLaws.{never}
use Rattle.lists.proofs.Chains.{some_none}
use Rattle.lists.proofs.Edits.{some_of}
use Rattle.model.specs.declared.ids.OpId.{OpId}
use Rattle.model.specs.declared.ids.Value.{Value}
use Rattle.model.specs.declared.ids.IRNode.{IRNode}
use Rattle.model.specs.declared.ids.IRNode.TheVariants as node
use Rattle.model.specs.declared.points.OpInsertionPoint.{OpInsertionPoint}
use Rattle.model.specs.declared.points.OpInsertionPoint.TheVariants as point
use Rattle.model.specs.declared.refusal.Refusal.{Refusal}
use Rattle.model.specs.declared.refusal.Refusal.TheVariants.{NotLive, PointUnset, InBlock, NoBlock, Inside, CountsDiffer, StillUsed, OwnValue}
use Rattle.model.specs.Model.{Model, find_op, are_values, results_of, is_value, inside, whether}
use Rattle.model.specs.Calls.{unlink_refusal, unlink_at, replace_refusal, result_values, replace_each}
use Rattle.model.specs.Points.{is_unset, block_at, point_live, insert_refusal, inserted_at}
use Rattle.model.specs.Moving.{names, target_refusal, move_refusal}
use Rattle.model.specs.Sound.{Sound}
use Rattle.model.specs.Erasing.{is_node, part_of, used_outside, some_defined, erase_refusal}
use Rattle.model.proofs.Lists.{put_same, put_other}
use Rattle.model.proofs.Placing.{Allowed, allowed_sound}
use Rattle.model.proofs.Unlinking.{unlink_sound, inside_unlinked}
use Rattle.calls.specs.Refusing.{exchange_refusal, with_refusal, by_refusal}
use Rattle.calls.proofs.Outcomes.{not_refused}
use Rattle.calls.proofs.Exchanging.{results_live}

-- a reason that does not apply, and a test that is passed
pub passed_over : (b : Bool) (e : Refusal) (q : Option Refusal) → cond b (Some e) q ≡ None → (b ≡ false) × (q ≡ None)
passed_over true e q d = not_refused e d
passed_over false e q d = (refl, d)

pub passed : (b : Bool) (e : Refusal) (q : Option Refusal) → cond b q (Some e) ≡ None → (b ≡ true) × (q ≡ None)
passed true e q d = (refl, d)
passed false e q d = not_refused e d

not_not : (b : Bool) → not b ≡ true → b ≡ false
not_not true h = absurd (never h)
not_not false h = refl

-- an operation may be moved to the point, which is in the block at `block`
pub record Movable (m : Model) (p : OpInsertionPoint) (o : OpId) : Type 0 where
  pub op : is_some (find_op m o) ≡ true
  pub live : point_live m p ≡ true
  pub home : ℕ
  pub from : m.home_of o.slot ≡ Some home
  pub other : names p o ≡ false
  pub block : ℕ
  pub at : block_at m p ≡ Some block
  pub away : inside m o.slot block ≡ false

pub move_allowed : (m : Model) (p : OpInsertionPoint) (o : OpId) → move_refusal m o p ≡ None → Movable m p o
move_allowed m p o e =
    let a = passed (is_some (find_op m o) && point_live m p) NotLive _ e in
    let l = and_parts (is_some (find_op m o)) (point_live m p) a.0 in
    let b = passed_over (is_unset p) PointUnset _ a.1 in
    let c = passed (is_some (m.home_of o.slot) && not (names p o)) NoBlock _ b.1 in
    let k = and_parts (is_some (m.home_of o.slot)) (not (names p o)) c.0 in
    let h = some_of (m.home_of o.slot) k.0 in
    let t = to (block_at m p) c.1 in
    record { op = l.0; live = l.1; home = h.0; from = h.1; other = not_not (names p o) k.1; block = t.0; at = t.1; away = t.2 }
  where
    to : (q : Option ℕ) → target_refusal m o q ≡ None → (b : ℕ) × (q ≡ Some b) × (inside m o.slot b ≡ false)
    to None d = not_refused NoBlock d
    to (Some b) d = (b, refl, (passed_over (inside m o.slot b) Inside None d).0)

-- a point stays where it was, when an operation goes that it does not name
unlinked_live : (m : Model) (s h : ℕ) (p : OpInsertionPoint) → point_live (unlink_at m s (Some h)) p ≡ point_live m p
unlinked_live m s h point.Unset = refl
unlinked_live m s h (point.AtBlockStart b) = refl
unlinked_live m s h (point.AtBlockEnd b) = refl
unlinked_live m s h (point.AfterOperation k) = refl
unlinked_live m s h (point.BeforeOperation k) = refl

unlinked_block : (m : Model) (o : OpId) (h : ℕ) (p : OpInsertionPoint) → names p o ≡ false → block_at (unlink_at m o.slot (Some h)) p ≡ block_at m p
unlinked_block m o h point.Unset e = refl
unlinked_block m o h (point.AtBlockStart b) e = refl
unlinked_block m o h (point.AtBlockEnd b) e = refl
unlinked_block m o h (point.AfterOperation k) e = put_other m.home_of o.slot None k.slot (eqb-false k.slot o.slot e)
unlinked_block m o h (point.BeforeOperation k) e = put_other m.home_of o.slot None k.slot (eqb-false k.slot o.slot e)

-- when it is out of its block, it may be put at the point
unlinked_allowed : (m : Model) (p : OpInsertionPoint) (o : OpId) (a : Movable m p o) → Allowed (unlink_at m o.slot (Some a.home)) p o
unlinked_allowed m p o a = record {
  op = a.op;
  live = unlinked_live m o.slot a.home p ∙ a.live;
  out = put_same m.home_of o.slot None;
  block = a.block;
  at = unlinked_block m o a.home p a.other ∙ a.at;
  away = inside_unlinked m o.slot a.home (length m.ops) a.block ∙ a.away;
}

unset_nowhere : (m : Model) (p : OpInsertionPoint) (b : ℕ) → block_at m p ≡ Some b → is_unset p ≡ false
unset_nowhere m point.Unset b e = absurd (some_none b (sym e))
unset_nowhere m (point.AtBlockStart k) b e = refl
unset_nowhere m (point.AtBlockEnd k) b e = refl
unset_nowhere m (point.AfterOperation k) b e = refl
unset_nowhere m (point.BeforeOperation k) b e = refl

allowed_insert : (m : Model) (p : OpInsertionPoint) (o : OpId) → Allowed m p o → insert_refusal m p o ≡ None
allowed_insert m p o a =
    let last : Option Refusal = cond (is_some (block_at m p)) (cond (whether (block_at m p) (inside m o.slot)) (Some Inside) None) (Some NoBlock) in
    let late : Option Refusal = cond (is_unset p) (Some PointUnset) (cond (is_some (m.home_of o.slot)) (Some InBlock) last) in
    ap (λ b. cond (b && point_live m p) late (Some NotLive)) a.op
    ∙ ap (λ b. cond b late (Some NotLive)) a.live
    ∙ ap (λ b. cond b (Some PointUnset) (cond (is_some (m.home_of o.slot)) (Some InBlock) last)) (unset_nowhere m p a.block a.at)
    ∙ ap (λ q. cond (is_some q) (Some InBlock) last) a.out
    ∙ ap (λ q. cond (is_some q) (cond (whether q (inside m o.slot)) (Some Inside) None) (Some NoBlock)) a.at
    ∙ ap (λ b. cond b (Some Inside) None) a.away

-- an operation that may be moved can be taken out, and then put at the point
pub move_unlink : (m : Model) (p : OpInsertionPoint) (o : OpId) → Movable m p o → unlink_refusal m o ≡ None
move_unlink m p o a = ap (λ b. cond b (cond (is_some (m.home_of o.slot)) None (Some NoBlock)) (Some NotLive)) a.op ∙ ap (λ q. cond (is_some q) None (Some NoBlock)) a.from

pub move_insert : (m : Model) (p : OpInsertionPoint) (o : OpId) → Movable m p o → insert_refusal (unlink_at m o.slot (m.home_of o.slot)) p o ≡ None
move_insert m p o a = ap (λ q. insert_refusal (unlink_at m o.slot q) p o) a.from ∙ allowed_insert (unlink_at m o.slot (Some a.home)) p o (unlinked_allowed m p o a)

pub move_sound : (m : Model) (p : OpInsertionPoint) (o : OpId) → Movable m p o → Sound m → Sound (inserted_at (unlink_at m o.slot (m.home_of o.slot)) p o.slot)
move_sound m p o a σ = subst (λ q. Sound (inserted_at (unlink_at m o.slot q) p o.slot)) (sym a.from)
    (allowed_sound (unlink_at m o.slot (Some a.home)) (unlink_sound m o.slot (Some a.home) a.from σ) p o (unlinked_allowed m p o a))

-- an operation may be replaced by the values
pub record Exchangeable (m : Model) (o : OpId) (ws : List Value) : Type 0 where
  pub op : is_some (find_op m o) ≡ true
  pub values : are_values m ws ≡ true
  pub counts : length (results_of (find_op m o)) ≡ length ws
  pub unused : used_outside (replace_each m (result_values m o) ws) (part_of m (node.Operation o)) ≡ false
  pub foreign : some_defined (part_of m (node.Operation o)) ws ≡ false

exchange_parts : (m : Model) (o : OpId) (ws : List Value) → is_some (find_op m o) ≡ true → are_values m ws ≡ true → exchange_refusal m o ws ≡ None → Exchangeable m o ws
exchange_parts m o ws l v e =
    let a = passed (eqb (length (results_of (find_op m o))) (length ws)) CountsDiffer _ e in
    let b = passed_over (used_outside (replace_each m (result_values m o) ws) (part_of m (node.Operation o))) StillUsed _ a.1 in
    let c = passed_over (some_defined (part_of m (node.Operation o)) ws) OwnValue _ b.1 in
    record { op = l; values = v; counts = eqb-true (length (results_of (find_op m o))) (length ws) a.0; unused = b.0; foreign = c.0 }

pub with_allowed : (m : Model) (o : OpId) (ws : List Value) → with_refusal m o ws ≡ None → Exchangeable m o ws
with_allowed m o ws e =
    let a = passed (is_some (find_op m o) && are_values m ws) NotLive _ e in
    let l = and_parts (is_some (find_op m o)) (are_values m ws) a.0 in
    exchange_parts m o ws l.0 l.1 a.1

pub by_allowed : (m : Model) (o q : OpId) → by_refusal m o q ≡ None → Exchangeable m o (result_values m q)
by_allowed m o q e =
    let a = passed (is_some (find_op m o) && is_some (find_op m q)) NotLive _ e in
    let l = and_parts (is_some (find_op m o)) (is_some (find_op m q)) a.0 in
    exchange_parts m o (result_values m q) l.0 (results_live m q) a.1

pub erase_allowed : (m : Model) (n : IRNode) → erase_refusal m n ≡ None → (is_node m n ≡ true) × (used_outside m (part_of m n) ≡ false)
erase_allowed m n e =
    let a = passed (is_node m n) NotLive _ e in
    (a.0, (passed_over (used_outside m (part_of m n)) StillUsed _ a.1).0)

-- the value that is used instead is live
pub replace_allowed : (m : Model) (v w : Value) → replace_refusal m v w ≡ None → is_value m w ≡ true
replace_allowed m v w e = (and_parts (is_value m v) (is_value m w) (passed (is_value m v && is_value m w) NotLive None e).0).1
