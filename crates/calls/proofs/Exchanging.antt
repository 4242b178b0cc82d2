-- When values take the place of others, all but what is used stays.
use Rattle.std.proofs.Common.{◌≡◌, ℕ, zero, suc, ◌+◌, ◌≤◌, true, List, [], ◌∷◌, length, refl, ap, ◌∙◌, arith}
use Rattle.std.proofs.lemmas.Bool.{and_parts, and_from, lt-ltb}
use Rattle.std.specs.List.{slice_get}
use Rattle.model.specs.declared.ids.OpId.{OpId}
use Rattle.model.specs.declared.ids.Value.{Value}
use Rattle.model.specs.declared.ids.DefiningEntity.{DefiningEntity}
use Rattle.model.specs.declared.ids.DefiningEntity.TheVariants as definer
use Rattle.model.specs.declared.ids.IRNode.{IRNode}
use Rattle.model.specs.Model.{Model, find_op, is_value, are_values, results_of, types_of}
use Rattle.model.specs.Calls.{reused, replace_all, results_from, result_values, replace_each}
use Rattle.model.specs.Sound.{Sound}
use Rattle.model.specs.Erasing.{Closed}
use Rattle.model.specs.Later.{Later}
use Rattle.model.proofs.InPlace.{found_same}
use Rattle.model.proofs.Changing.{replace_sound, replaced_values, changed_uses}
use Rattle.model.proofs.Laters.{later_refl, later_trans, replace_later}
use Rattle.model.proofs.Lasting.{Lasts, replace_lasts, closed_replaced}
use Rattle.calls.specs.declared.events.RecorderEvent.TheVariants as event
use Rattle.calls.specs.Perform.{type_from, replacing}

-- n is m, but for what the operations use
pub record Reused (m n : Model) : Type 0 where
  pub later : Later m n
  pub lasts : Lasts m n
  pub home : n.home_of ≡ m.home_of
  pub closed : (ns : List IRNode) → Closed m ns → Closed n ns

pub reused_refl : (m : Model) → Reused m m
reused_refl m = record { later = later_refl m; lasts = λ x h. h; home = refl; closed = λ ns c. c }

reused_trans : (m n k : Model) → Reused m n → Reused n k → Reused m k
reused_trans m n k p q = record {
  later = later_trans m n k p.later q.later;
  lasts = λ x h. q.lasts x (p.lasts x h);
  home = q.home ∙ p.home;
  closed = λ ns c. q.closed ns (p.closed ns c);
}

reused_all : (m : Model) (v w : Value) → Reused m (replace_all m v w)
reused_all m v w = record { later = replace_later m v w; lasts = replace_lasts m v w; home = refl; closed = closed_replaced m v w }

pub reused_each : (m : Model) (vs ws : List Value) → Reused m (replace_each m vs ws)
reused_each m [] ws = reused_refl m
reused_each m (v ∷ vs) [] = reused_refl m
reused_each m (v ∷ vs) (w ∷ ws) = reused_trans m (replace_all m v w) (replace_each (replace_all m v w) vs ws) (reused_all m v w) (reused_each (replace_all m v w) vs ws)

pub each_sound : (m : Model) (vs ws : List Value) → are_values m ws ≡ true → Sound m → Sound (replace_each m vs ws)
each_sound m [] ws h σ = σ
each_sound m (v ∷ vs) [] h σ = σ
each_sound m (v ∷ vs) (w ∷ ws) h σ =
    let p = and_parts (is_value m w) (are_values m ws) h in
    each_sound (replace_all m v w) vs ws (replaced_values m v w ws ∙ p.1) (replace_sound m v w p.0 σ)

-- the results of an operation are live values
pub results_live : (m : Model) (o : OpId) → are_values m (result_values m o) ≡ true
results_live m o = from 0 (length (results_of (find_op m o))) (omega arith)
  where
    from : (i n : ℕ) → i + n ≤ length (results_of (find_op m o)) → are_values m (results_from o i n) ≡ true
    from i zero l = refl
    from i (suc n) l =
        and_from (is_value m (record { definer = definer.Op o; index = i })) (are_values m (results_from o (suc i) n)) (lt-ltb i (length (results_of (find_op m o))) (omega arith)) (from (suc i) n (omega arith))

-- the types are those that were, and so the records are the same
replaced_types : (m : Model) (v w : Value) (e : DefiningEntity) → types_of (replace_all m v w) e ≡ types_of m e
replaced_types m v w (definer.Op o) = found_same (reused v w) m.ops _ (changed_uses m v w) results_of (λ x. refl) o.slot o.generation
replaced_types m v w (definer.Block b) = refl

pub replacing_later : (m : Model) (v w : Value) (vs ws : List Value) → replacing (replace_all m v w) vs ws ≡ replacing m vs ws
replacing_later m v w [] ws = refl
replacing_later m v w (x ∷ vs) [] = refl
replacing_later m v w (x ∷ vs) (y ∷ ws) =
    λ i. event.ReplacedValueUses x (type_from (slice_get (replaced_types m v w x.definer i) x.index)) y ∷ replacing_later m v w vs ws i

pub replacing_length : (m : Model) (vs ws : List Value) → length vs ≡ length ws → length (replacing m vs ws) ≡ length vs
replacing_length m [] ws e = refl
replacing_length m (v ∷ vs) [] e = absurd (omega arith)
replacing_length m (v ∷ vs) (w ∷ ws) e = ap suc (replacing_length m vs ws (omega arith))
