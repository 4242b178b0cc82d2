-- Values that take the place of others one after the other, and the ways out of replacing an operation.
use Rattle.std.proofs.Common.{◌≡◌, ℕ, suc, ◌+◌, Bool, true, false, cond, ◌&&◌, eqb, List, [], ◌∷◌, ◌++◌, map, length, is_some, Some, None, Option, sym, refl, ap, ◌∙◌, subst, append_assoc, inl, inr, arith}
use mathlib.Core.Logic.{◌⊎◌}
use Rattle.std.proofs.lemmas.List.{length-map, length-append}
use Rattle.std.proofs.lemmas.Bool.{and_parts}
use Rattle.model.specs.declared.ids.OpId.{OpId}
use Rattle.model.specs.declared.ids.Value.{Value}
use Rattle.model.specs.declared.ids.IRNode.{IRNode}
use Rattle.model.specs.declared.ids.IRNode.TheVariants as node
use Rattle.model.specs.declared.refusal.Refusal.{Refusal}
use Rattle.model.specs.declared.refusal.Refusal.TheVariants.{NotLive, CountsDiffer, StillUsed, OwnValue, RecordsFull}
use Rattle.model.specs.Model.{Model, find_op, is_value, are_values, results_of}
use Rattle.model.specs.Calls.{replace_all, result_values, replace_each}
use Rattle.model.specs.Refusals.{verdict}
use Rattle.model.specs.Erasing.{part_of, PartListed, Closed, used_outside, some_defined, erased}
use Rattle.model.proofs.Changing.{replaced_values}
use Rattle.model.proofs.Chains.{results_length}
use Rattle.calls.specs.declared.events.RecorderEvent.{RecorderEvent}
use Rattle.calls.specs.declared.events.RecorderEvent.TheVariants.{ReplacedValueUses}
use Rattle.calls.specs.World.{World, replace_with, replace_by, Pick, Reply, done, refused, kept, fits}
use Rattle.calls.specs.Refusing.{exchange_refusal, with_refusal, by_refusal}
use Rattle.calls.specs.Perform.{type_now, erasing, replacing, exchanging, allowing, settle, Performed}
use Rattle.calls.proofs.Outcomes.{kept_append, fits_after, fits_list, fits_fewer}
use Rattle.calls.proofs.Exchanging.{reused_each, results_live, replacing_later, replacing_length}
use Rattle.calls.proofs.Accepting.{Exchangeable, with_allowed}
use Rattle.rewriter.proofs.Ways.{none_picked, kept_none, known_full, known_done}

-- in the model m, and with the records es, ws are still to take the place of vs; that leads to the model n and the records fs
pub record Ahead (keeps : Bool) (m : Model) (es : List RecorderEvent) (vs ws : List Value) (n : Model) (fs : List RecorderEvent) : Type 0 where
  pub model : replace_each m vs ws ≡ n
  pub records : es ++ kept keeps (replacing m vs ws) ≡ fs
  pub olds : are_values m vs ≡ true
  pub news : are_values m ws ≡ true
  pub room : fits keeps es (length vs) ≡ true

module _ (keeps : Bool) (n : Model) (fs : List RecorderEvent) where
  -- the next two
  pub ahead_next : (m : Model) (es : List RecorderEvent) (vs ws us ts : List Value) (v w : Value) → vs ≡ v ∷ us → ws ≡ w ∷ ts → Ahead keeps m es vs ws n fs → Ahead keeps m es (v ∷ us) (w ∷ ts) n fs
  ahead_next m es vs ws us ts v w d e a = subst (λ l. Ahead keeps m es (v ∷ us) l n fs) e (subst (λ l. Ahead keeps m es l ws n fs) d a)

  module _ (m : Model) (es : List RecorderEvent) (v w : Value) (vs ws : List Value) (a : Ahead keeps m es (v ∷ vs) (w ∷ ws) n fs) where
    pub ahead_old : is_value m v ≡ true
    ahead_old = (and_parts (is_value m v) (are_values m vs) a.olds).0

    pub ahead_new : is_value m w ≡ true
    ahead_new = (and_parts (is_value m w) (are_values m ws) a.news).0

    pub ahead_room : fits keeps es 1 ≡ true
    ahead_room = fits_fewer keeps es (suc (length vs)) 1 (omega arith) a.room

    -- one is done
    one_done : Ahead keeps (replace_all m v w) (es ++ kept keeps (ReplacedValueUses v (type_now m v) w ∷ [])) vs ws n fs
    one_done =
        let e = ReplacedValueUses v (type_now m v) w in
        let rest = replacing m vs ws in
        record {
          model = a.model;
          records =
              append_assoc es (kept keeps (e ∷ [])) (kept keeps (replacing (replace_all m v w) vs ws))
              ∙ ap (λ ks. es ++ (kept keeps (e ∷ []) ++ kept keeps ks)) (replacing_later m v w vs ws)
              ∙ ap (λ ks. es ++ ks) (sym (kept_append keeps (e ∷ []) rest))
              ∙ a.records;
          olds = replaced_values m v w vs ∙ (and_parts (is_value m v) (are_values m vs) a.olds).1;
          news = replaced_values m v w ws ∙ (and_parts (is_value m w) (are_values m ws) a.news).1;
          room = fits_after keeps es e (length vs) a.room;
        }

    pub ahead_step : (k : Model) (gs : List RecorderEvent) → k ≡ replace_all m v w → gs ≡ es ++ kept keeps (ReplacedValueUses v (type_now m v) w ∷ []) → Ahead keeps k gs vs ws n fs
    ahead_step k gs p q = subst (λ z. Ahead keeps k z vs ws n fs) (sym q) (subst (λ z. Ahead keeps z (es ++ kept keeps (ReplacedValueUses v (type_now m v) w ∷ [])) vs ws n fs) (sym p) one_done)

  none_left : (m : Model) (vs ws : List Value) → (vs ≡ []) ⊎ (ws ≡ []) → (replace_each m vs ws ≡ m) × (replacing m vs ws ≡ [])
  none_left m [] ws e = (refl, refl)
  none_left m (v ∷ vs) [] e = (refl, refl)
  none_left m (v ∷ vs) (w ∷ ws) (inl e) = absurd (omega (arith, ap length e))
  none_left m (v ∷ vs) (w ∷ ws) (inr e) = absurd (omega (arith, ap length e))

  pub ahead_done : (m : Model) (es : List RecorderEvent) (vs ws : List Value) → (vs ≡ []) ⊎ (ws ≡ []) → Ahead keeps m es vs ws n fs → (m ≡ n) × (es ≡ fs)
  ahead_done m es vs ws e a =
      let h = none_left m vs ws e in
      (sym h.0 ∙ a.model, kept_none keeps es ∙ ap (λ ks. es ++ kept keeps ks) (sym h.1) ∙ a.records)

-- the reasons against an exchange, in their order, by three tests
abbrev reasons : Bool → Bool → Bool → Option Refusal
reasons counts used own = cond counts (cond used (Some StillUsed) (cond own (Some OwnValue) None)) (Some CountsDiffer)

pub exchange_reasons : (m : Model) (o : OpId) (vs ws : List Value) (ns : List IRNode) → vs ≡ result_values m o → ns ≡ part_of m (node.Operation o)
    → (counts used own : Bool) → counts ≡ eqb (length vs) (length ws) → used ≡ used_outside (replace_each m vs ws) ns → own ≡ some_defined ns ws → verdict (reasons counts used own) ≡ verdict (exchange_refusal m o ws)
exchange_reasons m o vs ws ns is p counts used own c u d =
    let part = part_of m (node.Operation o) in
    let olds = result_values m o in
    let many = length (results_of (find_op m o)) in
    ap verdict (
    ap (λ b. reasons b used own) (c ∙ ap (λ k. eqb k (length ws)) (ap length is ∙ results_length o 0 many))
    ∙ ap (λ b. reasons (eqb many (length ws)) b own) (u ∙ ap (λ us. used_outside (replace_each m us ws) ns) is ∙ ap (used_outside (replace_each m olds ws)) p)
    ∙ ap (λ b. reasons (eqb many (length ws)) (used_outside (replace_each m olds ws) part) b) (d ∙ ap (λ ks. some_defined ks ws) p))

-- an operation that is not live, and values that are not
pub with_dead : (m : Model) (o : OpId) (ws : List Value) → is_some (find_op m o) ≡ false → with_refusal m o ws ≡ Some NotLive
with_dead m o ws e = ap (λ b. cond (b && are_values m ws) (exchange_refusal m o ws) (Some NotLive)) e

pub with_live : (m : Model) (o : OpId) (ws : List Value) → is_some (find_op m o) ≡ true → (b : Bool) → b ≡ are_values m ws → with_refusal m o ws ≡ cond b (exchange_refusal m o ws) (Some NotLive)
with_live m o ws e b v = ap (λ b. cond (b && are_values m ws) (exchange_refusal m o ws) (Some NotLive)) e ∙ ap (λ b. cond b (exchange_refusal m o ws) (Some NotLive)) (sym v)

-- nothing is against replacing the operation o, whose results are vs and whose part is ns, by ws
pub record Exchange (m : Model) (o : OpId) (vs ws : List Value) (ns : List IRNode) : Type 0 where
  pub part : PartListed m (node.Operation o) ns
  pub olds : vs ≡ result_values m o
  pub news : true ≡ are_values m ws
  pub allowed : exchange_refusal m o ws ≡ None

module _ (keeps : Bool) (w : World) (o : OpId) (vs ws : List Value) (ns : List IRNode) (x : Exchange w.model o vs ws ns) where
  not_against : with_refusal w.model o ws ≡ None
  not_against = with_live w.model o ws x.part.allowed true x.news ∙ x.allowed

  can : Exchangeable w.model o ws
  can = with_allowed w.model o ws not_against

  pub exchange_counts : length vs ≡ length ws
  exchange_counts = ap length x.olds ∙ results_length o 0 _ ∙ can.counts

  pub exchange_olds : are_values w.model vs ≡ true
  exchange_olds = ap (are_values w.model) x.olds ∙ results_live w.model o

  -- as much room as was asked for
  pub exchange_fits : (k j : ℕ) (b : Bool) → k ≡ length vs → j ≡ length ns → b ≡ fits keeps w.records (k + j) → fits keeps w.records (length vs + length ns) ≡ b
  exchange_fits k j b p q e = ap (λ i. fits keeps w.records (i + length ns)) (sym p) ∙ ap (λ i. fits keeps w.records (k + i)) (sym q) ∙ sym e

  abbrev told_of : List RecorderEvent
  told_of = replacing w.model vs ws ++ map erasing ns

  events_are : exchanging w.model o ws ≡ told_of
  events_are = ap (λ us. replacing w.model us ws ++ map erasing (part_of w.model (node.Operation o))) (sym x.olds) ∙ ap (λ ks. replacing w.model vs ws ++ map erasing ks) (sym x.part.nodes)

  told_length : length told_of ≡ length vs + length ns
  told_length =
      let a = length-append (replacing w.model vs ws) (map erasing ns) in
      let b = replacing_length w.model vs ws exchange_counts in
      let c = length-map ns erasing in
      omega arith

  pub exchange_full : fits keeps w.records (length vs + length ns) ≡ false → Performed keeps w (replace_with o ws) w (refused RecordsFull)
  exchange_full f = known_full keeps w (replace_with o ws) none_picked not_against told_of events_are (ap (fits keeps w.records) told_length ∙ f)

  -- once the values are in place, the part can go
  module _ (m : Model) (e : m ≡ replace_each w.model vs ws) where
    pub exchange_closed : Closed m ns
    exchange_closed = subst (λ z. Closed z ns) (sym e) ((reused_each w.model vs ws).closed ns x.part.closed)

    pub exchange_unused : used_outside m ns ≡ false
    exchange_unused = ap (λ z. used_outside z ns) e ∙ ap (λ us. used_outside (replace_each w.model us ws) ns) x.olds ∙ ap (used_outside (replace_each w.model (result_values w.model o) ws)) x.part.nodes ∙ can.unused

  module _ (f : fits keeps w.records (length vs + length ns) ≡ true) where
    -- there is room for the records of the values, and then for those of the nodes
    pub exchange_room : fits keeps w.records (length vs) ≡ true
    exchange_room = fits_fewer keeps w.records (length vs + length ns) (length vs) (omega arith) f

    pub erase_room : (es : List RecorderEvent) → es ≡ w.records ++ kept keeps (replacing w.model vs ws) → fits keeps es (length ns) ≡ true
    erase_room es e =
        ap (λ fs. fits keeps fs (length ns)) e
        ∙ fits_list keeps w.records (replacing w.model vs ws) (length ns) (ap (λ k. fits keeps w.records (k + length ns)) (replacing_length w.model vs ws exchange_counts) ∙ f)

    pub exchange_done : (m : Model) → m ≡ replace_each w.model vs ws → (v : World) → v.model ≡ erased m ns → v.point ≡ w.point → (es : List RecorderEvent) → es ≡ w.records ++ kept keeps (replacing w.model vs ws)
        → v.records ≡ es ++ kept keeps (map erasing ns) → Performed keeps w (replace_with o ws) v done
    exchange_done m e v model point es first records =
        known_done keeps w (replace_with o ws) none_picked not_against told_of events_are (ap (fits keeps w.records) told_length ∙ f) tt v
        (model ∙ ap (λ z. erased z ns) e ∙ ap (λ us. erased (replace_each w.model us ws) ns) x.olds ∙ ap (erased (replace_each w.model (result_values w.model o) ws)) x.part.nodes) point
        (records
        ∙ ap (λ z. z ++ kept keeps (map erasing ns)) first
        ∙ append_assoc w.records (kept keeps (replacing w.model vs ws)) (kept keeps (map erasing ns))
        ∙ ap (λ z. w.records ++ z) (sym (kept_append keeps (replacing w.model vs ws) (map erasing ns)))) done refl

-- replacing by the results of an operation
pub by_dead : (m : Model) (o q : OpId) → is_some (find_op m q) ≡ false → by_refusal m o q ≡ Some NotLive
by_dead m o q e = ap (λ b. cond (is_some (find_op m o) && b) (exchange_refusal m o (result_values m q)) (Some NotLive)) e ∙ at (is_some (find_op m o))
  where
    at : (b : Bool) → cond (b && false) (exchange_refusal m o (result_values m q)) (Some NotLive) ≡ Some NotLive
    at true = refl
    at false = refl

with_by : (m : Model) (o q : OpId) → is_some (find_op m q) ≡ true → by_refusal m o q ≡ with_refusal m o (result_values m q)
with_by m o q e = ap (λ b. cond (is_some (find_op m o) && b) (exchange_refusal m o (result_values m q)) (Some NotLive)) (e ∙ sym (results_live m q))

pub by_with : (keeps : Bool) (w v : World) (o q : OpId) (r : Reply) → is_some (find_op w.model q) ≡ true → (ws : List Value) → ws ≡ result_values w.model q
    → Performed keeps w (replace_with o ws) v r → Performed keeps w (replace_by o q) v r
by_with keeps w v o q r l ws e h =
    let g : Performed keeps w (replace_with o (result_values w.model q)) v r = subst (λ us. Performed keeps w (replace_with o us) v r) e h in
    record { pick = g.pick; could = λ _. tt; does = ap (λ z. settle keeps w (replace_by o q) g.pick (allowing keeps w (exchanging w.model o (result_values w.model q)) z)) (with_by w.model o q l) ∙ same (allowing keeps w (exchanging w.model o (result_values w.model q)) (with_refusal w.model o (result_values w.model q))) g.pick ∙ g.does }
  where
    same : (z : Option Refusal) (k : Pick) → settle keeps w (replace_by o q) k z ≡ settle keeps w (replace_with o (result_values w.model q)) k z
    same (Some f) k = refl
    same None k = refl
