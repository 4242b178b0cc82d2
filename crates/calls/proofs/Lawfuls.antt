-- The laws, for what each call does to the world.
use Rattle.std.proofs.Common.{◌≡◌, ℕ, Bool, true, false, ◌⊎◌, List, [], ◌++◌, is_some, Some, sym, ap, ◌∙◌, subst, inl, inr, append_assoc, append-nil}
use Rattle.std.proofs.lemmas.Bool.{cases_Bool, cases_eq}
use Rattle.slots.specs.Cells.{cell_at, under}
use Rattle.slots.proofs.CellLaws.{never}
use Rattle.lists.proofs.Edits.{some_of}
use Rattle.model.specs.declared.ids.OpId.{OpId}
use Rattle.model.specs.declared.ids.IRNode.{IRNode}
use Rattle.model.specs.declared.ids.IRNode.TheVariants as node
use Rattle.model.specs.Model.{Model, find_op, op_id}
use Rattle.model.specs.Sound.{Sound, Among}
use Rattle.model.specs.Erasing.{is_node, has_op, has_region, disowned, Closed, used_outside, erased}
use Rattle.model.specs.Later.{Later}
use Rattle.model.proofs.Sweeps.{nowhere_was}
use Rattle.model.proofs.Distincts.{among_left, among_right}
use Rattle.model.proofs.Meeting.{op_alive, op_is}
use Rattle.model.proofs.Erased.{erase_sound, op_kept}
use Rattle.model.proofs.Laters.{later_refl, later_trans, erased_later}
use Rattle.model.proofs.Lasting.{Lasts, some_under, erased_gone, same_op_lem}
use Rattle.calls.specs.declared.events.RecorderEvent.{RecorderEvent}
use Rattle.calls.specs.declared.events.RecorderEvent.TheVariants as event
use Rattle.calls.specs.World.{World, kept}
use Rattle.calls.specs.Perform.{erasing}
use Rattle.calls.specs.After.{Placed}
use Rattle.calls.specs.Laws.{Lawful}
use Rattle.calls.proofs.Outcomes.{kept_append}
use Rattle.calls.proofs.Exchanging.{Reused}

-- nothing happens
pub lawful_refl : (keeps : Bool) (w : World) → Sound w.model → Lawful keeps w w []
lawful_refl keeps w σ = record {
  sound = σ;
  later = later_refl w.model;
  records = none keeps;
  inserted = λ o p q. absurd (q p);
  gone = λ n l d. absurd (never (sym d ∙ l));
}
  where
    none : (keeps : Bool) → w.records ≡ w.records ++ kept keeps []
    none true = sym (append-nil w.records)
    none false = sym (append-nil w.records)

placed_dec : (m : Model) (o : OpId) → Placed m o ⊎ (Placed m o → ⊥)
placed_dec m o = elim (cases_Bool (is_some (find_op m o))) [
  | inl l ↦ elim (cases_Bool (is_some (m.home_of o.slot))) [ inl h ↦ inl (l, h) | inr h ↦ inr (λ p. never (sym h ∙ p.1)) ]
  | inr l ↦ inr (λ p. never (sym l ∙ p.0))
]

-- one thing after the other
pub lawful_trans : (keeps : Bool) (w v u : World) (es fs : List RecorderEvent) → Lawful keeps w v es → Lawful keeps v u fs → Lawful keeps w u (es ++ fs)
lawful_trans keeps w v u es fs p q = record {
  sound = q.sound;
  later = later_trans w.model v.model u.model p.later q.later;
  records = q.records ∙ ap (λ rs. rs ++ kept keeps fs) p.records ∙ append_assoc w.records (kept keeps es) (kept keeps fs) ∙ ap (λ rs. w.records ++ rs) (sym (kept_append keeps es fs));
  inserted = λ o h k. elim (placed_dec v.model o) [
    | inl l ↦ among_left (event.InsertedOperation o) es fs (p.inserted o l k)
    | inr l ↦ among_right (event.InsertedOperation o) es fs (q.inserted o h l)
  ];
  gone = λ n l d. elim (cases_Bool (is_node v.model n)) [
    | inl h ↦ among_right (erasing n) es fs (q.gone n h d)
    | inr h ↦ among_left (erasing n) es fs (p.gone n l h)
  ];
}

module _ (keeps : Bool) (w v : World) (es : List RecorderEvent) (σ : Sound w.model) (τ : Sound v.model) (later : Later w.model v.model) (lasts : Lasts w.model v.model)
    (records : v.records ≡ w.records ++ kept keeps es) where
  was_placed : (o : OpId) → is_some (find_op v.model o) ≡ true → is_some (w.model.home_of o.slot) ≡ true → Placed w.model o
  was_placed o l h =
      let b = some_of (w.model.home_of o.slot) h in
      let here = op_alive w.model σ o.slot (σ.op_in o.slot b.0 b.1).0 in
      (same_op_lem w.model v.model σ o b.0 b.1 (lasts (node.Operation (op_id w.model o.slot)) here) l, h)

  -- nothing goes, and nothing comes to lie in a block
  pub lawful_calm : ((t : ℕ) → is_some (v.model.home_of t) ≡ true → is_some (w.model.home_of t) ≡ true) → Lawful keeps w v es
  lawful_calm home = record {
    sound = τ;
    later = later;
    records = records;
    inserted = λ o p k. absurd (k (was_placed o p.0 (home o.slot p.1)));
    gone = λ n l d. absurd (never (sym d ∙ lasts n l));
  }

  -- nothing goes, and only the operation o comes to lie in a block
  pub lawful_placing : (o : OpId) → is_some (find_op w.model o) ≡ true → ((t : ℕ) → (t ≡ o.slot → ⊥) → is_some (v.model.home_of t) ≡ true → is_some (w.model.home_of t) ≡ true)
      → Among (event.InsertedOperation o) es → Lawful keeps w v es
  lawful_placing o live home told = record {
    sound = τ;
    later = later;
    records = records;
    inserted = λ q p k. elim (cases_eq q.slot o.slot) [
      | inl e ↦
          let same = op_is v.model τ q p.0 ∙ ap (op_id v.model) e ∙ sym (op_is v.model τ o (lasts (node.Operation o) live)) in
          subst (λ z. Among (event.InsertedOperation z) es) (sym same) told
      | inr ne ↦ absurd (k (was_placed q p.0 (home q.slot ne p.1)))
    ];
    gone = λ n l d. absurd (never (sym d ∙ lasts n l));
  }

-- a closed part goes, after what is used may have changed
pub lawful_erasing : (keeps : Bool) (w v : World) (es : List RecorderEvent) (m : Model) (ns : List IRNode) → Sound w.model → Reused w.model m → Sound m → Closed w.model ns
    → used_outside m ns ≡ false → v.model ≡ erased m ns → v.records ≡ w.records ++ kept keeps es → ((n : IRNode) → Among n ns → Among (erasing n) es) → Lawful keeps w v es
lawful_erasing keeps w v es m ns σ re τ cl unused is records told = record {
  sound = subst Sound (sym is) (erase_sound m ns τ here unused);
  later = subst (Later w.model) (sym is) (later_trans w.model m (erased m ns) re.later (erased_later m ns));
  records = records;
  inserted = λ o p k. absurd (k (placed o (subst (λ z. Placed z o) is p)));
  gone = λ n l d. told n (erased_gone m ns here n (re.lasts n l) (ap (λ z. is_node z n) (sym is) ∙ d));
}
  where
    here : Closed m ns
    here = re.closed ns cl

    placed : (o : OpId) → Placed (erased m ns) o → Placed w.model o
    placed o p =
        let s = o.slot in
        let t = some_of ((erased m ns).home_of s) p.1 in
        let was = nowhere_was (has_op ns) m.home_of s t.0 t.1 in
        let home : w.model.home_of s ≡ Some t.0 = sym (ap (λ f. f s) re.home) ∙ was.1 in
        let alive = op_alive w.model σ s (σ.op_in s t.0 home).0 in
        let g = (op_id w.model s).generation in
        let still : is_node (erased m ns) (node.Operation (op_id w.model s)) ≡ true =
        ap (λ c. is_some (under c g)) (op_kept m ns s was.0) ∙ some_under (disowned (has_region ns)) (cell_at m.ops s) g ∙ re.lasts (node.Operation (op_id w.model s)) alive in
        (same_op_lem w.model (erased m ns) σ o t.0 home still p.0, ap is_some home)
