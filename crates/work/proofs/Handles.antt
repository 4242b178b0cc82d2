-- The records of a batch, one after another.
use Rattle.std.proofs.Common.{◌≡◌, ℕ, Bool, true, false, List, [], ◌∷◌, is_some, Some, None, Ok, Err, Option, unwrap_or, sym, refl, ap, ◌∙◌}
use Rattle.std.proofs.lemmas.Bool.{both_ways}
use Rattle.model.specs.declared.ids.OpId.{OpId}
use Rattle.model.specs.declared.ids.BlockId.{BlockId}
use Rattle.calls.specs.declared.events.RecorderEvent.{RecorderEvent}
use Rattle.calls.specs.declared.events.RecorderEvent.TheVariants as event
use Rattle.law.specs.Machine.{Moment}
use Rattle.rules_next.specs.declared.interface.Fault.{Fault}
use Rattle.rules_next.specs.declared.interface.Fault.TheVariants as fault
use Rattle.rules_next.specs.Meaning.{Meaning}
use Rattle.rules.specs.Histories.{History, recorded, live_only}
use Rattle.rules.specs.Setting.{Env, inserted}
use Rattle.rules_next.specs.Setting.{real}
use Rattle.rules.specs.Driver.{Memory, Room, model_of, with_histories, with_states}
use Rattle.rules_next.specs.Driver.{Load, Handled, mark_all_erased, fine, stops, onward, and_then, keep_types, record_types, meet_nodes, forget_dead, handle}
use Rattle.work.specs.declared.work.Work.{Work}
use Rattle.work.specs.Work.{memory_of, room_of, load_of, Leaves}
use Rattle.work.specs.Batches.{Recorded, kept_or, record_all}

-- what is read past the end of a list of records
abbrev pub zero_event : RecorderEvent
zero_event = event.InsertedOperation (record { slot = 0; generation = 0 })

-- a record that would pass a limit ends it, another is followed by the rest
pub record_stops : (hs : List History) (e : RecorderEvent) (es : List RecorderEvent) → is_some (recorded hs e) ≡ false → record_all hs (e ∷ es) ≡ record { histories = hs; all = false }
record_stops hs e es h = at (recorded hs e) h
  where
    at : (q : Option (List History)) → is_some q ≡ false → kept_or hs q (λ ks. record_all ks es) ≡ record { histories = hs; all = false }
    at None k = refl
    at (Some ks) k = absurd (both_ways true k refl)

pub record_goes : (hs : List History) (e : RecorderEvent) (es : List RecorderEvent) → is_some (recorded hs e) ≡ true → record_all (unwrap_or (recorded hs e) hs) es ≡ record_all hs (e ∷ es)
record_goes hs e es h = at (recorded hs e) h
  where
    at : (q : Option (List History)) → is_some q ≡ true → record_all (unwrap_or q hs) es ≡ kept_or hs q (λ ks. record_all ks es)
    at None k = absurd (both_ways false refl k)
    at (Some ks) k = refl

pub none_kept : (hs : List History) (q : Option (List History)) → is_some q ≡ false → unwrap_or q hs ≡ hs
none_kept hs None k = refl
none_kept hs (Some ks) k = absurd (both_ways true k refl)

module _ {C : Type 0} (M : Meaning C) where
  abbrev limit : Bool → Option Fault
  limit true = None
  limit false = Some fault.HistoryFull

  abbrev told : Memory → ℕ → List (Moment (real M)) → Recorded → Handled M
  told y q ms d = record { load = load_of M (with_histories y d.histories) q ms; fault = limit d.all }

  -- the rules keep the same histories
  types_all : (es : List RecorderEvent) (y : Memory) (q : ℕ) (ms : List (Moment (real M))) → record_types M (load_of M y q ms) es ≡ told y q ms (record_all y.histories es)
  types_all [] y q ms = refl
  types_all (e ∷ es) y q ms = at (recorded y.histories e) (λ ks. types_all es (with_histories y ks) q ms)
    where
      at : (o : Option (List History)) → ((ks : List History) → record_types M (load_of M (with_histories y ks) q ms) es ≡ told y q ms (record_all ks es))
          → and_then M (keep_types M (load_of M y q ms) o) (λ k. record_types M k es) ≡ told y q ms (kept_or y.histories o (λ ks. record_all ks es))
      at None more = refl
      at (Some ks) more = more ks

  module _ (e : Env C) (room : Room) (hand : Option OpId) (es : List RecorderEvent) (y z : Memory) (hs : List History) (q : ℕ) where
    abbrev marked : Memory
    marked = with_states y (mark_all_erased (model_of e) y.states es)

    abbrev rest : Load M → Handled M
    rest k = and_then M (meet_nodes M e room hand k (inserted es)) (λ j. fine M (forget_dead M (model_of e) j))

    to_told : (ms : List (Moment (real M))) → handle M e room hand (load_of M y q ms) es ≡ and_then M (told marked q ms (record_all y.histories es)) rest
    to_told ms = ap (λ (h : Handled M). and_then M h rest) (types_all es marked q ms)

    pub handle_full : (ms : List (Moment (real M))) → (record_all y.histories es).all ≡ false → z ≡ with_histories marked (record_all y.histories es).histories
        → handle M e room hand (load_of M y q ms) es ≡ stops M (load_of M z q ms) fault.HistoryFull
    handle_full ms a d =
        to_told ms ∙ ap (λ b. onward M (limit b) (told marked q ms (record_all y.histories es)).load rest) a ∙ (λ i. stops M (load_of M (sym d i) q ms) fault.HistoryFull)

    pub handle_on : (ms : List (Moment (real M))) → (record_all y.histories es).all ≡ true → z ≡ with_histories marked (record_all y.histories es).histories
        → handle M e room hand (load_of M y q ms) es ≡ and_then M (meet_nodes M e room hand (load_of M z q ms) (inserted es)) (λ j. fine M (forget_dead M (model_of e) j))
    handle_on ms a d =
        to_told ms ∙ ap (λ b. onward M (limit b) (told marked q ms (record_all y.histories es)).load rest) a ∙ (λ i. rest (load_of M (sym d i) q ms))

-- the whole batch, from its parts
module _ {C : Type 0} (M : Meaning C) (e : Env C) (hand : Option OpId) (es : List RecorderEvent) (k k₁ : Work) (xs : List OpId) (ys : List BlockId) (hs hs₁ : List History) (q : ℕ)
    (same : memory_of k₁ xs ys hs₁ ≡ with_histories (with_states (memory_of k xs ys hs) (mark_all_erased (model_of e) (memory_of k xs ys hs).states es)) (record_all hs es).histories) where
  pub batch_full : (record_all hs es).all ≡ false → Leaves (λ ms. handle M e (room_of xs ys) hand (load_of M (memory_of k xs ys hs) q ms) es) (memory_of k₁ xs ys hs₁) q (Err fault.HistoryFull)
  batch_full a =
      let h : (ms : List (Moment (real M))) → handle M e (room_of xs ys) hand (load_of M (memory_of k xs ys hs) q ms) es ≡ stops M (load_of M (memory_of k₁ xs ys hs₁) q ms) fault.HistoryFull =
      λ ms. handle_full M e (room_of xs ys) hand es (memory_of k xs ys hs) (memory_of k₁ xs ys hs₁) hs q ms a same in
      record {
        memory = λ ms. ap (λ (x : Handled M). x.load.memory) (h ms);
        queued = λ ms. ap (λ (x : Handled M). x.load.queued) (h ms);
        fault = λ ms. ap (λ (x : Handled M). x.fault) (h ms);
      }

  module _ (a : (record_all hs es).all ≡ true) (k' : Work) (xs' : List OpId) (ys' : List BlockId) (q' : ℕ) where
    goes : (ms : List (Moment (real M))) → handle M e (room_of xs ys) hand (load_of M (memory_of k xs ys hs) q ms) es
        ≡ and_then M (meet_nodes M e (room_of xs ys) hand (load_of M (memory_of k₁ xs ys hs₁) q ms) (inserted es)) (λ j. fine M (forget_dead M (model_of e) j))
    goes ms = handle_on M e (room_of xs ys) hand es (memory_of k xs ys hs) (memory_of k₁ xs ys hs₁) hs q ms a same

    pub batch_stops : (f : Fault) → Leaves (λ ms. meet_nodes M e (room_of xs ys) hand (load_of M (memory_of k₁ xs ys hs₁) q ms) (inserted es)) (memory_of k' xs' ys' hs₁) q' (Err f)
        → Leaves (λ ms. handle M e (room_of xs ys) hand (load_of M (memory_of k xs ys hs) q ms) es) (memory_of k' xs' ys' hs₁) q' (Err f)
    batch_stops f l =
        let h : (ms : List (Moment (real M))) → handle M e (room_of xs ys) hand (load_of M (memory_of k xs ys hs) q ms) es
        ≡ stops M (meet_nodes M e (room_of xs ys) hand (load_of M (memory_of k₁ xs ys hs₁) q ms) (inserted es)).load f =
        λ ms. goes ms ∙ ap (λ g. onward M g (meet_nodes M e (room_of xs ys) hand (load_of M (memory_of k₁ xs ys hs₁) q ms) (inserted es)).load (λ j. fine M (forget_dead M (model_of e) j))) (l.fault ms) in
        record {
          memory = λ ms. ap (λ (x : Handled M). x.load.memory) (h ms) ∙ l.memory ms;
          queued = λ ms. ap (λ (x : Handled M). x.load.queued) (h ms) ∙ l.queued ms;
          fault = λ ms. ap (λ (x : Handled M). x.fault) (h ms);
        }

    pub batch_ends : (hs' : List History) → hs' ≡ live_only (model_of e) hs₁ → Leaves (λ ms. meet_nodes M e (room_of xs ys) hand (load_of M (memory_of k₁ xs ys hs₁) q ms) (inserted es)) (memory_of k' xs' ys' hs₁) q' (Ok tt)
        → Leaves (λ ms. handle M e (room_of xs ys) hand (load_of M (memory_of k xs ys hs) q ms) es) (memory_of k' xs' ys' hs') q' (Ok tt)
    batch_ends hs' d l =
        let h : (ms : List (Moment (real M))) → handle M e (room_of xs ys) hand (load_of M (memory_of k xs ys hs) q ms) es
        ≡ fine M (forget_dead M (model_of e) (meet_nodes M e (room_of xs ys) hand (load_of M (memory_of k₁ xs ys hs₁) q ms) (inserted es)).load) =
        λ ms. goes ms ∙ ap (λ g. onward M g (meet_nodes M e (room_of xs ys) hand (load_of M (memory_of k₁ xs ys hs₁) q ms) (inserted es)).load (λ j. fine M (forget_dead M (model_of e) j))) (l.fault ms) in
        record {
          memory = λ ms. ap (λ (x : Handled M). x.load.memory) (h ms) ∙ ap (λ (y : Memory). with_histories y (live_only (model_of e) y.histories)) (l.memory ms) ∙ ap (λ zs. memory_of k' xs' ys' zs) (sym d);
          queued = λ ms. ap (λ (x : Handled M). x.load.queued) (h ms) ∙ l.queued ms;
          fault = λ ms. ap (λ (x : Handled M). x.fault) (h ms);
        }
