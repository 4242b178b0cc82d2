-- Telling of nodes that are erased, and the ways out of erasing.
use Rattle.std.proofs.Common.{◌≡◌, ℕ, ◌+◌, ◌<◌, Bool, true, false, cond, List, [], ◌∷◌, ◌++◌, map, length, take, Some, None, sym, refl, ap, ◌∙◌, append_assoc, arith}
use Rattle.std.proofs.lemmas.List.{length-map, length-take-le, map-append}
use Rattle.model.specs.declared.ids.IRNode.{IRNode}
use Rattle.model.specs.declared.refusal.Refusal.TheVariants.{NotLive, StillUsed, RecordsFull}
use Rattle.model.specs.Model.{Model}
use Rattle.model.specs.Erasing.{is_node, part_of, PartListed, used_outside, erased, erase_refusal}
use Rattle.calls.specs.declared.events.RecorderEvent.{RecorderEvent}
use Rattle.calls.specs.World.{World, erase, done, refused, kept, fits}
use Rattle.calls.specs.Perform.{erasing, Performed}
use Rattle.calls.proofs.Outcomes.{kept_append, fits_list, fits_fewer, performed_refused}
use Rattle.rewriter.proofs.Ways.{none_picked, known_full, known_done}

-- while not all are told there is room for one more
pub room_more : (keeps : Bool) (es : List RecorderEvent) (ns : List IRNode) (i : ℕ) → i < length ns → fits keeps es (length ns) ≡ true → fits keeps (es ++ kept keeps (map erasing (take i ns))) 1 ≡ true
room_more keeps es ns i l h = fits_list keeps es (map erasing (take i ns)) 1 (fits_fewer keeps es (length ns) (length (map erasing (take i ns)) + 1) (omega (arith, length-map (take i ns) erasing, length-take-le i ns (omega arith))) h)

pub told_more : (keeps : Bool) (es : List RecorderEvent) (ns : List IRNode) (n : IRNode)
    → (es ++ kept keeps (map erasing ns)) ++ kept keeps (erasing n ∷ []) ≡ es ++ kept keeps (map erasing (ns ++ n ∷ []))
told_more keeps es ns n =
    append_assoc es (kept keeps (map erasing ns)) (kept keeps (erasing n ∷ []))
    ∙ ap (λ fs. es ++ fs) (sym (kept_append keeps (map erasing ns) (erasing n ∷ [])) ∙ ap (kept keeps) (sym (map-append erasing ns (n ∷ []))))

pub erase_refused : (m : Model) (n : IRNode) → is_node m n ≡ false → erase_refusal m n ≡ Some NotLive
erase_refused m n e = ap (λ b. cond b (cond (used_outside m (part_of m n)) (Some StillUsed) None) (Some NotLive)) e

-- the nodes ns are the part of n
module _ (keeps : Bool) (w : World) (n : IRNode) (ns : List IRNode) (p : PartListed w.model n ns) where
  erase_either : (b : Bool) → b ≡ used_outside w.model ns → erase_refusal w.model n ≡ cond b (Some StillUsed) None
  erase_either b e =
      ap (λ b. cond b (cond (used_outside w.model (part_of w.model n)) (Some StillUsed) None) (Some NotLive)) p.allowed
      ∙ ap (λ ks. cond (used_outside w.model ks) (Some StillUsed) None) (sym p.nodes)
      ∙ ap (λ b. cond b (Some StillUsed) None) (sym e)

  pub erase_used : true ≡ used_outside w.model ns → Performed keeps w (erase n) w (refused StillUsed)
  erase_used e = performed_refused keeps w (erase n) StillUsed (erase_either true e)

  module _ (e : false ≡ used_outside w.model ns) where
    pub erase_full : fits keeps w.records (length ns) ≡ false → Performed keeps w (erase n) w (refused RecordsFull)
    erase_full f = known_full keeps w (erase n) none_picked (erase_either false e) (map erasing ns) (ap (map erasing) (sym p.nodes)) (ap (fits keeps w.records) (length-map ns erasing) ∙ f)

    pub erase_done : fits keeps w.records (length ns) ≡ true → (v : World) → v.model ≡ erased w.model ns → v.point ≡ w.point → v.records ≡ w.records ++ kept keeps (map erasing ns) → Performed keeps w (erase n) v done
    erase_done f v model point records =
        known_done keeps w (erase n) none_picked (erase_either false e) (map erasing ns) (ap (map erasing) (sym p.nodes)) (ap (fits keeps w.records) (length-map ns erasing) ∙ f) tt v
        (model ∙ ap (erased w.model) p.nodes) point records done refl
