-- A batch asks of its surroundings only the store and the conversion.
use Rattle.std.proofs.Common.{◌≡◌, List, [], ◌∷◌, Option, refl, ap, ◌∙◌}
use Rattle.model.specs.declared.ids.OpId.{OpId}
use Rattle.model.specs.declared.ids.IRNode.{IRNode}
use Rattle.model.specs.declared.ids.IRNode.TheVariants as node
use Rattle.model.specs.declared.points.OpInsertionPoint.{OpInsertionPoint}
use Rattle.model.specs.Model.{Model}
use Rattle.calls.specs.declared.events.RecorderEvent.{RecorderEvent}
use Rattle.rules_next.specs.Meaning.{Meaning}
use Rattle.rules.specs.Setting.{Env, inserted}
use Rattle.rules.specs.Driver.{Room, with_states}
use Rattle.rules_next.specs.Driver.{Load, Handled, mark_all_erased, fine, and_then, record_types, meet_node, meet_nodes, forget_dead, handle}
use Rattle.states.specs.Due.{at}

module _ {C : Type 0} (M : Meaning C) (m : Model) (c : C) (p : OpInsertionPoint) (es : List RecorderEvent) (room : Room) (hand : Option OpId) where
  abbrev here : Env C
  here = record { world = record { model = m; point = p; records = es }; value = c }

  one : (l : Load M) (n : IRNode) → meet_node M here room hand l n ≡ meet_node M (at m c) room hand l n
  one l (node.Operation o) = refl
  one l (node.BasicBlock b) = refl
  one l (node.Region r) = refl

  all : (l : Load M) (ns : List IRNode) → meet_nodes M here room hand l ns ≡ meet_nodes M (at m c) room hand l ns
  all l [] = refl
  all l (n ∷ ns) =
      ap (λ (h : Handled M). and_then M h (λ k. meet_nodes M here room hand k ns)) (one l n)
      ∙ (λ i. and_then M (meet_node M (at m c) room hand l n) (λ k. all k ns i))

  pub handle_here : (l : Load M) (fs : List RecorderEvent) → handle M (record { world = record { model = m; point = p; records = es }; value = c }) room hand l fs ≡ handle M (at m c) room hand l fs
  handle_here l fs =
      λ i. and_then M (record_types M (record { memory = with_states l.memory (mark_all_erased m l.memory.states fs); queued = l.queued; moments = l.moments }) fs)
      (λ k. and_then M (all k (inserted fs) i) (λ j. fine M (forget_dead M m j)))
