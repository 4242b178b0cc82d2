-- Whether an operation lies in a graph region, as the readers of a store tell it.
use Rattle.std.proofs.Common.{◌≡◌, ℕ, Bool, true, false, ◌&&◌, eqb, is_some, Some, None, Option, refl, ap, ◌∙◌}
use Rattle.std.specs.Option.{MatchOption, option_map, unwrap_or}
use Rattle.std.proofs.lemmas.Bool.{eq-eqb, cond-true, both_ways}
use Rattle.slots.specs.Cells.{Cell, Free, Live, Spent, cell_at, is_live, live_of, under, holds}
use Rattle.model.specs.declared.ids.OpId.{OpId}
use Rattle.model.specs.declared.ids.BlockId.{BlockId}
use Rattle.model.specs.declared.ids.RegionId.{RegionId}
use Rattle.model.specs.declared.ids.Region.{Region}
use Rattle.model.specs.Model.{Model, Operation, find_op, find_region, block_id, region_id, parent_block_of, parent_region_of, bind, whether}
use Rattle.model.specs.Sound.{Sound}
use Rattle.rules.specs.Setting.{is_graph, in_graph}

abbrev graph_or : Option Bool → Bool
graph_or g = unwrap_or g false

abbrev on_region : Model → Option RegionId → Bool
on_region m None = false
on_region m (Some r) = graph_or (option_map (λ (x : Region). x.graph) (find_region m r))

abbrev on_block : Model → Option BlockId → Bool
on_block m None = false
on_block m (Some b) = on_region m (parent_region_of m b)

-- what the readers tell, one after another
abbrev pub read_graph : Model → OpId → Bool
read_graph m o = on_block m (parent_block_of m o)

under_live : {X : Type 0} (c : Cell X) → under c (live_of c) ≡ holds c
under_live (Free g) = refl
under_live (Live g x) = cond-true (eqb g g) (Some x) None (eq-eqb g g refl)
under_live Spent = refl

live_holds : {X : Type 0} (c : Cell X) → is_live c ≡ true → is_some (holds c) ≡ true
live_holds (Free g) h = h
live_holds (Live g x) h = refl
live_holds Spent h = h

graph_mapped : (q : Option Region) → graph_or (option_map (λ (x : Region). x.graph) q) ≡ is_graph q
graph_mapped None = refl
graph_mapped (Some r) = refl

bind_some : {X Y : Type 0} (q : Option X) (r : Option Y) → is_some q ≡ true → bind q (λ _. r) ≡ r
bind_some None r h = absurd (both_ways false refl h)
bind_some (Some x) r h = refl

module _ (m : Model) (s : Sound m) where
  at_region : (q : Option ℕ) → on_region m (option_map (region_id m) q) ≡ whether q (λ r. is_graph (holds (cell_at m.regions r)))
  at_region None = refl
  at_region (Some r) = ap (λ z. graph_or (option_map (λ (x : Region). x.graph) z)) (under_live (cell_at m.regions r)) ∙ graph_mapped (holds (cell_at m.regions r))

  at_block : (o : ℕ) (q : Option ℕ) → m.home_of o ≡ q → on_block m (option_map (block_id m) q) ≡ whether q (λ b. whether (m.place_of b) (λ r. is_graph (holds (cell_at m.regions r))))
  at_block o None e = refl
  at_block o (Some b) e =
      let l = ap is_some (under_live (cell_at m.blocks b)) ∙ live_holds (cell_at m.blocks b) (s.op_in o b e).1 in
      ap (on_region m) (bind_some (under (cell_at m.blocks b) (live_of (cell_at m.blocks b))) (option_map (region_id m) (m.place_of b)) l) ∙ at_region (m.place_of b)

  pub read_graph_lem : (o : OpId) → read_graph m o ≡ (is_some (find_op m o) && in_graph m o.slot)
  read_graph_lem o = go (find_op m o)
    where
      go : (q : Option Operation) → on_block m (bind q (λ _. option_map (block_id m) (m.home_of o.slot))) ≡ (is_some q && in_graph m o.slot)
      go None = refl
      go (Some x) = at_block o.slot (m.home_of o.slot) refl

-- what is known of the option's item may be weakened
pub weaker : {X : Type 0} (P : Type 0) (A B : X → Type 0) (q : Option X) → ((x : X) → A x → B x) → MatchOption q P A → MatchOption q P B
weaker P A B None f h = h
weaker P A B (Some x) f h = f x h

-- the readers' answers, one from the other
pub read_steps : (m : Model) (o : OpId) (q : Option BlockId) (r : Option RegionId) (g : Option Bool) → q ≡ parent_block_of m o → MatchOption q (r ≡ None) (λ b. r ≡ parent_region_of m b)
    → MatchOption r (g ≡ None) (λ x. g ≡ option_map (λ (y : Region). y.graph) (find_region m x)) → unwrap_or g false ≡ read_graph m o
read_steps m o q r g e h k = last r g k ∙ middle q r h ∙ ap (on_block m) e
  where
    last : (r : Option RegionId) (g : Option Bool) → MatchOption r (g ≡ None) (λ x. g ≡ option_map (λ (y : Region). y.graph) (find_region m x)) → unwrap_or g false ≡ on_region m r
    last None g k = ap graph_or k
    last (Some x) g k = ap graph_or k

    middle : (q : Option BlockId) (r : Option RegionId) → MatchOption q (r ≡ None) (λ b. r ≡ parent_region_of m b) → on_region m r ≡ on_block m q
    middle None r h = ap (on_region m) h
    middle (Some b) r h = ap (on_region m) h
