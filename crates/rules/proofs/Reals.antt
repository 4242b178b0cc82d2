-- The store and a conversion have what the law needs.
use Rattle.std.proofs.Common.{◌≡◌, ℕ, ◌≤◌, Bool, true, false, cond, eqb, ◌⊎◌, List, [], ◌∷◌, ◌++◌, length, is_some, Some, None, sym, refl, ap, ◌∙◌, subst, inl, inr, arith}
use Rattle.std.proofs.lemmas.List.{length-append}
use Rattle.std.proofs.lemmas.Bool.{eqb-true, eq-eqb, and_parts, and_from}
use Rattle.std.specs.List.{flat_map}
use Rattle.slots.specs.Cells.{Cell}
use Rattle.slots.specs.Cells.{Free, Live, Spent}
use Rattle.slots.specs.Cells.{cell_at, under}
use Rattle.slots.proofs.CellLaws.{found_is_live, live_within}
use Rattle.model.specs.declared.ids.OpId.{OpId}
use Rattle.model.specs.declared.ids.Value.{Value}
use Rattle.model.specs.declared.ids.DefiningEntity.{DefiningEntity}
use Rattle.model.specs.declared.ids.DefiningEntity.TheVariants as definer
use Rattle.model.specs.declared.ids.IRNode.{IRNode}
use Rattle.model.specs.declared.ids.IRNode.TheVariants as node
use Rattle.model.specs.Model.{Model, Operation, find_op}
use Rattle.model.specs.Sound.{Sound, Among}
use Rattle.model.specs.Erasing.{is_node, operands_of}
use Rattle.model.specs.Later.{Dead, Later}
use Rattle.model.proofs.Past.{past_not_node}
use Rattle.model.proofs.Lives.{same_generation}
use Rattle.model.proofs.Laters.{later_refl}
use Rattle.calls.specs.declared.events.RecorderEvent.{RecorderEvent}
use Rattle.calls.specs.declared.events.RecorderEvent.TheVariants as event
use Rattle.calls.specs.World.{World, Call, Pick, set_type}
use Rattle.calls.specs.After.{after, trails, CouldAll}
use Rattle.calls.specs.Laws.{Lawful}
use Rattle.calls.proofs.Performing.{lawful_call, lawful_calls}
use Rattle.law.specs.Lists.{In}
use Rattle.law.specs.Setting.{Setting}
use Rattle.law.specs.Laws.{Laws}
use Rattle.rules.specs.Meaning.{Meaning}
use Rattle.rules.specs.Setting.{Env, same_op, in_graph, definer_of, definers_of, definers_in, taken_out, aimed, block_erased, inserted_by, inserted, op_of, ops_among, FewIn, Sized, Good, Rewrites, Retypes, real}
use Rattle.rules.proofs.Sizes.{sized_call, sized_calls}
use Rattle.rules.proofs.Recorded.{Stands, stand_calls}

pub same_is : (x y : OpId) → same_op x y ≡ true → x ≡ y
same_is x y h =
    let both = and_parts (eqb x.slot y.slot) (eqb x.generation y.generation) h in
    λ i. record { slot = eqb-true x.slot y.slot both.0 i; generation = eqb-true x.generation y.generation both.1 i }

pub same_self : (x : OpId) → same_op x x ≡ true
same_self x = and_from (eqb x.slot x.slot) (eqb x.generation x.generation) (eq-eqb x.slot x.slot refl) (eq-eqb x.generation x.generation refl)

one_definer : (m : Model) (d : DefiningEntity) → length (definer_of m d) ≤ 1
one_definer m (definer.Op o) = at (in_graph m o.slot)
  where
    at : (b : Bool) → length (cond b [] (o ∷ [])) ≤ 1
    at true = omega arith
    at false = omega arith
one_definer m (definer.Block b) = omega arith

pub few_definers : (m : Model) (vs : List Value) → length (definers_of m vs) ≤ length vs
few_definers m [] = omega arith
few_definers m (v ∷ vs) = omega (arith, one_definer m v.definer, few_definers m vs, length-append (definer_of m v.definer) (definers_of m vs))

pub few_under : (c : Cell Operation) (g : ℕ) → FewIn c → length (operands_of (under c g)) ≤ 8
few_under (Free k) g h = omega arith
few_under (Live k x) g h = at (eqb k g)
  where
    at : (b : Bool) → length (operands_of (cond b (Some x) None)) ≤ 8
    at true = h
    at false = omega arith
few_under Spent g h = omega arith

-- a record names each operation that was inserted
skips : (y : OpId) (b : Bool) (n : IRNode) (ns : List IRNode) (P : Type 0) → op_of n ≡ [] → (In y (ops_among ns) → P) → In y (ops_among (cond b [] (n ∷ []) ++ ns)) → P
skips y true n ns P e k i = k i
skips y false n ns P e k i = k (subst (λ os. In y (os ++ ops_among ns)) e i)

pub inserted_among : (y : OpId) (all es : List RecorderEvent) → In y (ops_among (flat_map (inserted_by all) es)) → Among (event.InsertedOperation y) es
inserted_among y all [] i = absurd i
inserted_among y all (event.InsertedOperation o ∷ es) (inl q) = inl (ap event.InsertedOperation q)
inserted_among y all (event.InsertedOperation o ∷ es) (inr i) = inr (inserted_among y all es i)
inserted_among y all (event.InsertedBlock b ∷ es) i = inr (skips y (block_erased all b) (node.BasicBlock b) (flat_map (inserted_by all) es) (Among (event.InsertedOperation y) es) refl (inserted_among y all es) i)
inserted_among y all (event.ErasedOperation o ∷ es) i = inr (inserted_among y all es i)
inserted_among y all (event.ErasedBlock b ∷ es) i = inr (inserted_among y all es i)
inserted_among y all (event.ErasedRegion r ∷ es) i = inr (inserted_among y all es i)
inserted_among y all (event.ReplacedValueUses v t u ∷ es) i = inr (inserted_among y all es i)
inserted_among y all (event.ValueTypeChanged v t u ∷ es) i = inr (inserted_among y all es i)
inserted_among y all (event.UnlinkedOperation o p ∷ es) i = inr (inserted_among y all es i)

-- what a step does to the store
pub record Leads (m n : Model) : Type 0 where
  pub sound : Sound n
  pub sized : Sized n
  pub later : Later m n

-- A rewrite by calls of the rewriter, however they were chosen.
pub record ByCalls {C : Type 0} (e : Env C) (x : OpId) (d : Env C) (is : List OpId) : Type 0 where
  pub calls : List Call
  pub picks : List Pick
  pub left : World
  pub could : CouldAll true (aimed e.world x) calls picks
  pub leaves : left ≡ (after true (aimed e.world x) calls picks).world
  pub out : d.world ≡ taken_out left
  pub inserts : is ≡ ops_among (inserted left.records)

module _ {C : Type 0} where
  left_lawful : (e : Env C) (x : OpId) (d : Env C) (is : List OpId) → Good e → (r : ByCalls e x d is) → Lawful true (aimed e.world x) r.left (trails true (aimed e.world x) r.calls r.picks)
  left_lawful e x d is ok r =
      subst (λ v. Lawful true (aimed e.world x) v (trails true (aimed e.world x) r.calls r.picks)) (sym r.leaves)
      (lawful_calls true (aimed e.world x) r.calls r.picks ok.sound r.could)

  -- the records are those of the rewrite alone
  pub left_records : (e : Env C) (x : OpId) (d : Env C) (is : List OpId) → Good e → (r : ByCalls e x d is) → r.left.records ≡ trails true (aimed e.world x) r.calls r.picks
  left_records e x d is ok r =
      (left_lawful e x d is ok r).records ∙ ap (λ rs. rs ++ trails true (aimed e.world x) r.calls r.picks) ok.clear

  pub calls_lead : (e : Env C) (x : OpId) (d : Env C) (is : List OpId) → Good e → ByCalls e x d is → Leads e.world.model d.world.model
  calls_lead e x d is ok r =
      let l = left_lawful e x d is ok r in
      let z = sized_calls true (aimed e.world x) r.calls r.picks ok.sound r.could ok.sized in
      subst (λ (v : World). Leads e.world.model v.model) (sym r.out) (record {
        sound = l.sound;
        sized = subst (λ (v : World). Sized v.model) (sym r.leaves) z;
        later = l.later;
      })

  -- what its records tell
  pub calls_stand : (e : Env C) (x : OpId) (d : Env C) (is : List OpId) → Good e → (r : ByCalls e x d is) → (v : RecorderEvent) → Among v r.left.records → Stands r.left.model v
  calls_stand e x d is ok r v i =
      subst (λ (u : World). Stands u.model v) (sym r.leaves)
      (stand_calls true (aimed e.world x) r.calls r.picks ok.sound r.could v (subst (Among v) (left_records e x d is ok r) i))

  pub retype_leads : (e d : Env C) → Good e → (d.world ≡ e.world) ⊎ Retypes e.world d.world → Leads e.world.model d.world.model
  retype_leads e d ok (inl q) = subst (λ (v : World). Leads e.world.model v.model) (sym q) (record { sound = ok.sound; sized = ok.sized; later = later_refl e.world.model })
  retype_leads e d ok (inr r) =
      let l = lawful_call true e.world (set_type r.value r.type) r.pick ok.sound (λ _. tt) in
      subst (λ (v : World). Leads e.world.model v.model) (sym r.leaves) (record { sound = l.sound; sized = sized_call true e.world (set_type r.value r.type) r.pick ok.sound (λ _. tt) ok.sized; later = l.later })

  clear_retype : (e d : Env C) → Good e → (d.world ≡ e.world) ⊎ Retypes e.world d.world → d.world.records ≡ []
  clear_retype e d ok (inl q) = ap (λ (v : World). v.records) q ∙ ok.clear
  clear_retype e d ok (inr r) = ap (λ (v : World). v.records) r.leaves

-- what the law is about, for any rewrites
abbrev pub store_setting : {C : Type 0} → (C → Model → OpId → Bool) → (Env C → OpId → Env C → List OpId → Type 0) → Setting
store_setting {C} can R = record {
  Op = OpId;
  same = same_op;
  Env = Env C;
  Good = Good;
  live = λ e x. is_some (find_op e.world.model x);
  convertible = λ e x. can e.value e.world.model x;
  definers = λ e x. definers_in e.world.model x;
  Rewrite = R;
  Retype = λ e d. (d.world ≡ e.world) ⊎ Retypes e.world d.world;
}

-- rewrites that go by calls
module _ {C : Type 0} (can : C → Model → OpId → Bool) (R : Env C → OpId → Env C → List OpId → Type 0) (by : (e : Env C) (x : OpId) (d : Env C) (is : List OpId) → R e x d is → ByCalls e x d is) where
  pub store_laws : Laws (store_setting can R)
  store_laws = record {
    same_is = same_is;
    same_self = same_self;
    Gone = λ e y. Dead e.world.model (node.Operation y);
    gone_dead = λ e x g. past_not_node e.world.model (node.Operation x) g;
    definers_few = λ e x ok l.
        let m = e.world.model in
        omega (arith, few_definers m (operands_of (find_op m x)), few_under (cell_at m.ops x.slot) x.generation (ok.sized.operands x.slot));
    slot = λ x. x.slot;
    slot_small = λ e x ok l. omega (arith, live_within e.world.model.ops x.slot (found_is_live e.world.model.ops x.slot x.generation l), ok.sized.slots);
    slot_one = λ e x y ok l k q.
        let g = same_generation e.world.model.ops x.slot y.slot x.generation y.generation q l k in
        λ i. record { slot = q i; generation = g i };
    rewrite_good = λ e x d is ok r. let l = calls_lead e x d is ok (by e x d is r) in record { sound = l.sound; sized = l.sized; clear = ap (λ (v : World). v.records) (by e x d is r).out };
    rewrite_gone = λ e x d is ok r y g. (calls_lead e x d is ok (by e x d is r)).later.gone (node.Operation y) g;
    rewrite_live = λ e x d is ok r y l. (calls_lead e x d is ok (by e x d is r)).later.once (node.Operation y) l;
    rewrite_inserted = λ e x d is ok r y i.
        subst (λ (v : World). (is_node v.model (node.Operation y) ≡ true) ⊎ Dead v.model (node.Operation y)) (sym (by e x d is r).out)
        (calls_stand e x d is ok (by e x d is r) (event.InsertedOperation y) (inserted_among y (by e x d is r).left.records (by e x d is r).left.records (subst (In y) (by e x d is r).inserts i)));
    retype_good = λ e d ok r. let l = retype_leads e d ok r in record { sound = l.sound; sized = l.sized; clear = clear_retype e d ok r };
    retype_gone = λ e d ok r y g. (retype_leads e d ok r).later.gone (node.Operation y) g;
    retype_live = λ e d ok r y l. (retype_leads e d ok r).later.once (node.Operation y) l;
  }

module _ {C : Type 0} (M : Meaning C) where
  abbrev pub by_calls : (e : Env C) (x : OpId) (d : Env C) (is : List OpId) → Rewrites M e x d is → ByCalls e x d is
  by_calls e x d is r = record {
    calls = (M.rewrite e.value (aimed e.world x) x r.histories r.picks).calls;
    picks = r.picks;
    left = r.left;
    could = r.rewrote.could;
    leaves = r.rewrote.leaves;
    out = r.out;
    inserts = r.inserts;
  }

  pub rewrite_leads : (e : Env C) (x : OpId) (d : Env C) (is : List OpId) → Good e → Rewrites M e x d is → Leads e.world.model d.world.model
  rewrite_leads e x d is ok r = calls_lead e x d is ok (by_calls e x d is r)

  -- what its records tell
  pub left_stands : (e : Env C) (x : OpId) (d : Env C) (is : List OpId) → Good e → (r : Rewrites M e x d is) → (v : RecorderEvent) → Among v r.left.records → Stands r.left.model v
  left_stands e x d is ok r v i = calls_stand e x d is ok (by_calls e x d is r) v i

  pub laws : Laws (real M)
  laws = store_laws M.can_op (Rewrites M) by_calls
