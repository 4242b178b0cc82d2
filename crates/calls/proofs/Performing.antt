-- Each call keeps the laws, and so does a list of them.
use Rattle.std.proofs.Common.{◌≡◌, ℕ, Bool, true, false, cond, eqb, List, [], ◌∷◌, map, is_some, Some, None, Option, sym, refl, ap, ◌∙◌, subst, inl, inr, arith}
use Rattle.std.proofs.lemmas.Bool.{cases_eq}
use Rattle.slots.proofs.CellLaws.{never}
use Rattle.model.specs.declared.ids.OpId.{OpId}
use Rattle.model.specs.declared.ids.Value.{Value}
use Rattle.model.specs.declared.ids.DefiningEntity.{DefiningEntity}
use Rattle.model.specs.declared.ids.DefiningEntity.TheVariants as definer
use Rattle.model.specs.declared.ids.IRNode.TheVariants as node
use Rattle.model.specs.declared.points.OpInsertionPoint.{OpInsertionPoint}
use Rattle.model.specs.declared.points.BlockInsertionPoint.{BlockInsertionPoint}
use Rattle.model.specs.declared.refusal.Refusal.{Refusal}
use Rattle.model.specs.Model.{Model, put}
use Rattle.model.specs.Calls.{unlink_at, typed_at, replace_all, same_value, result_values, replace_each}
use Rattle.model.specs.Points.{block_at, inserted_in, inserted_at, insert_refusal, region_at, created_in}
use Rattle.model.specs.Sound.{Sound, Among}
use Rattle.model.specs.Erasing.{part_of}
use Rattle.model.specs.Later.{Later}
use Rattle.model.proofs.Lists.{put_same, put_other}
use Rattle.model.proofs.Refusals.{make_live}
use Rattle.model.proofs.Making.{make_sound}
use Rattle.model.proofs.Placing.{insert_allowed, insert_sound, create_allowed, created_sound}
use Rattle.model.proofs.Unlinking.{unlink_sound}
use Rattle.model.proofs.Changing.{typed_sound, replace_sound}
use Rattle.model.proofs.Closing.{part_closed}
use Rattle.model.proofs.Distincts.{among_right}
use Rattle.model.proofs.Laters.{later_refl, later_trans, make_later, create_later, insert_later, unlink_later, typed_later, replace_later}
use Rattle.model.proofs.Lasting.{Lasts, make_lasts, create_lasts, insert_lasts, unlink_lasts, typed_lasts, replace_lasts}
use Rattle.calls.specs.declared.events.RecorderEvent.{RecorderEvent}
use Rattle.calls.specs.declared.events.RecorderEvent.TheVariants as event
use Rattle.calls.specs.World.{World, Call, make, set_point, insert, append, create, unlink, move, set_type, replace_uses, replace_with, replace_by, erase, Pick, Reply, done, refused}
use Rattle.calls.specs.Refusing.{refusal}
use Rattle.calls.specs.Perform.{Outcome, type_now, erasing, replacing, exchanged, exchanging, events, allowing, settle, replied, perform, Could, Performed}
use Rattle.calls.specs.After.{answer, after, told, trail, trails}
use Rattle.calls.specs.Laws.{Lawful, LawfulCall, LawfulCalls, RefusedSame}
use Rattle.calls.proofs.Exchanging.{reused_refl, reused_each, each_sound}
use Rattle.calls.proofs.Accepting.{move_allowed, move_sound, Exchangeable, with_allowed, by_allowed, erase_allowed, replace_allowed}
use Rattle.calls.proofs.Lawfuls.{lawful_refl, lawful_trans, lawful_calm, lawful_placing, lawful_erasing}

-- where an operation lies, after each change
created_home : (m : Model) (q : Option ℕ) (p : BlockInsertionPoint) (b : ℕ) (ts : List ℕ) → (created_in m q p b ts).home_of ≡ m.home_of
created_home m None p b ts = refl
created_home m (Some r) p b ts = refl

inserted_home : (m : Model) (q : Option ℕ) (p : OpInsertionPoint) (s t : ℕ) → (t ≡ s → ⊥) → (inserted_in m q p s).home_of t ≡ m.home_of t
inserted_home m None p s t ne = refl
inserted_home m (Some b) p s t ne = put_other m.home_of s (Some b) t ne

unlinked_other : (m : Model) (q : Option ℕ) (s t : ℕ) → (t ≡ s → ⊥) → (unlink_at m s q).home_of t ≡ m.home_of t
unlinked_other m None s t ne = refl
unlinked_other m (Some b) s t ne = put_other m.home_of s None t ne

unlinked_home : (m : Model) (q : Option ℕ) (s t : ℕ) → is_some ((unlink_at m s q).home_of t) ≡ true → is_some (m.home_of t) ≡ true
unlinked_home m None s t h = h
unlinked_home m (Some b) s t h = elim (cases_eq t s) [
  | inl e ↦ absurd (never (sym (ap (λ z. is_some (put m.home_of s None z)) e ∙ ap is_some (put_same m.home_of s None)) ∙ h))
  | inr ne ↦ ap is_some (sym (put_other m.home_of s None t ne)) ∙ h
]

typed_home : (m : Model) (e : DefiningEntity) (i t : ℕ) → (typed_at m e i t).home_of ≡ m.home_of
typed_home m (definer.Op o) i t = refl
typed_home m (definer.Block b) i t = refl

either : (P : Model → Type 0) (b : Bool) (x y : Model) → P x → P y → P (cond b x y)
either P true x y p q = p
either P false x y p q = q

among_mapped : {X Y : Type 0} (f : X → Y) (x : X) (xs : List X) → Among x xs → Among (f x) (map f xs)
among_mapped f x [] i = absurd i
among_mapped f x (y ∷ ys) (inl e) = inl (ap f e)
among_mapped f x (y ∷ ys) (inr i) = inr (among_mapped f x ys i)

module _ (keeps : Bool) (w : World) (k : Pick) (σ : Sound w.model) where
  abbrev v : Call → World
  v c = (settle keeps w c k None).world

  inserting : (o : OpId) → insert_refusal w.model w.point o ≡ None → (u : World) → u.model ≡ inserted_at w.model w.point o.slot → u.records ≡ (v (insert o)).records → Lawful keeps w u (event.InsertedOperation o ∷ [])
  inserting o h u is records =
      lawful_placing keeps w u (event.InsertedOperation o ∷ []) σ (subst Sound (sym is) (insert_sound w.model σ w.point o h))
      (subst (Later w.model) (sym is) (insert_later w.model (block_at w.model w.point) w.point o.slot))
      (subst (Lasts w.model) (sym is) (insert_lasts w.model (block_at w.model w.point) w.point o.slot))
      records o (insert_allowed w.model w.point o h).op
      (λ t ne e. ap is_some (sym (inserted_home w.model (block_at w.model w.point) w.point o.slot t ne)) ∙ ap (λ z. is_some (z.home_of t)) (sym is) ∙ e) (inl refl)

  exchange : (o : OpId) (ws : List Value) → Exchangeable w.model o ws → (u : World) → u.model ≡ exchanged w.model o ws → u.records ≡ (v (replace_with o ws)).records
      → Lawful keeps w u (exchanging w.model o ws)
  exchange o ws a u is records =
      lawful_erasing keeps w u (exchanging w.model o ws) (replace_each w.model (result_values w.model o) ws) (part_of w.model (node.Operation o)) σ
      (reused_each w.model (result_values w.model o) ws) (each_sound w.model (result_values w.model o) ws a.values σ)
      (part_closed w.model σ (node.Operation o) a.op) a.unused is records
      (λ n i. among_right (erasing n) (replacing w.model (result_values w.model o) ws) (map erasing (part_of w.model (node.Operation o))) (among_mapped erasing n (part_of w.model (node.Operation o)) i))

  accepted : (c : Call) → refusal w c ≡ None → Could w.model c k → Lawful keeps w (v c) (events w c k)
  accepted (make kind note vs ts gs) h u =
      lawful_calm keeps w (v (make kind note vs ts gs)) [] σ (make_sound w.model k.op k.regions kind note vs ts gs u σ (make_live w.model vs ts gs (sym h)))
      (make_later w.model k.op k.regions kind note vs ts gs u) (make_lasts w.model k.op k.regions kind note vs ts gs u) refl (λ t e. e)
  accepted (set_point p) h u = lawful_calm keeps w (v (set_point p)) [] σ σ (later_refl w.model) (λ x l. l) refl (λ t e. e)
  accepted (insert o) h u = inserting o h (v (insert o)) refl refl
  accepted (append o) h u = inserting o h (v (append o)) refl refl
  accepted (create p ts) h u =
      let a = create_allowed w.model p ts h in
      lawful_calm keeps w (v (create p ts)) (events w (create p ts) k) σ (created_sound w.model σ p k.block ts u a.live a.set)
      (create_later w.model (region_at w.model p) p k.block ts u) (create_lasts w.model (region_at w.model p) p k.block ts u) refl
      (λ t e. ap (λ f. is_some (f t)) (sym (created_home w.model (region_at w.model p) p k.block ts)) ∙ e)
  accepted (unlink o) h u =
      lawful_calm keeps w (v (unlink o)) (events w (unlink o) k) σ (unlink_sound w.model o.slot (w.model.home_of o.slot) refl σ)
      (unlink_later w.model o.slot (w.model.home_of o.slot)) (unlink_lasts w.model o.slot (w.model.home_of o.slot)) refl
      (unlinked_home w.model (w.model.home_of o.slot) o.slot)
  accepted (move o p) h u =
      let a = move_allowed w.model p o h in
      let s = o.slot in
      let q = w.model.home_of s in
      let n = unlink_at w.model s q in
      lawful_placing keeps w (v (move o p)) (events w (move o p) k) σ (move_sound w.model p o a σ)
      (later_trans w.model n (inserted_at n p s) (unlink_later w.model s q) (insert_later n (block_at n p) p s))
      (λ x l. insert_lasts n (block_at n p) p s x (unlink_lasts w.model s q x l)) refl o a.op
      (λ t ne e. ap is_some (sym (inserted_home n (block_at n p) p s t ne ∙ unlinked_other w.model q s t ne)) ∙ e) (inr (inl refl))
  accepted (set_type x t) h u =
      let m = w.model in
      let b = eqb (type_now m x) t in
      let n = typed_at m x.definer x.index t in
      lawful_calm keeps w (v (set_type x t)) (events w (set_type x t) k) σ (either Sound b m n σ (typed_sound m x.definer x.index t σ))
      (either (Later m) b m n (later_refl m) (typed_later m x.definer x.index t)) (either (Lasts m) b m n (λ y l. l) (typed_lasts m x.definer x.index t)) refl
      (either (λ z. (s : ℕ) → is_some (z.home_of s) ≡ true → is_some (m.home_of s) ≡ true) b m n (λ s e. e) (λ s e. ap (λ f. is_some (f s)) (sym (typed_home m x.definer x.index t)) ∙ e))
  accepted (replace_uses x y) h u =
      let m = w.model in
      let b = same_value x y in
      let n = replace_all m x y in
      lawful_calm keeps w (v (replace_uses x y)) (events w (replace_uses x y) k) σ (either Sound b m n σ (replace_sound m x y (replace_allowed m x y h) σ))
      (either (Later m) b m n (later_refl m) (replace_later m x y)) (either (Lasts m) b m n (λ z l. l) (replace_lasts m x y)) refl
      (either (λ z. (s : ℕ) → is_some (z.home_of s) ≡ true → is_some (m.home_of s) ≡ true) b m n (λ s e. e) (λ s e. e))
  accepted (replace_with o ws) h u = exchange o ws (with_allowed w.model o ws h) (v (replace_with o ws)) refl refl
  accepted (replace_by o q) h u = exchange o (result_values w.model q) (by_allowed w.model o q h) (v (replace_by o q)) refl refl
  accepted (erase n) h u =
      let a = erase_allowed w.model n h in
      lawful_erasing keeps w (v (erase n)) (events w (erase n) k) w.model (part_of w.model n) σ (reused_refl w.model) σ (part_closed w.model σ n a.0) a.1 refl refl
      (λ x i. among_mapped erasing x (part_of w.model n) i)

not_refused_yet : (keeps : Bool) (w : World) (es : List RecorderEvent) (q : Option Refusal) → allowing keeps w es q ≡ None → q ≡ None
not_refused_yet keeps w es None h = refl
not_refused_yet keeps w es (Some e) h = h

pub lawful_call : LawfulCall
lawful_call keeps w c k σ could = at (answer keeps w c k) refl
  where
    at : (q : Option Refusal) → answer keeps w c k ≡ q → Lawful keeps w (settle keeps w c k q).world (told q (events w c k))
    at (Some e) d = lawful_refl keeps w σ
    at None d = accepted keeps w k σ c (not_refused_yet keeps w (events w c k) (refusal w c) d) (could d)

pub lawful_calls : LawfulCalls
lawful_calls keeps w [] [] σ could = lawful_refl keeps w σ
lawful_calls keeps w [] (k ∷ ks) σ could = absurd could
lawful_calls keeps w (c ∷ cs) [] σ could = absurd could
lawful_calls keeps w (c ∷ cs) (k ∷ ks) σ could =
    let one = lawful_call keeps w c k σ could.0 in
    let v = (perform keeps w c k).world in
    lawful_trans keeps w v (after keeps v cs ks).world (trail keeps w c k) (trails keeps v cs ks) one (lawful_calls keeps v cs ks one.sound could.1)

-- the same of what a method promises
pub performed_lawful : (keeps : Bool) (w v : World) (c : Call) (r : Reply) → Sound w.model → (p : Performed keeps w c v r) → Lawful keeps w v (trail keeps w c p.pick)
performed_lawful keeps w v c r σ p = subst (λ (o : Outcome). Lawful keeps w o.world (trail keeps w c p.pick)) p.does (lawful_call keeps w c p.pick σ p.could)

-- an accepted call answers with no refusal
pub not_done : {A : Type 0} (e : Refusal) → done ≡ refused e → A
not_done e d = let z : ◌≡◌ {A = ℕ} 0 1 = cc in absurd (omega arith)

answered : {A : Type 0} (w : World) (c : Call) (k : Pick) (e : Refusal) → replied w c k ≡ refused e → A
answered w (make kind note vs ts gs) k e d = let z : ◌≡◌ {A = ℕ} 0 1 = cc in absurd (omega arith)
answered w (set_point p) k e d = not_done e d
answered w (insert o) k e d = not_done e d
answered w (append o) k e d = not_done e d
answered w (create p ts) k e d = let z : ◌≡◌ {A = ℕ} 0 1 = cc in absurd (omega arith)
answered w (unlink o) k e d = not_done e d
answered w (move o p) k e d = not_done e d
answered w (set_type x t) k e d = not_done e d
answered w (replace_uses x y) k e d = not_done e d
answered w (replace_with o ws) k e d = not_done e d
answered w (replace_by o q) k e d = not_done e d
answered w (erase n) k e d = not_done e d

pub refused_same : RefusedSame
refused_same keeps w c k e d = at (answer keeps w c k) d
  where
    at : (q : Option Refusal) → (settle keeps w c k q).reply ≡ refused e → (settle keeps w c k q).world ≡ w
    at (Some f) d = refl
    at None d = answered w c k e d
