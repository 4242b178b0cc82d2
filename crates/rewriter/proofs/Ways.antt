-- The ways out of a method, from what its calls said.
use Rattle.std.proofs.Common.{◌≡◌, ℕ, Bool, true, false, cond, List, [], ◌++◌, length, Some, None, Ok, Err, Option, Result, sym, refl, ap, ◌∙◌, subst, append-nil, MatchResult, IsErrAnd}
use Rattle.model.specs.declared.ids.OpId.{OpId}
use Rattle.model.specs.declared.ids.Value.{Value}
use Rattle.model.specs.declared.points.OpInsertionPoint.TheVariants as point
use Rattle.model.specs.declared.refusal.Refusal.{Refusal}
use Rattle.model.specs.declared.refusal.Refusal.TheVariants.{RecordsFull}
use Rattle.model.specs.Model.{Model}
use Rattle.model.specs.Calls.{make_refusal, Made}
use Rattle.model.specs.Refusals.{verdict}
use Rattle.model.proofs.Refusals.{fails}
use Rattle.calls.specs.declared.events.RecorderEvent.{RecorderEvent}
use Rattle.calls.specs.World.{World, Call, Pick, Reply, make, insert, append, done, made, refused, kept, fits}
use Rattle.calls.specs.Refusing.{refusal}
use Rattle.calls.specs.Perform.{Outcome, events, changed, pointed, replied, allowing, settle, Could, Performed}
use Rattle.calls.proofs.Outcomes.{not_refused, performed_refused, performed_full, performed_done}
use Rattle.calls.proofs.Performing.{not_done}
use Rattle.rewriter.specs.Seen.{answered, told}

-- a call that makes nothing picks no slot
pub none_picked : Pick
none_picked = record { op = 0; regions = []; block = 0 }

-- a refusal e that is d, which `?` hands on
pub handed : {A : Type 0} (keeps : Bool) (w : World) (c : Call) (v : World) (f : A → Reply) (e d : Refusal) (r : Result A Refusal) → IsErrAnd r (λ y. y ≡ e) → e ≡ d → Performed keeps w c v (refused d) → Performed keeps w c v (answered f r)
handed keeps w c v f e d (Ok x) h is p = absurd h
handed keeps w c v f e d (Err y) h is p = subst (λ z. Performed keeps w c v (refused z)) (sym (h ∙ is)) p

-- that of a check
pub checked : {A : Type 0} (keeps : Bool) (w : World) (c : Call) (f : A → Reply) (e : Refusal) (r : Result A Refusal) → IsErrAnd r (λ y. y ≡ e) → Err e ≡ verdict (refusal w c) → Performed keeps w c w (answered f r)
checked keeps w c f e r h d = handed keeps w c w f e e r h refl (performed_refused keeps w c e (fails (refusal w c) e d))

-- no record is kept
pub kept_none : (keeps : Bool) (es : List RecorderEvent) → es ≡ es ++ kept keeps []
kept_none true es = sym (append-nil es)
kept_none false es = sym (append-nil es)

-- a call that is not refused, whose records are es
module _ (keeps : Bool) (w : World) (c : Call) (k : Pick) (h : refusal w c ≡ None) (es : List RecorderEvent) (is : events w c k ≡ es) where
  pub known_full : fits keeps w.records (length es) ≡ false → Performed keeps w c w (refused RecordsFull)
  known_full f = performed_full keeps w c h k (ap (λ fs. fits keeps w.records (length fs)) is ∙ f)

  pub known_done : fits keeps w.records (length es) ≡ true → Could w.model c k → (v : World) → v.model ≡ changed w c k → v.point ≡ pointed w c k → v.records ≡ w.records ++ kept keeps es
      → (r : Reply) → r ≡ replied w c k → Performed keeps w c v r
  known_done f u v model point records r reply =
      performed_done keeps w c h k (ap (λ fs. fits keeps w.records (length fs)) is ∙ f) u v model point (records ∙ ap (λ fs. w.records ++ kept keeps fs) (sym is)) r reply

-- what such a call has done
pub record Parts (keeps : Bool) (w : World) (c : Call) (k : Pick) (v : World) (r : Reply) : Type 0 where
  pub model : v.model ≡ changed w c k
  pub point : v.point ≡ pointed w c k
  pub records : v.records ≡ w.records ++ kept keeps (events w c k)
  pub reply : r ≡ replied w c k

pub parts : (keeps : Bool) (w : World) (c : Call) (v : World) (r : Reply) (p : Performed keeps w c v r) → refusal w c ≡ None → fits keeps w.records (length (events w c p.pick)) ≡ true → Parts keeps w c p.pick v r
parts keeps w c v r p h f =
    let k = p.pick in
    let free : allowing keeps w (events w c k) (refusal w c) ≡ None = ap (allowing keeps w (events w c k)) h ∙ ap (λ b. cond b None (Some RecordsFull)) f in
    let e : ◌≡◌ {A = Outcome} (record { world = v; reply = r }) (settle keeps w c k None) = sym p.does ∙ ap (settle keeps w c k) free in
    record { model = ap (λ (z : Outcome). z.world.model) e; point = ap (λ (z : Outcome). z.world.point) e; records = ap (λ (z : Outcome). z.world.records) e; reply = ap (λ (z : Outcome). z.reply) e }

-- what a store answers where nothing is against the call
pub accepted : (q : Option Refusal) (A : Type 0) (B : Refusal → Type 0) → q ≡ None → (r : Result (Unit {0}) Refusal) → MatchResult r (λ _. (q ≡ None) × A) (λ e. (q ≡ Some e) × B e) → (told r ≡ done) × A
accepted q A B h (Ok x) p = (refl, p.1)
accepted q A B h (Err e) p = not_refused e (sym p.0 ∙ h)

-- what is inserted is appended, once the point stands behind it
abbrev behind : OpId → World → World
behind o v = record { model = v.model; point = point.AfterOperation o; records = v.records }

module _ (keeps : Bool) (w v : World) (o : OpId) where
  pub appended : Performed keeps w (insert o) v done → Performed keeps w (append o) (record { model = v.model; point = point.AfterOperation o; records = v.records }) done
  appended p = record { pick = p.pick; could = λ _. tt; does = at (allowing keeps w (events w (insert o) p.pick) (refusal w (insert o))) p.does }
    where
      at : (q : Option Refusal) → settle keeps w (insert o) p.pick q ≡ record { world = v; reply = done }
          → settle keeps w (append o) p.pick q ≡ record { world = record { model = v.model; point = point.AfterOperation o; records = v.records }; reply = done }
      at (Some e) d = not_done e (sym (ap (λ (z : Outcome). z.reply) d))
      at None d = ap (λ (z : Outcome). record { world = behind o z.world; reply = z.reply }) d

  pub append_refused : (e : Refusal) → Performed keeps w (insert o) v (refused e) → Performed keeps w (append o) v (refused e)
  append_refused e p = record { pick = p.pick; could = λ _. tt; does = at (allowing keeps w (events w (insert o) p.pick) (refusal w (insert o))) p.does }
    where
      at : (q : Option Refusal) → settle keeps w (insert o) p.pick q ≡ record { world = v; reply = refused e } → settle keeps w (append o) p.pick q ≡ record { world = v; reply = refused e }
      at (Some f) d = d
      at None d = not_done e (ap (λ (z : Outcome). z.reply) d)

-- an operation was made, or not
pub made_performed : (keeps : Bool) (w : World) (n : Model) (kind note : ℕ) (vs : List Value) (ts : List ℕ) (gs : List Bool) → fits keeps w.records 0 ≡ true
    → (r : Result OpId Refusal) → MatchResult r (λ o. Made w.model n kind note vs ts gs o) (λ e. (make_refusal w.model vs ts gs ≡ Some e) × (n ≡ w.model))
    → Performed keeps w (make kind note vs ts gs) (record { model = n; point = w.point; records = w.records }) (answered made r)
made_performed keeps w n kind note vs ts gs f (Ok o) h =
    performed_done keeps w (make kind note vs ts gs) h.allowed (record { op = o.slot; regions = h.slots; block = 0 }) f h.usable
    (record { model = n; point = w.point; records = w.records }) h.after refl (kept_none keeps w.records) (made o) (ap made h.is)
made_performed keeps w n kind note vs ts gs f (Err e) h =
    subst (λ z. Performed keeps w (make kind note vs ts gs) (record { model = z; point = w.point; records = w.records }) (refused e)) (sym h.1) (performed_refused keeps w (make kind note vs ts gs) e h.0)
