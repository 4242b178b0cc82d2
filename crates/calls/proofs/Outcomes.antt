-- What a method owes: the call was refused, or it was done and there was room for its records.
use Rattle.std.proofs.Common.{◌≡◌, ℕ, suc, ◌+◌, ◌≤◌, Bool, true, false, cond, List, [], ◌∷◌, ◌++◌, length, Some, None, Option, sym, refl, ap, ◌∙◌, arith}
use Rattle.std.proofs.lemmas.List.{length-append}
use Rattle.std.proofs.lemmas.Bool.{le-leb, leb-true}
use Rattle.model.specs.declared.refusal.Refusal.{Refusal}
use Rattle.model.specs.declared.refusal.Refusal.TheVariants.{RecordsFull}
use Rattle.calls.specs.declared.events.RecorderEvent.{RecorderEvent}
use Rattle.calls.specs.World.{World, Call, Pick, Reply, refused, kept, fits}
use Rattle.calls.specs.Refusing.{refusal}
use Rattle.calls.specs.Perform.{Outcome, events, changed, pointed, replied, allowing, settle, perform, Could, Performed}

pub not_refused : {A : Type 0} (e : Refusal) → Some e ≡ None → A
not_refused e d = let z : ◌≡◌ {A = ℕ} 0 1 = cc in absurd (omega arith)

module _ (keeps : Bool) (w : World) (c : Call) where
  -- refused, and nothing has changed
  pub performed_refused : (e : Refusal) → refusal w c ≡ Some e → Performed keeps w c w (refused e)
  performed_refused e h =
      let k : Pick = record { op = 0; regions = []; block = 0 } in
      let is : allowing keeps w (events w c k) (refusal w c) ≡ Some e = ap (allowing keeps w (events w c k)) h in
      record { pick = k; could = λ d. not_refused e (sym is ∙ d); does = ap (settle keeps w c k) is }

  module _ (h : refusal w c ≡ None) (k : Pick) where
    room : (b : Bool) → fits keeps w.records (length (events w c k)) ≡ b → allowing keeps w (events w c k) (refusal w c) ≡ cond b None (Some RecordsFull)
    room b f = ap (allowing keeps w (events w c k)) h ∙ ap (λ b. cond b None (Some RecordsFull)) f

    -- refused for want of room
    pub performed_full : fits keeps w.records (length (events w c k)) ≡ false → Performed keeps w c w (refused RecordsFull)
    performed_full f = record { pick = k; could = λ d. not_refused RecordsFull (sym (room false f) ∙ d); does = ap (settle keeps w c k) (room false f) }

    -- done
    pub performed_done : fits keeps w.records (length (events w c k)) ≡ true → Could w.model c k
        → (v : World) → v.model ≡ changed w c k → v.point ≡ pointed w c k → v.records ≡ w.records ++ kept keeps (events w c k)
        → (r : Reply) → r ≡ replied w c k → Performed keeps w c v r
    performed_done f u v model point records r reply =
        let done : ◌≡◌ {A = Outcome} (settle keeps w c k None) (record { world = v; reply = r }) =
        λ i. record { world = record { model = sym model i; point = sym point i; records = sym records i }; reply = sym reply i } in
        record { pick = k; could = λ _. u; does = ap (settle keeps w c k) (room true f) ∙ done }

-- a listener that keeps one list and then another keeps both
pub kept_append : (keeps : Bool) (es fs : List RecorderEvent) → kept keeps (es ++ fs) ≡ kept keeps es ++ kept keeps fs
kept_append true es fs = refl
kept_append false es fs = refl

-- where there is room for so many, there is for fewer
pub fits_fewer : (keeps : Bool) (es : List RecorderEvent) (n k : ℕ) → k ≤ n → fits keeps es n ≡ true → fits keeps es k ≡ true
fits_fewer true es n k l h = let few = leb-true (length es + n) 1024 h in le-leb (length es + k) 1024 (omega arith)
fits_fewer false es n k l h = refl

-- one record more, and room for one less
pub fits_after : (keeps : Bool) (es : List RecorderEvent) (e : RecorderEvent) (n : ℕ) → fits keeps es (suc n) ≡ true → fits keeps (es ++ kept keeps (e ∷ [])) n ≡ true
fits_after true es e n h =
    let few = leb-true (length es + suc n) 1024 h in
    let more = length-append es (e ∷ []) in
    le-leb (length (es ++ e ∷ []) + n) 1024 (omega arith)
fits_after false es e n h = refl

-- the same of a list of records
pub fits_list : (keeps : Bool) (es fs : List RecorderEvent) (n : ℕ) → fits keeps es (length fs + n) ≡ true → fits keeps (es ++ kept keeps fs) n ≡ true
fits_list true es fs n h =
    let few = leb-true (length es + (length fs + n)) 1024 h in
    let more = length-append es fs in
    le-leb (length (es ++ fs) + n) 1024 (omega arith)
fits_list false es fs n h = refl

pub fits_none : (keeps : Bool) (es : List RecorderEvent) → length es ≤ 1024 → fits keeps es 0 ≡ true
fits_none true es l = le-leb (length es + 0) 1024 (omega arith)
fits_none false es l = refl

-- no more records are ever kept than there is room for
pub fits_performed : (keeps : Bool) (w : World) (c : Call) (k : Pick) → fits keeps w.records 0 ≡ true → fits keeps (perform keeps w c k).world.records 0 ≡ true
fits_performed keeps w c k h = at (refusal w c) (fits keeps w.records (length (events w c k))) refl
  where
    at : (q : Option Refusal) (b : Bool) → fits keeps w.records (length (events w c k)) ≡ b → fits keeps (settle keeps w c k (allowing keeps w (events w c k) q)).world.records 0 ≡ true
    at (Some e) b d = h
    at None true d =
        let room : fits keeps w.records (length (events w c k) + 0) ≡ true = ap (fits keeps w.records) (omega arith) ∙ d in
        ap (λ b. fits keeps (settle keeps w c k (cond b None (Some RecordsFull))).world.records 0) d ∙ fits_list keeps w.records (events w c k) 0 room
    at None false d = ap (λ b. fits keeps (settle keeps w c k (cond b None (Some RecordsFull))).world.records 0) d ∙ h
