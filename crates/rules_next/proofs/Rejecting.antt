-- What the rules do not let through.
use Rattle.std.proofs.Common.{◌≡◌, ℕ, suc, ◌+◌, ◌<◌, ◌≤◌, true, false, ◌&&◌, ltb, ◌⊎◌, List, [], ◌∷◌, ◌++◌, length, Some, None, Ok, Err, Option, Result, sym, refl, ap, ◌∙◌, subst, inl, inr, arith}
use mathlib.Core.Option as mathlib_option
use Rattle.std.proofs.lemmas.List.{length-append}
use Rattle.std.proofs.lemmas.Bool.{both_ways, and_parts, and_cases, ltb-true, ltb-false}
use Rattle.model.specs.declared.ids.OpId.{OpId}
use Rattle.model.specs.declared.ids.IRNode.{IRNode}
use Rattle.model.specs.declared.ids.IRNode.TheVariants as node
use Rattle.calls.specs.World.{Pick}
use Rattle.calls.specs.World as calls
use Rattle.law.specs.Lists.{In, Follows}
use Rattle.law.specs.Machine.{asked, due}
use Rattle.law.specs.Law.{rewrites_of}
use Rattle.law.proofs.Lists.{in_keep, none_some}
use Rattle.law.proofs.Chains.{member_end}
use Rattle.law.proofs.Circle.{first_due_lem}
use Rattle.law.proofs.Moments.{wait_rewrites}
use Rattle.rules.specs.declared.interface.Fate.{Fate}
use Rattle.rules.specs.declared.interface.Fate.TheVariants as fate
use Rattle.rules.specs.declared.interface.TrailRecord.{TrailRecord}
use Rattle.rules.specs.declared.interface.IRStatus.{IRStatus}
use Rattle.rules.specs.declared.interface.Answer.{Answer}
use Rattle.rules.specs.declared.interface.Answer.TheVariants as answer
use Rattle.rules.specs.declared.interface.ConversionFault.{ConversionFault}
use Rattle.rules_next.specs.declared.interface.Fault.TheVariants as fault
use Rattle.rules_next.specs.declared.interface.Failure.{Failure}
use Rattle.rules_next.specs.declared.interface.Report.{Report}
use Rattle.rules_next.specs.Meaning.{Meaning}
use Rattle.rules.specs.Setting.{definers_in}
use Rattle.rules_next.specs.Setting.{real}
use Rattle.rules.specs.Driver.{Pending, Room, model_of, marks_of}
use Rattle.rules_next.specs.Driver.{World}
use Rattle.rules.specs.Rules.{with_lists}
use Rattle.rules_next.specs.Rules.{Told, Step, keeps_type, same_type, new_type, stale, sets_aside, waits, rewrites, Fails, type_fault, type_batch, circle, no_room, rewrite_fault, rewrite_batch, Run, start, more, Ran, not_open, is_done, stopped, closes, Takes, Asks, tidied, has_work, may_go, one_record, state_in, convertible, first_one, beyond, chain_of, due_definers, retyped_env, retyped_batch, retype, left_env, states_taken, rewritten_batch, rewrite_moments, RewrotesTo, at_op}
use Rattle.rules_next.specs.Law.{NoneDue, Tries}
use Rattle.rules_next.specs.Rejects.{work_of, Leaves, Calls, RulesReject}
use Rattle.rules_next.proofs.Reals.{laws}
use Rattle.rules_next.proofs.Closing.{batch_quiet, rewrites_one, chain_none}
use Rattle.rules_next.proofs.Circles.{only_with}

-- the fate that a trail tells, by number
abbrev code : Fate → ℕ
code fate.Rewritten = 0
code fate.SetAside = 1
code fate.Waits = 2
code fate.Stale = 3

abbrev code_in : List TrailRecord → ℕ
code_in [] = 4
code_in (r ∷ rs) = code r.fate

abbrev operation_in : OpId → List TrailRecord → OpId
operation_in x [] = x
operation_in x (r ∷ rs) = r.operation

front_one : (x y : OpId) (us vs ws : List OpId) → ws ≡ x ∷ us → ws ≡ y ∷ vs → x ≡ y
front_one x y us vs ws e d = let both : x ∷ us ≡ y ∷ vs = sym e ∙ d in cc

not_both : {A : Type 0} (p : Pending) (rest ps : List Pending) → ps ≡ p ∷ rest → ps ≡ [] → A
not_both p rest ps e d = let both : p ∷ rest ≡ [] = sym e ∙ d in let z : ◌≡◌ {A = ℕ} 0 1 = cc in absurd (omega arith)

one_none : {A : Type 0} (y : OpId) (os : List OpId) → os ≡ y ∷ [] → os ≡ [] → A
one_none y os e d = let both : y ∷ [] ≡ [] = sym e ∙ d in let z : ◌≡◌ {A = ℕ} 0 1 = cc in absurd (omega arith)

pub stopped_done : {A : Type 0} (s : IRStatus) → ◌≡◌ {A = Result Answer Failure} (Ok (answer.Done s)) (Ok answer.Stopped) → A
stopped_done s e = let z : ◌≡◌ {A = ℕ} 0 1 = cc in absurd (omega arith)

pub ok_err : {A X : Type 0} (a : X) (f : Failure) → ◌≡◌ {A = Result X Failure} (Ok a) (Err f) → A
ok_err a f e = let z : ◌≡◌ {A = ℕ} 0 1 = cc in absurd (omega arith)

module _ {C : Type 0} (M : Meaning C) where
  abbrev pub R : Told M → List OpId
  R t = rewrites_of {S = real M} t.moments

  -- a first due definer is due
  due_one : (w : World C) (x d : OpId) → first_one M w x ≡ mathlib_option.some d → NoneDue M w x → ⊥
  due_one w x d f n =
      let i = first_due_lem (real M) (laws M) w.env (marks_of w.memory.states) x d f in
      let r = in_keep (due (real M) w.env (marks_of w.memory.states)) d (definers_in (model_of w.env) x) i in
      both_ways _ (n d r.0) r.1

  same_front : (w : World C) (x y : OpId) (us vs : List OpId) → Takes M w x us → Takes M w y vs → x ≡ y
  same_front w x y us vs a b = front_one x y us vs w.memory.worklist a.front b.front

  no_question : {A : Type 0} (w : World C) (p : Pending) (rest : List Pending) (n : ℕ) (x : OpId) (us : List OpId) → Asks M w p rest n → Takes M w x us → A
  no_question w p rest n x us a b = not_both p rest w.memory.pending a.pending b.calm

  -- what a batch after a rewrite, or after a change of type, rewrites: nothing
  pub batch_rewrites : (w : World C) (x : OpId) (rest : List OpId) (c : C) (v : calls.World) → rewrites_of {S = real M} (rewrite_moments M w x rest c v) ≡ x ∷ []
  batch_rewrites w x rest c v =
      rewrites_one M w x (rewritten_batch M w x rest c v).load.moments (batch_quiet M (left_env M c v) w.room (Some x) (record { memory = with_lists w.memory rest (states_taken M w x); queued = w.counts.queued; moments = [] }) v.records)

  pub retype_rewrites : (w : World C) (p : Pending) (n u : ℕ) → rewrites_of {S = real M} (retyped_batch M w p n u).load.moments ≡ []
  retype_rewrites w p n u = batch_quiet M (retyped_env M w p n u) w.room None (record { memory = w.memory; queued = w.counts.queued; moments = [] }) (retype M w p u).world.records

  pub told : (t u : Told M) → t ≡ u → R t ≡ R u
  told t u e = ap (λ (z : Told M). R z) e

  -- a step rewrites nothing, or one operation as its list says
  abbrev Rewriting : World C → Told M → World C → Type 0
  Rewriting w t w' = (R t ≡ []) ⊎ ((y : OpId) × (R t ≡ y ∷ []) × Leaves M w y t w')

  leaves : (w : World C) (x : OpId) (ks : List Pick) (c : C) (v : calls.World) (r : Result (Unit {0}) ConversionFault) → RewrotesTo M w x ks c v r → (t : Told M) (w' : World C)
      → t.picks ≡ ks ∷ [] → model_of w'.env ≡ v.model → w'.env.value ≡ c → Leaves M w x t w'
  leaves w x ks c v r s t w' p m q = record { picks = ks; told = p; model = m ∙ ap (λ (z : calls.World). z.model) s.leaves; value = q ∙ s.next }

  step_rewrites : (w : World C) (t : Told M) (w' : World C) → Step M w t w' → Rewriting w t w'
  step_rewrites w t w' (keeps_type p rest n a c tq wq) = inl (told t _ tq)
  step_rewrites w t w' (same_type p rest n u a c r s tq wq) = inl (told t _ tq)
  step_rewrites w t w' (new_type p rest n u a c r s d f tq wq) = inl (told t _ tq ∙ retype_rewrites w p n u)
  step_rewrites w t w' (stale x rest a q tq wq) = inl (told t _ tq)
  step_rewrites w t w' (sets_aside x rest a q c tq wq) = inl (told t _ tq)
  step_rewrites w t w' (waits x d rest a q c f b room tq wq) = inl (told t _ tq ∙ wait_rewrites (real M) w.env (marks_of w.memory.states) x (x ∷ chain_of M w x) (due_definers M w x ++ x ∷ []))
  step_rewrites w t w' (rewrites x rest ks c v a q cv f s h tq wq) =
      inr (x, told t _ tq ∙ batch_rewrites w x rest c v, leaves w x ks c v (Ok tt) s t w' (ap (λ (z : Told M). z.picks) tq) (ap (λ (z : World C). model_of z.env) wq) (ap (λ (z : World C). z.env.value) wq))

  fault_rewrites : (w : World C) (f : Failure) (t : Told M) (w' : World C) → Fails M w f t w' → Rewriting w t w'
  fault_rewrites w f t w' (type_fault p rest n c a y r gq tq wq) = inl (told t _ tq)
  fault_rewrites w f t w' (type_batch p rest n u c a y r s d g gq tq wq) = inl (told t _ tq ∙ retype_rewrites w p n u)
  fault_rewrites w f t w' (circle x d rest a q c b gq tq wq) = inl (told t _ tq ∙ chain_none M w x)
  fault_rewrites w f t w' (no_room x d rest a q c o b room gq tq wq) = inl (told t _ tq ∙ chain_none M w x)
  fault_rewrites w f t w' (rewrite_fault x rest ks c v g a q cv fo s gq tq wq) =
      inr (x, told t _ tq ∙ rewrites_one M w x [] refl, leaves w x ks c v (Err g) s t w' (ap (λ (z : Told M). z.picks) tq) (ap (λ (z : World C). model_of z.env) wq) (ap (λ (z : World C). z.env.value) wq))
  fault_rewrites w f t w' (rewrite_batch x rest ks c v g a q cv fo s k gq tq wq) =
      inr (x, told t _ tq ∙ batch_rewrites w x rest c v, leaves w x ks c v (Ok tt) s t w' (ap (λ (z : Told M). z.picks) tq) (ap (λ (z : World C). model_of z.env) wq) (ap (λ (z : World C). z.env.value) wq))

  as_listed : (w : World C) (t : Told M) (w' : World C) → Rewriting w t w' → (x : OpId) → In x (R t) → Leaves M w x t w'
  as_listed w t w' (inl e) x i = absurd (subst (In x) e i)
  as_listed w t w' (inr (y, e, l)) x i = elim (subst (In x) e i) [ inl q ↦ subst (λ z. Leaves M w z t w') (sym q) l | inr j ↦ absurd j ]

  -- a trail tells one fate
  fates : (t u : Told M) (x : OpId) (f : Fate) → t ≡ u → t.trail ≡ one_record M x f → code_in u.trail ≡ code f
  fates t u x f e h = ap (λ (z : Told M). code_in z.trail) (sym e) ∙ ap code_in h

  of_trail : (t u : Told M) (x : OpId) (f : Fate) → t ≡ u → t.trail ≡ one_record M x f → operation_in x u.trail ≡ x
  of_trail t u x f e h = ap (λ (z : Told M). operation_in x z.trail) (sym e) ∙ ap (operation_in x) h

  waits_due : (w : World C) (t : Told M) (w' : World C) → Step M w t w' → (x : OpId) → t.trail ≡ one_record M x fate.Waits → NoneDue M w x → ⊥
  waits_due w t w' (keeps_type p rest n a c tq wq) x e h = omega (arith, fates t _ x fate.Waits tq e)
  waits_due w t w' (same_type p rest n u a c r s tq wq) x e h = omega (arith, fates t _ x fate.Waits tq e)
  waits_due w t w' (new_type p rest n u a c r s d f tq wq) x e h = omega (arith, fates t _ x fate.Waits tq e)
  waits_due w t w' (stale y rest a q tq wq) x e h = omega (arith, fates t _ x fate.Waits tq e)
  waits_due w t w' (sets_aside y rest a q c tq wq) x e h = omega (arith, fates t _ x fate.Waits tq e)
  waits_due w t w' (waits y d rest a q c f b room tq wq) x e h = due_one w y d f (subst (NoneDue M w) (sym (of_trail t _ x fate.Waits tq e)) h)
  waits_due w t w' (rewrites y rest ks c v a q cv f s k tq wq) x e h = omega (arith, fates t _ x fate.Waits tq e)

  waits_told : (w : World C) (t : Told M) (w' : World C) → Step M w t w' → w.counts.waits < w'.counts.waits → (x : OpId) × (t.trail ≡ one_record M x fate.Waits)
  waits_told w t w' (keeps_type p rest n a c tq wq) l = absurd (omega (arith, l, ap (λ (z : World C). z.counts.waits) wq))
  waits_told w t w' (same_type p rest n u a c r s tq wq) l = absurd (omega (arith, l, ap (λ (z : World C). z.counts.waits) wq))
  waits_told w t w' (new_type p rest n u a c r s d f tq wq) l = absurd (omega (arith, l, ap (λ (z : World C). z.counts.waits) wq))
  waits_told w t w' (stale y rest a q tq wq) l = absurd (omega (arith, l, ap (λ (z : World C). z.counts.waits) wq))
  waits_told w t w' (sets_aside y rest a q c tq wq) l = absurd (omega (arith, l, ap (λ (z : World C). z.counts.waits) wq))
  waits_told w t w' (waits y d rest a q c f b room tq wq) l = (y, ap (λ (z : Told M). z.trail) tq)
  waits_told w t w' (rewrites y rest ks c v a q cv f s k tq wq) l = absurd (omega (arith, l, ap (λ (z : World C). z.counts.waits) wq))

  aside_told : (w : World C) (t : Told M) (w' : World C) → Step M w t w' → w.counts.aside < w'.counts.aside → (x : OpId) × (t.trail ≡ one_record M x fate.SetAside)
  aside_told w t w' (keeps_type p rest n a c tq wq) l = absurd (omega (arith, l, ap (λ (z : World C). z.counts.aside) wq))
  aside_told w t w' (same_type p rest n u a c r s tq wq) l = absurd (omega (arith, l, ap (λ (z : World C). z.counts.aside) wq))
  aside_told w t w' (new_type p rest n u a c r s d f tq wq) l = absurd (omega (arith, l, ap (λ (z : World C). z.counts.aside) wq))
  aside_told w t w' (stale y rest a q tq wq) l = absurd (omega (arith, l, ap (λ (z : World C). z.counts.aside) wq))
  aside_told w t w' (sets_aside y rest a q c tq wq) l = (y, ap (λ (z : Told M). z.trail) tq)
  aside_told w t w' (waits y d rest a q c f b room tq wq) l = absurd (omega (arith, l, ap (λ (z : World C). z.counts.aside) wq))
  aside_told w t w' (rewrites y rest ks c v a q cv f s k tq wq) l = absurd (omega (arith, l, ap (λ (z : World C). z.counts.aside) wq))

  rewrites_ready : (w : World C) (t : Told M) (w' : World C) → Step M w t w' → (x : OpId) → Tries M w x → NoneDue M w x → R t ≡ x ∷ []
  rewrites_ready w t w' (keeps_type p rest n a c tq wq) x y h = no_question w p rest n x y.rest a y.takes
  rewrites_ready w t w' (same_type p rest n u a c r s tq wq) x y h = no_question w p rest n x y.rest a y.takes
  rewrites_ready w t w' (new_type p rest n u a c r s d f tq wq) x y h = no_question w p rest n x y.rest a y.takes
  rewrites_ready w t w' (stale z rest a q tq wq) x y h = absurd (both_ways _ q (ap (state_in M w) (same_front w z x rest y.rest a y.takes) ∙ y.queued))
  rewrites_ready w t w' (sets_aside z rest a q c tq wq) x y h = absurd (both_ways _ c (ap (convertible M w) (same_front w z x rest y.rest a y.takes) ∙ y.can_convert))
  rewrites_ready w t w' (waits z d rest a q c f b room tq wq) x y h = absurd (due_one w z d f (subst (NoneDue M w) (sym (same_front w z x rest y.rest a y.takes)) h))
  rewrites_ready w t w' (rewrites z rest ks c v a q cv f s k tq wq) x y h = told t _ tq ∙ batch_rewrites w z rest c v ∙ ap (λ o. o ∷ []) (same_front w z x rest y.rest a y.takes)

  aside_asked : (w : World C) (t : Told M) (w' : World C) → Step M w t w' → (x : OpId) → t.trail ≡ one_record M x fate.SetAside → (t.moments ≡ asked x false ∷ []) × (convertible M w x ≡ false)
  aside_asked w t w' (keeps_type p rest n a c tq wq) x e = absurd (omega (arith, fates t _ x fate.SetAside tq e))
  aside_asked w t w' (same_type p rest n u a c r s tq wq) x e = absurd (omega (arith, fates t _ x fate.SetAside tq e))
  aside_asked w t w' (new_type p rest n u a c r s d f tq wq) x e = absurd (omega (arith, fates t _ x fate.SetAside tq e))
  aside_asked w t w' (stale y rest a q tq wq) x e = absurd (omega (arith, fates t _ x fate.SetAside tq e))
  aside_asked w t w' (sets_aside y rest a q c tq wq) x e =
      let d = of_trail t _ x fate.SetAside tq e in
      (ap (λ (z : Told M). z.moments) tq ∙ ap (λ o. asked o false ∷ []) d, ap (convertible M w) (sym d) ∙ c)
  aside_asked w t w' (waits y d rest a q c f b room tq wq) x e = absurd (omega (arith, fates t _ x fate.SetAside tq e))
  aside_asked w t w' (rewrites y rest ks c v a q cv f s k tq wq) x e = absurd (omega (arith, fates t _ x fate.SetAside tq e))

  quiet_leaves : (w : World C) (t : Told M) (w' : World C) → Step M w t w' → (x : OpId) (us : List OpId) → Takes M w x us → R t ≡ [] → w'.env ≡ w.env
  quiet_leaves w t w' (keeps_type p rest n a c tq wq) x us y e = no_question w p rest n x us a y
  quiet_leaves w t w' (same_type p rest n u a c r s tq wq) x us y e = no_question w p rest n x us a y
  quiet_leaves w t w' (new_type p rest n u a c r s d f tq wq) x us y e = no_question w p rest n x us a y
  quiet_leaves w t w' (stale z rest a q tq wq) x us y e = ap (λ (z : World C). z.env) wq
  quiet_leaves w t w' (sets_aside z rest a q c tq wq) x us y e = ap (λ (z : World C). z.env) wq
  quiet_leaves w t w' (waits z d rest a q c f b room tq wq) x us y e = ap (λ (z : World C). z.env) wq
  quiet_leaves w t w' (rewrites z rest ks c v a q cv f s k tq wq) x us y e = one_none z (R t) (told t _ tq ∙ batch_rewrites w z rest c v) e

  -- each step is one piece of work
  record Worked (w : World C) (t : Told M) (w' : World C) : Type 0 where
    steps : w'.steps ≡ suc w.steps
    work : work_of w'.counts ≡ suc (work_of w.counts)
    trail : length t.trail ≤ 1

  worked : (w v w' : World C) (t u : Told M) → t ≡ u → w' ≡ v → v.steps ≡ suc w.steps → work_of v.counts ≡ suc (work_of w.counts) → length u.trail ≤ 1 → Worked w t w'
  worked w v w' t u e d a b c = record {
    steps = ap (λ (z : World C). z.steps) d ∙ a;
    work = ap (λ (z : World C). work_of z.counts) d ∙ b;
    trail = subst (λ (z : Told M). length z.trail ≤ 1) (sym e) c;
  }

  step_works : (w : World C) (t : Told M) (w' : World C) → Step M w t w' → Worked w t w'
  step_works w t w' (keeps_type p rest n a c tq wq) = worked w _ w' t _ tq wq refl (omega arith) (omega arith)
  step_works w t w' (same_type p rest n u a c r s tq wq) = worked w _ w' t _ tq wq refl (omega arith) (omega arith)
  step_works w t w' (new_type p rest n u a c r s d f tq wq) = worked w _ w' t _ tq wq refl (omega arith) (omega arith)
  step_works w t w' (stale y rest a q tq wq) = worked w _ w' t _ tq wq refl (omega arith) (omega arith)
  step_works w t w' (sets_aside y rest a q c tq wq) = worked w _ w' t _ tq wq refl (omega arith) (omega arith)
  step_works w t w' (waits y d rest a q c f b room tq wq) = worked w _ w' t _ tq wq refl (omega arith) (omega arith)
  step_works w t w' (rewrites y rest ks c v a q cv f s k tq wq) = worked w _ w' t _ tq wq refl (omega arith) (omega arith)

  fault_works : (w : World C) (f : Failure) (t : Told M) (w' : World C) → Fails M w f t w' → (work_of w'.counts ≡ suc (work_of w.counts)) × (t.trail ≡ [])
  fault_works w f t w' (type_fault p rest n c a y r gq tq wq) = (ap (λ (z : World C). work_of z.counts) wq ∙ omega arith, ap (λ (z : Told M). z.trail) tq)
  fault_works w f t w' (type_batch p rest n u c a y r s d g gq tq wq) = (ap (λ (z : World C). work_of z.counts) wq ∙ omega arith, ap (λ (z : Told M). z.trail) tq)
  fault_works w f t w' (circle x d rest a q c b gq tq wq) = (ap (λ (z : World C). work_of z.counts) wq ∙ omega arith, ap (λ (z : Told M). z.trail) tq)
  fault_works w f t w' (no_room x d rest a q c o b room gq tq wq) = (ap (λ (z : World C). work_of z.counts) wq ∙ omega arith, ap (λ (z : Told M). z.trail) tq)
  fault_works w f t w' (rewrite_fault x rest ks c v g a q cv fo s gq tq wq) = (ap (λ (z : World C). work_of z.counts) wq ∙ omega arith, ap (λ (z : Told M). z.trail) tq)
  fault_works w f t w' (rewrite_batch x rest ks c v g a q cv fo s k gq tq wq) = (ap (λ (z : World C). work_of z.counts) wq ∙ omega arith, ap (λ (z : Told M). z.trail) tq)

  module _ (w : World C) (budget size : ℕ) where
    may : (n : ℕ) (t : Told M) (v : World C) → may_go M budget size n t v ≡ true → (n < budget) × (length t.trail < size)
    may n t v h =
        let a = and_parts (ltb n budget) (ltb v.steps 1099511627776 && ltb (length t.trail) size) h in
        let b = and_parts (ltb v.steps 1099511627776) (ltb (length t.trail) size) a.1 in
        (ltb-true n budget a.0, ltb-true (length t.trail) size b.1)

    may_not : (n : ℕ) (t : Told M) (v : World C) → may_go M budget size n t v ≡ false → n < budget → v.steps < 1099511627776 → length t.trail < size → ⊥
    may_not n t v h a b c = elim (and_cases (ltb n budget) (ltb v.steps 1099511627776 && ltb (length t.trail) size) h) [
      | inl e ↦ omega (arith, ltb-false n budget e, a)
      | inr e ↦ elim (and_cases (ltb v.steps 1099511627776) (ltb (length t.trail) size) e) [
        | inl d ↦ omega (arith, ltb-false v.steps 1099511627776 d, b)
        | inr d ↦ omega (arith, ltb-false (length t.trail) size d, c)
      ]
    ]

    record Went (t : Told M) (n : ℕ) (v : World C) : Type 0 where
      few : n ≤ budget
      steps : v.steps ≡ w.steps + n
      work : work_of v.counts ≡ work_of w.counts + n
      trail : length t.trail ≤ size

    went : (t : Told M) (n : ℕ) (v : World C) → Run M w budget size t n v → Went t n v
    went t n v (start e q d) = record {
      few = omega (arith, q);
      steps = ap (λ (z : World C). z.steps) d ∙ omega (arith, q);
      work = ap (λ (z : World C). work_of z.counts) d ∙ omega (arith, q);
      trail = subst (λ (z : Told M). length z.trail ≤ size) (sym e) (omega arith);
    }
    went t n v (more b a k u r hw mg s e q) =
        let h = went b k u r in
        let z = step_works (tidied M u) a v s in
        let m = may k b u mg in
        record {
          few = omega (arith, q, m.0);
          steps = omega (arith, z.steps, h.steps, q);
          work = omega (arith, z.work, h.work, q);
          trail = subst (λ (y : Told M). length y.trail ≤ size) (sym e) (omega (arith, m.1, z.trail, length-append b.trail a.trail));
        }

    ran : (room : Room) (r : Report) (t : Told M) (w' : World C) → Ran M w budget size room r t w' → Calls M w budget size room r t w'
    ran room r t w' (not_open g q e d) =
        let no : (a : Answer) → r.answer ≡ Ok a → ⊥ = λ a h. ok_err a _ (sym h ∙ ap (λ (z : Report). z.answer) q) in
        record {
          done_early = λ s h _. no (answer.Done s) h;
          stopped_early = λ h _ _ _. no answer.Stopped h;
          stopped_idle = λ h _. no answer.Stopped h;
          within_budget = omega (arith, ap (λ (z : World C). work_of z.counts) d);
          within_trail = subst (λ (z : Told M). length z.trail ≤ size) (sym e) (omega arith);
        }
    ran room r t w' (is_done n v g x hw q d) =
        let h = went t n v x in
        record {
          done_early = λ s _ k. both_ways _ (ap (has_work M) d ∙ hw) k;
          stopped_early = λ k _ _ _. stopped_done _ (sym (ap (λ (z : Report). z.answer) q) ∙ k);
          stopped_idle = λ k _. stopped_done _ (sym (ap (λ (z : Report). z.answer) q) ∙ k);
          within_budget = omega (arith, ap (λ (z : World C). work_of z.counts) d, h.work, h.few);
          within_trail = h.trail;
        }
    ran room r t w' (stopped n v g x hw m q d) =
        let h = went t n v x in
        record {
          done_early = λ s k _. stopped_done s (sym k ∙ ap (λ (z : Report). z.answer) q);
          stopped_early = λ _ a b c. let e = ap (λ (z : World C). z.steps) d in may_not n t v m (omega (arith, a, e, h.steps)) (omega (arith, b, e)) c;
          stopped_idle = λ _ k. both_ways _ k (ap (has_work M) d ∙ hw);
          within_budget = omega (arith, ap (λ (z : World C). work_of z.counts) d, h.work, h.few);
          within_trail = h.trail;
        }
    ran room r t w' (closes b a n v f g x hw m s q d) =
        let no : (a : Answer) → r.answer ≡ Ok a → ⊥ = λ a h. ok_err a _ (sym h ∙ ap (λ (z : Report). z.answer) q) in
        let h = went b n v x in
        let z = fault_works (tidied M v) f a w' s in
        let y = may n b v m in
        record {
          done_early = λ s h _. no (answer.Done s) h;
          stopped_early = λ h _ _ _. no answer.Stopped h;
          stopped_idle = λ h _. no answer.Stopped h;
          within_budget = omega (arith, z.0, h.work, y.0);
          within_trail = subst (λ (k : Told M). length k.trail ≤ size) (sym d) (omega (arith, h.trail, length-append b.trail a.trail, ap length z.1));
        }

  no_circle : (w : World C) (x : OpId) (ds : List OpId) → Follows (first_one M w) x ds → length ds < 512 → (t : Told M) (w' : World C) → Fails M w (at_op M x fault.Circle) t w' → ⊥
  no_circle w x ds h l t w' s =
      let z = only_with M w (at_op M x fault.Circle) t w' s refl in
      let same : x ≡ z.0 = same_hand x z.0 z.1 in
      none_some z.3 (sym (member_end (first_one M w) 512 x ds h l) ∙ ap (beyond M w) same ∙ z.4)
    where
      same_hand : (x y : OpId) → at_op M x fault.Circle ≡ at_op M y fault.Circle → x ≡ y
      same_hand x y e = let h : ◌≡◌ {A = Option IRNode} (Some (node.Operation x)) (Some (node.Operation y)) = ap (λ (z : Failure). z.hand) e in cc

pub rules_reject : (C : Type 0) → RulesReject C
rules_reject C M = record {
  calls = λ w budget size room r t w' x. ran M w budget size room r t w' x;
  steps = λ w t w' s. record { waits_due = waits_due M w t w' s; waits_told = waits_told M w t w' s; rewrites_ready = rewrites_ready M w t w' s; aside_told = aside_told M w t w' s; aside_asked = aside_asked M w t w' s; quiet_leaves = quiet_leaves M w t w' s };
  no_circle = no_circle M;
  list_leaves = λ w t w' s. as_listed M w t w' (elim s [ inl k ↦ step_rewrites M w t w' k | inr k ↦ fault_rewrites M w k.0 t w' k.1 ]);
}
