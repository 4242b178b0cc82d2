-- What a step does, as a function of the world and the slots picked.
use Rattle.std.proofs.Common.{◌≡◌, ℕ, Bool, true, false, cond, ◌||◌, eqb, leb, List, [], ◌∷◌, ◌++◌, length, Some, None, Ok, Err, Option, Result, sym, ap, ◌∙◌, arith}
use mathlib.Core.Option as mathlib_option
use Rattle.model.specs.declared.ids.OpId.{OpId}
use Rattle.model.specs.Model.{type_of}
use Rattle.calls.specs.World.{Pick, Reply, done, made, created, refused}
use Rattle.calls.specs.World as calls
use Rattle.law.specs.Lists.{member, then}
use Rattle.law.specs.Machine.{asked, ask_along, rewrote}
use Rattle.rules.specs.declared.interface.Phase.TheVariants as phase
use Rattle.rules.specs.declared.interface.Fate.TheVariants as fate
use Rattle.rules.specs.declared.interface.ConversionFault.{ConversionFault}
use Rattle.rules_next.specs.declared.interface.Fault.{Fault}
use Rattle.rules_next.specs.declared.interface.Fault.TheVariants as fault
use Rattle.rules_next.specs.declared.interface.Failure.{Failure}
use Rattle.rules_next.specs.Meaning.{Meaning}
use Rattle.rules_next.specs.Setting.{real}
use Rattle.rules.specs.Driver.{Pending, model_of, marks_of, argument}
use Rattle.rules_next.specs.Driver.{World}
use Rattle.rules.specs.Rules.{with_lists, some_record}
use Rattle.rules_next.specs.Rules.{Told, Step, keeps_type, same_type, new_type, stale, sets_aside, waits, rewrites, Fails, type_fault, type_batch, circle, no_room, rewrite_fault, rewrite_batch, nothing, stepped, valued, finished, answered, retype, retyped_batch, retyped_world, state_in, convertible, first_one, chain_of, beyond, states_taken, one_record, stale_world, aside_world, wait_entries, wait_world, wait_moments, ready_moments, RewrotesTo, left_env, rewritten_batch, rewritten_world, rewrite_moments, in_block, at_op, closed_taken_world, closed_waiting, asked_one}
use Rattle.rules_next.specs.Determined.{StepsDetermined}
use Rattle.rules_next.specs.Law.{plan_of, left_by}

module _ {C : Type 0} (M : Meaning C) where
  -- how a step ends: with a failure, or with none
  pub record Ended : Type 0 where
    pub failure : Option Failure
    pub told : Told M
    pub world : World C

  abbrev pub went : Told M → World C → Ended
  went t v = record { failure = None; told = t; world = v }

  abbrev pub fell : Failure → Told M → World C → Ended
  fell f t v = record { failure = Some f; told = t; world = v }

  abbrev pub picks_of : List (List Pick) → List Pick
  picks_of [] = []
  picks_of (ks ∷ kss) = ks

  abbrev pub on_type_batch : World C → Pending → ℕ → ℕ → Option Fault → Ended
  on_type_batch w p n u None = went (record { moments = (retyped_batch M w p n u).load.moments; trail = []; picks = [] }) (retyped_world M w.phase w p n u)
  on_type_batch w p n u (Some f) = fell (in_block M p f) (record { moments = (retyped_batch M w p n u).load.moments; trail = []; picks = [] }) (retyped_world M phase.Closed w p n u)

  abbrev pub on_reply : World C → Pending → ℕ → ℕ → Reply → Ended
  on_reply w p n u done = on_type_batch w p n u (retyped_batch M w p n u).fault
  on_reply w p n u (made o) = went (nothing M) w
  on_reply w p n u (created b) = went (nothing M) w
  on_reply w p n u (refused f) = went (nothing M) w

  abbrev pub on_answer : World C → Pending → List Pending → ℕ → Result ℕ ConversionFault → Ended
  on_answer w p rest n (Ok u) = cond (eqb u n) (went (nothing M) (finished M w (valued M w.env (answered M w n).next) p rest)) (on_reply w p n u (retype M w p u).reply)
  on_answer w p rest n (Err f) = fell (in_block M p (fault.Conversion f)) (nothing M) (stepped M phase.Closed w (valued M w.env (answered M w n).next) w.memory (asked_one w.counts) w.changed)

  abbrev pub on_type : World C → Pending → List Pending → Option ℕ → Ended
  on_type w p rest None = went (nothing M) w
  on_type w p rest (Some n) = cond (M.can_type w.env.value (model_of w.env) n) (on_answer w p rest n (answered M w n).answer) (went (nothing M) (finished M w w.env p rest))

  abbrev pub on_batch : World C → OpId → List OpId → List Pick → C → calls.World → Option Fault → Ended
  on_batch w x rest ks c v None = went (record { moments = rewrite_moments M w x rest c v; trail = one_record M x fate.Rewritten; picks = ks ∷ [] }) (rewritten_world M w x rest c v)
  on_batch w x rest ks c v (Some f) =
      fell (at_op M x f) (record { moments = rewrite_moments M w x rest c v; trail = []; picks = ks ∷ [] })
      (closed_taken_world M w (left_env M c v) (rewritten_batch M w x rest c v).load.memory (rewritten_batch M w x rest c v).load.queued (w.changed || some_record v.records))

  abbrev pub on_rewrite : World C → OpId → List OpId → List Pick → C → calls.World → Result (Unit {0}) ConversionFault → Ended
  on_rewrite w x rest ks c v (Ok u) = on_batch w x rest ks c v (rewritten_batch M w x rest c v).fault
  on_rewrite w x rest ks c v (Err f) =
      fell (at_op M x (fault.Conversion f)) (record { moments = ready_moments M w x ++ rewrote x ∷ []; trail = []; picks = ks ∷ [] })
      (closed_taken_world M w (record { world = v; value = c }) (with_lists w.memory rest (states_taken M w x)) w.counts.queued (w.changed || some_record v.records))

  abbrev pub on_first : World C → OpId → List OpId → List Pick → mathlib_option.Option OpId → Ended
  on_first w x rest ks mathlib_option.none = on_rewrite w x rest ks (plan_of M w x ks).next (left_by M w x ks) (plan_of M w x ks).answer
  on_first w x rest ks (mathlib_option.some d) =
      cond (leb (length (wait_entries M w x rest)) w.room.entries) (went (record { moments = wait_moments M w x; trail = one_record M x fate.Waits; picks = [] }) (wait_world M w x rest))
      (fell (at_op M x fault.Full) (record { moments = asked x true ∷ ask_along (real M) w.env (marks_of w.memory.states) (x ∷ chain_of M w x); trail = []; picks = [] }) (closed_waiting M w x rest))

  abbrev pub on_beyond : World C → OpId → List OpId → List Pick → mathlib_option.Option OpId → Ended
  on_beyond w x rest ks (mathlib_option.some d) =
      fell (at_op M x fault.Circle) (record { moments = asked x true ∷ ask_along (real M) w.env (marks_of w.memory.states) (x ∷ chain_of M w x); trail = []; picks = [] }) (closed_waiting M w x rest)
  on_beyond w x rest ks mathlib_option.none = on_first w x rest ks (first_one M w x)

  abbrev pub on_convertible : World C → OpId → List OpId → List Pick → Bool → Ended
  on_convertible w x rest ks true = on_beyond w x rest ks (beyond M w x)
  on_convertible w x rest ks false = went (record { moments = asked x false ∷ []; trail = one_record M x fate.SetAside; picks = [] }) (aside_world M w x rest)

  abbrev pub on_state : World C → OpId → List OpId → List Pick → Bool → Ended
  on_state w x rest ks true = on_convertible w x rest ks (convertible M w x)
  on_state w x rest ks false = went (record { moments = []; trail = one_record M x fate.Stale; picks = [] }) (stale_world M w rest)

  abbrev pub on_front : World C → List Pick → List OpId → Ended
  on_front w ks [] = went (nothing M) w
  on_front w ks (x ∷ rest) = on_state w x rest ks (state_in M w x)

  abbrev pub on_pending : World C → List Pick → List Pending → Ended
  on_pending w ks [] = on_front w ks w.memory.worklist
  on_pending w ks (p ∷ rest) = on_type w p rest (type_of (model_of w.env) (argument p))

  abbrev pub decide : World C → List Pick → Ended
  decide w ks = on_pending w ks w.memory.pending

  end_went : (t u : Told M) (v v' : World C) → t ≡ u → v ≡ v' → went u v' ≡ went t v
  end_went t u v v' e d = λ i. record { failure = None; told = sym e i; world = sym d i }

  end_fell : (f g : Failure) (t u : Told M) (v v' : World C) → f ≡ g → t ≡ u → v ≡ v' → fell g u v' ≡ fell f t v
  end_fell f g t u v v' r e d = λ i. record { failure = Some (sym r i); told = sym e i; world = sym d i }

  -- the front entry is taken
  taking : (w : World C) (ks : List Pick) (x : OpId) (rest : List OpId) → w.memory.pending ≡ [] → w.memory.worklist ≡ x ∷ rest → decide w ks ≡ on_state w x rest ks (state_in M w x)
  taking w ks x rest c f = ap (on_pending w ks) c ∙ ap (on_front w ks) f

  asks_type : (w : World C) (ks : List Pick) (p : Pending) (rest : List Pending) (n : ℕ) → w.memory.pending ≡ p ∷ rest → type_of (model_of w.env) (argument p) ≡ Some n → decide w ks ≡ on_type w p rest (Some n)
  asks_type w ks p rest n c f = ap (on_pending w ks) c ∙ ap (on_type w p rest) f

  module _ (w : World C) (p : Pending) (rest : List Pending) (n : ℕ) where
    to_answer : M.can_type w.env.value (model_of w.env) n ≡ true → on_type w p rest (Some n) ≡ on_answer w p rest n (answered M w n).answer
    to_answer c = ap (λ b. cond b (on_answer w p rest n (answered M w n).answer) (went (nothing M) (finished M w w.env p rest))) c

    to_reply : (u : ℕ) → (answered M w n).answer ≡ Ok u → eqb u n ≡ false → on_answer w p rest n (answered M w n).answer ≡ on_reply w p n u (retype M w p u).reply
    to_reply u r s = ap (on_answer w p rest n) r ∙ ap (λ b. cond b (went (nothing M) (finished M w (valued M w.env (answered M w n).next) p rest)) (on_reply w p n u (retype M w p u).reply)) s

  to_beyond : (w : World C) (x : OpId) (rest : List OpId) (ks : List Pick) → state_in M w x ≡ true → convertible M w x ≡ true → on_state w x rest ks (state_in M w x) ≡ on_beyond w x rest ks (beyond M w x)
  to_beyond w x rest ks q c = ap (on_state w x rest ks) q ∙ ap (on_convertible w x rest ks) c

  no_beyond : (w : World C) (x : OpId) → first_one M w x ≡ mathlib_option.none → beyond M w x ≡ mathlib_option.none
  no_beyond w x f = ap (λ q. then q (member (first_one M w) 511)) f

  -- what a rewrite leaves is fixed by the slots picked
  to_rewrite : (w : World C) (x : OpId) (rest : List OpId) (ks : List Pick) (c : C) (v : calls.World) (r : Result (Unit {0}) ConversionFault) → state_in M w x ≡ true → convertible M w x ≡ true → first_one M w x ≡ mathlib_option.none
      → RewrotesTo M w x ks c v r → on_state w x rest ks (state_in M w x) ≡ on_rewrite w x rest ks c v r
  to_rewrite w x rest ks c v r q cv f s =
      to_beyond w x rest ks q cv ∙ ap (on_beyond w x rest ks) (no_beyond w x f) ∙ ap (on_first w x rest ks) f
      ∙ (λ i. on_rewrite w x rest ks (sym s.next i) (sym s.leaves i) (sym s.answer i))

  -- what is picked later does not matter
  same_picks : (w : World C) (t : Told M) (ks : List Pick) (z : List (List Pick)) → t.picks ≡ ks ∷ [] → decide w (picks_of (t.picks ++ z)) ≡ decide w ks
  same_picks w t ks z e = ap (λ y. decide w (picks_of (y ++ z))) e

  pub step_decides : (w : World C) (t : Told M) (v : World C) (z : List (List Pick)) → Step M w t v → decide w (picks_of (t.picks ++ z)) ≡ went t v
  step_decides w t v z (keeps_type p rest n a c tq wq) =
      asks_type w (picks_of (t.picks ++ z)) p rest n a.pending a.type ∙ ap (λ b. cond b (on_answer w p rest n (answered M w n).answer) (went (nothing M) (finished M w w.env p rest))) c ∙ end_went t _ v _ tq wq
  step_decides w t v z (same_type p rest n u a c r s tq wq) =
      asks_type w (picks_of (t.picks ++ z)) p rest n a.pending a.type ∙ to_answer w p rest n c ∙ ap (on_answer w p rest n) r
      ∙ ap (λ b. cond b (went (nothing M) (finished M w (valued M w.env (answered M w n).next) p rest)) (on_reply w p n u (retype M w p u).reply)) s ∙ end_went t _ v _ tq wq
  step_decides w t v z (new_type p rest n u a c r s d f tq wq) =
      asks_type w (picks_of (t.picks ++ z)) p rest n a.pending a.type ∙ to_answer w p rest n c ∙ to_reply w p rest n u r s ∙ ap (on_reply w p n u) d ∙ ap (on_type_batch w p n u) f ∙ end_went t _ v _ tq wq
  step_decides w t v z (stale x rest a q tq wq) =
      taking w (picks_of (t.picks ++ z)) x rest a.calm a.front ∙ ap (on_state w x rest (picks_of (t.picks ++ z))) q ∙ end_went t _ v _ tq wq
  step_decides w t v z (sets_aside x rest a q c tq wq) =
      taking w (picks_of (t.picks ++ z)) x rest a.calm a.front ∙ ap (on_state w x rest (picks_of (t.picks ++ z))) q ∙ ap (on_convertible w x rest (picks_of (t.picks ++ z))) c ∙ end_went t _ v _ tq wq
  step_decides w t v z (waits x d rest a q c f b room tq wq) =
      taking w (picks_of (t.picks ++ z)) x rest a.calm a.front ∙ to_beyond w x rest (picks_of (t.picks ++ z)) q c ∙ ap (on_beyond w x rest (picks_of (t.picks ++ z))) b ∙ ap (on_first w x rest (picks_of (t.picks ++ z))) f
      ∙ ap (λ b. cond b (went (record { moments = wait_moments M w x; trail = one_record M x fate.Waits; picks = [] }) (wait_world M w x rest))
      (fell (at_op M x fault.Full) (record { moments = asked x true ∷ ask_along (real M) w.env (marks_of w.memory.states) (x ∷ chain_of M w x); trail = []; picks = [] }) (closed_waiting M w x rest))) room
      ∙ end_went t _ v _ tq wq
  step_decides w t v z (rewrites x rest ks c u a q cv f r h tq wq) =
      same_picks w t ks z (ap (λ (y : Told M). y.picks) tq) ∙ taking w ks x rest a.calm a.front ∙ to_rewrite w x rest ks c u (Ok tt) q cv f r ∙ ap (on_batch w x rest ks c u) h ∙ end_went t _ v _ tq wq

  pub fault_decides : (w : World C) (g : Failure) (t : Told M) (v : World C) (z : List (List Pick)) → Fails M w g t v → decide w (picks_of (t.picks ++ z)) ≡ fell g t v
  fault_decides w g t v z (type_fault p rest n f a c r gq tq wq) =
      asks_type w (picks_of (t.picks ++ z)) p rest n a.pending a.type ∙ to_answer w p rest n c ∙ ap (on_answer w p rest n) r ∙ end_fell g _ t _ v _ gq tq wq
  fault_decides w g t v z (type_batch p rest n u f a c r s d h gq tq wq) =
      asks_type w (picks_of (t.picks ++ z)) p rest n a.pending a.type ∙ to_answer w p rest n c ∙ to_reply w p rest n u r s ∙ ap (on_reply w p n u) d ∙ ap (on_type_batch w p n u) h ∙ end_fell g _ t _ v _ gq tq wq
  fault_decides w g t v z (circle x d rest a q c b gq tq wq) =
      taking w (picks_of (t.picks ++ z)) x rest a.calm a.front ∙ to_beyond w x rest (picks_of (t.picks ++ z)) q c ∙ ap (on_beyond w x rest (picks_of (t.picks ++ z))) b ∙ end_fell g _ t _ v _ gq tq wq
  fault_decides w g t v z (no_room x d rest a q c f b room gq tq wq) =
      taking w (picks_of (t.picks ++ z)) x rest a.calm a.front ∙ to_beyond w x rest (picks_of (t.picks ++ z)) q c ∙ ap (on_beyond w x rest (picks_of (t.picks ++ z))) b ∙ ap (on_first w x rest (picks_of (t.picks ++ z))) f
      ∙ ap (λ b. cond b (went (record { moments = wait_moments M w x; trail = one_record M x fate.Waits; picks = [] }) (wait_world M w x rest))
      (fell (at_op M x fault.Full) (record { moments = asked x true ∷ ask_along (real M) w.env (marks_of w.memory.states) (x ∷ chain_of M w x); trail = []; picks = [] }) (closed_waiting M w x rest))) room
      ∙ end_fell g _ t _ v _ gq tq wq
  fault_decides w g t v z (rewrite_fault x rest ks c u f a q cv fo r gq tq wq) =
      same_picks w t ks z (ap (λ (y : Told M). y.picks) tq) ∙ taking w ks x rest a.calm a.front ∙ to_rewrite w x rest ks c u (Err f) q cv fo r ∙ end_fell g _ t _ v _ gq tq wq
  fault_decides w g t v z (rewrite_batch x rest ks c u f a q cv fo r h gq tq wq) =
      same_picks w t ks z (ap (λ (y : Told M). y.picks) tq) ∙ taking w ks x rest a.calm a.front ∙ to_rewrite w x rest ks c u (Ok tt) q cv fo r ∙ ap (on_batch w x rest ks c u) h ∙ end_fell g _ t _ v _ gq tq wq

  some_none : (f : Failure) → None ≡ Some f → ⊥
  some_none f e = let z : ◌≡◌ {A = ℕ} 0 1 = cc in omega arith

  some_some : (f g : Failure) → Some f ≡ Some g → f ≡ g
  some_some f g e = cc

  pub steps_determined : StepsDetermined M
  steps_determined = record {
    one_step = λ w t u v v' a b e.
        let q : went t v ≡ went u v' = sym (step_decides w t v [] a) ∙ ap (λ z. decide w (picks_of (z ++ []))) e ∙ step_decides w u v' [] b in
        (ap (λ (z : Ended). z.told) q, ap (λ (z : Ended). z.world) q);
    one_fault = λ w f g t u v v' a b e.
        let q : fell f t v ≡ fell g u v' = sym (fault_decides w f t v [] a) ∙ ap (λ z. decide w (picks_of (z ++ []))) e ∙ fault_decides w g u v' [] b in
        (some_some f g (ap (λ (z : Ended). z.failure) q), ap (λ (z : Ended). z.told) q, ap (λ (z : Ended). z.world) q);
    not_both = λ w f t u v v' a b e.
        let q : went t v ≡ fell f u v' = sym (step_decides w t v [] a) ∙ ap (λ z. decide w (picks_of (z ++ []))) e ∙ fault_decides w f u v' [] b in
        some_none f (ap (λ (z : Ended). z.failure) q);
  }
