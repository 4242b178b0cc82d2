-- The calls, too, are fixed by the slots picked.
use Rattle.std.proofs.Common.{◌≡◌, ℕ, ◌<◌, Bool, true, false, List, [], ◌∷◌, ◌++◌, is_some, Some, None, Ok, Err, Option, Result, sym, refl, ap, ◌∙◌, subst, inl, inr, append_assoc, append-nil, arith}
use Rattle.std.proofs.lemmas.Bool.{cases_Bool, cases_eq, cases_lt, both_ways}
use Rattle.model.specs.declared.ids.OpId.{OpId}
use Rattle.model.specs.Model.{find_op}
use Rattle.calls.specs.World.{Pick}
use Rattle.rules.specs.declared.interface.Answer.TheVariants as answer
use Rattle.rules_next.specs.declared.interface.Fault.{Fault}
use Rattle.rules_next.specs.declared.interface.Fault.TheVariants as fault
use Rattle.rules_next.specs.declared.interface.Failure.{Failure}
use Rattle.rules_next.specs.declared.interface.Report.{Report}
use Rattle.rules_next.specs.Meaning.{Meaning}
use Rattle.rules.specs.Driver.{Room, model_of}
use Rattle.rules_next.specs.Driver.{World}
use Rattle.rules_next.specs.Rules.{Told, Step, Run, start, more, Ran, not_open, is_done, stopped, closes, nothing, both, tidied, has_work, may_go, runs, status_of, report, done_world, Begun, not_live, unfinished, is_full, begins, at_op, walked, begun_world, is_open}
use Rattle.rules_next.specs.Determined.{RulesDetermined}
use Rattle.rules_next.proofs.Deciding.{Ended, went, picks_of, decide, step_decides, fault_decides, steps_determined}

cancel : {A : Type 0} (xs ys zs : List A) → xs ++ ys ≡ xs ++ zs → ys ≡ zs
cancel [] ys zs e = e
cancel (x ∷ xs) ys zs e = cancel xs ys zs cc

module _ {C : Type 0} (M : Meaning C) where
  -- what a run comes to
  record Final : Type 0 where
    answer : Report
    told : Told M
    world : World C

  some_none : (f : Final) → ◌≡◌ {A = Option Final} (Some f) None → ⊥
  some_none f e = let z : ◌≡◌ {A = ℕ} 0 1 = cc in omega arith

  some_some : (f g : Final) → ◌≡◌ {A = Option Final} (Some f) (Some g) → f ≡ g
  some_some f g e = cc

  abbrev after_step : Told M → Ended M → Option Failure → Option Final
  after_step b d None = None
  after_step b d (Some f) = Some (record { answer = report M (Err f) d.world; told = both M b d.told; world = d.world })

  abbrev on_may : Told M → World C → List Pick → Bool → Option Final
  on_may b v ks true = after_step b (decide M (tidied M v) ks) (decide M (tidied M v) ks).failure
  on_may b v ks false = Some (record { answer = report M (Ok answer.Stopped) v; told = b; world = tidied M v })

  module _ (budget size : ℕ) where
    abbrev on_work : Told M → ℕ → World C → List Pick → Bool → Option Final
    on_work b n v ks true = on_may b v ks (may_go M budget size n b v)
    on_work b n v ks false = Some (record { answer = report M (Ok (answer.Done (status_of v.changed))) v; told = b; world = done_world M (tidied M v) })

    -- the end after n steps, or none
    abbrev final : Told M → ℕ → World C → List Pick → Option Final
    final b n v ks = on_work b n v ks (has_work M (tidied M v))

    module _ (w : World C) where
      same_run : (b d : Told M) (k j : ℕ) (v u : World C) (y z : List (List Pick)) → Run M w budget size b k v → Run M w budget size d j u → k ≡ j → b.picks ++ y ≡ d.picks ++ z → (b ≡ d) × (v ≡ u) × (y ≡ z)
      same_run b d k j v u y z (start e q g) (start e' q' g') n p = (
        e ∙ sym e',
        g ∙ sym g',
        ap (λ (t : Told M). t.picks ++ y) (sym e) ∙ p ∙ ap (λ (t : Told M). t.picks ++ z) e',
      )
      same_run b d k j v u y z (start e q g) (more b₀ a i v₀ r hw mg s e' q') n p = absurd (omega (arith, n, q, q'))
      same_run b d k j v u y z (more b₀ a i v₀ r hw mg s e q) (start e' q' g') n p = absurd (omega (arith, n, q, q'))
      same_run b d k j v u y z (more b₀ a i v₀ r hw mg s e q) (more d₀ c l u₀ r' hw' mg' s' e' q') n p =
          let one = ap (λ (t : Told M). t.picks ++ y) e ∙ append_assoc b₀.picks a.picks y in
          let two = ap (λ (t : Told M). t.picks ++ z) e' ∙ append_assoc d₀.picks c.picks z in
          let h = same_run b₀ d₀ i l v₀ u₀ (a.picks ++ y) (c.picks ++ z) r r' (omega (arith, n, q, q')) (sym one ∙ p ∙ two) in
          let same : went M a v ≡ went M c u = sym (step_decides M (tidied M v₀) a v y s) ∙ (λ i. decide M (tidied M (h.1 i)) (picks_of M (h.2 i))) ∙ step_decides M (tidied M u₀) c u z s' in
          let t : a ≡ c = ap (λ (x : Ended M). x.told) same in (
            e ∙ (λ i. both M (h.0 i) (t i)) ∙ sym e',
            ap (λ (x : Ended M). x.world) same,
            cancel a.picks y z (h.2 ∙ ap (λ (x : Told M). x.picks ++ z) (sym t)),
          )

      -- a longer run goes on where a shorter one is
      record Goes (k : ℕ) (p : List (List Pick)) : Type 0 where
        before : Told M
        world : World C
        picks : List (List Pick)
        run : Run M w budget size before k world
        no_end : final before k world (picks_of M picks) ≡ None
        whole : before.picks ++ picks ≡ p

      goes_on : (b a : Told M) (k : ℕ) (v u : World C) (z : List (List Pick)) → has_work M (tidied M v) ≡ true → may_go M budget size k b v ≡ true → Step M (tidied M v) a u → final b k v (picks_of M (a.picks ++ z)) ≡ None
      goes_on b a k v u z hw mg s =
          ap (on_work b k v (picks_of M (a.picks ++ z))) hw ∙ ap (on_may b v (picks_of M (a.picks ++ z))) mg ∙ ap (λ (d : Ended M). after_step b d d.failure) (step_decides M (tidied M v) a u z s)

      shorter : (b : Told M) (j : ℕ) (v : World C) (z : List (List Pick)) → Run M w budget size b j v → (k : ℕ) → k < j → Goes k (b.picks ++ z)
      shorter b j v z (start e q g) k l = absurd (omega (arith, l, q))
      shorter b j v z (more b₀ a i v₀ r hw mg s e q) k l =
          let one = sym (ap (λ (t : Told M). t.picks ++ z) e ∙ append_assoc b₀.picks a.picks z) in
          elim (cases_eq k i) [
            | inl d ↦ subst (λ n. Goes n (b.picks ++ z)) (sym d) (record { before = b₀; world = v₀; picks = a.picks ++ z; run = r; no_end = goes_on b₀ a i v₀ v z hw mg s; whole = one })
            | inr ne ↦ subst (Goes k) one (shorter b₀ i v₀ (a.picks ++ z) r k (omega (arith, l, q, ne)))
          ]

      -- a run that is not refused
      record Going (f : Final) : Type 0 where
        before : Told M
        count : ℕ
        world : World C
        picks : List (List Pick)
        run : Run M w budget size before count world
        end : final before count world (picks_of M picks) ≡ Some f
        whole : before.picks ++ picks ≡ f.told.picks

      going : (room : Room) (r : Report) (t : Told M) (v : World C) → Ran M w budget size room r t v → runs M w room ≡ true → Going (record { answer = r; told = t; world = v })
      going room r t v (not_open g q e d) o = absurd (both_ways _ g o)
      going room r t v (is_done n u g h k q d) o = record {
        before = t;
        count = n;
        world = u;
        picks = [];
        run = h;
        end = ap (on_work t n u []) k ∙ (λ i. Some (record { answer = sym q i; told = t; world = sym d i }));
        whole = append-nil t.picks;
      }
      going room r t v (stopped n u g h k m q d) o = record {
        before = t;
        count = n;
        world = u;
        picks = [];
        run = h;
        end = ap (on_work t n u []) k ∙ ap (on_may t u []) m ∙ (λ i. Some (record { answer = sym q i; told = t; world = sym d i }));
        whole = append-nil t.picks;
      }
      going room r t v (closes b a n u f g h k m s q d) o = record {
        before = b;
        count = n;
        world = u;
        picks = a.picks ++ [];
        run = h;
        end = ap (on_work b n u (picks_of M (a.picks ++ []))) k ∙ ap (on_may b u (picks_of M (a.picks ++ []))) m ∙ ap (λ (x : Ended M). after_step b x x.failure) (fault_decides M (tidied M u) f a v [] s)
            ∙ (λ i. Some (record { answer = sym q i; told = sym d i; world = v }));
        whole = ap (λ z. b.picks ++ z) (append-nil a.picks) ∙ ap (λ (z : Told M). z.picks) (sym d);
      }

      longer : (f g : Final) → (x : Going f) (y : Going g) → f.told.picks ≡ g.told.picks → x.count < y.count → ⊥
      longer f g x y e l =
          let s = shorter y.before y.count y.world y.picks y.run x.count l in
          let h = same_run x.before s.before x.count x.count x.world s.world x.picks s.picks x.run s.run refl (x.whole ∙ e ∙ sym y.whole ∙ sym s.whole) in
          some_none f (sym x.end ∙ (λ i. final (h.0 i) x.count (h.1 i) (picks_of M (h.2 i))) ∙ s.no_end)

      one_end : (f g : Final) → Going f → Going g → f.told.picks ≡ g.told.picks → f ≡ g
      one_end f g x y e = elim (cases_eq x.count y.count) [
        | inl n ↦
            let h = same_run x.before y.before x.count y.count x.world y.world x.picks y.picks x.run y.run n (x.whole ∙ e ∙ sym y.whole) in
            some_some f g (sym x.end ∙ (λ i. final (h.0 i) (n i) (h.1 i) (picks_of M (h.2 i))) ∙ y.end)
        | inr ne ↦ elim (cases_lt x.count y.count) [
          | inl l ↦ absurd (longer f g x y e l)
          | inr l ↦ absurd (longer g f y x (sym e) (omega (arith, l, ne)))
        ]
      ]

      abbrev is_refused : Final
      is_refused = record { answer = report M (Err (record { fault = fault.NotOpen; hand = None })) w; told = nothing M; world = w }

      refuses : (room : Room) (r : Report) (t : Told M) (v : World C) → Ran M w budget size room r t v → runs M w room ≡ false → ◌≡◌ {A = Final} (record { answer = r; told = t; world = v }) is_refused
      refuses room r t v (not_open g q e d) o = λ i. record { answer = q i; told = e i; world = d i }
      refuses room r t v (is_done n u g h k q d) o = absurd (both_ways _ o g)
      refuses room r t v (stopped n u g h k m q d) o = absurd (both_ways _ o g)
      refuses room r t v (closes b a n u f g h k m s q d) o = absurd (both_ways _ o g)

      one_final : (room : Room) (r r' : Report) (t u : Told M) (v v' : World C) → Ran M w budget size room r t v → Ran M w budget size room r' u v' → t.picks ≡ u.picks
          → ◌≡◌ {A = Final} (record { answer = r; told = t; world = v }) (record { answer = r'; told = u; world = v' })
      one_final room r r' t u v v' x y e = elim (cases_Bool (runs M w room)) [
        | inl o ↦ one_end _ _ (going room r t v x o) (going room r' u v' y o) e
        | inr o ↦ refuses room r t v x o ∙ sym (refuses room r' u v' y o)
      ]

  pub one_run : (w : World C) (budget size : ℕ) (room : Room) (r r' : Report) (t u : Told M) (v v' : World C) → Ran M w budget size room r t v → Ran M w budget size room r' u v' → t.picks ≡ u.picks
      → (r ≡ r') × (t ≡ u) × (v ≡ v')
  one_run w budget size room r r' t u v v' x y e =
      let h = one_final budget size w room r r' t u v v' x y e in
      (ap (λ (f : Final). f.answer) h, ap (λ (f : Final). f.told) h, ap (λ (f : Final). f.world) h)

  -- the beginning
  record First : Type 0 where
    answer : Result ℕ Failure
    told : Told M
    world : World C

  module _ (w : World C) (root : OpId) (room : Room) where
    abbrev refused_by : Fault → First
    refused_by f = record { answer = Err (at_op M root f); told = nothing M; world = w }

    abbrev on_walk : Option Fault → First
    on_walk (Some f) = refused_by f
    on_walk None = record { answer = Ok (walked M w root room).load.queued; told = record { moments = (walked M w root room).load.moments; trail = []; picks = [] }; world = begun_world M w root room }

    abbrev on_phase : Bool → First
    on_phase true = refused_by fault.Unfinished
    on_phase false = on_walk (walked M w root room).fault

    abbrev on_root : Bool → First
    on_root false = refused_by fault.NotLive
    on_root true = on_phase (is_open w.phase)

    first_is : (r : Result ℕ Failure) (t : Told M) (v : World C) → Begun M w root room r t v → ◌≡◌ {A = First} (record { answer = r; told = t; world = v }) (on_root (is_some (find_op (model_of w.env) root)))
    first_is r t v (not_live l q e d) = (λ i. record { answer = q i; told = e i; world = d i }) ∙ sym (ap on_root l)
    first_is r t v (unfinished l o q e d) = (λ i. record { answer = q i; told = e i; world = d i }) ∙ sym (ap on_root l ∙ ap on_phase o)
    first_is r t v (is_full f l o h q e d) = (λ i. record { answer = q i; told = e i; world = d i }) ∙ sym (ap on_root l ∙ ap on_phase o ∙ ap on_walk h)
    first_is r t v (begins l o h q e d) = (λ i. record { answer = q i; told = e i; world = d i }) ∙ sym (ap on_root l ∙ ap on_phase o ∙ ap on_walk h)

  one_begin : (w : World C) (root : OpId) (room : Room) (r r' : Result ℕ Failure) (t u : Told M) (v v' : World C) → Begun M w root room r t v → Begun M w root room r' u v' → (r ≡ r') × (t ≡ u) × (v ≡ v')
  one_begin w root room r r' t u v v' x y =
      let h = first_is w root room r t v x ∙ sym (first_is w root room r' u v' y) in
      (ap (λ (f : First). f.answer) h, ap (λ (f : First). f.told) h, ap (λ (f : First). f.world) h)

pub rules_determined : (C : Type 0) → RulesDetermined C
rules_determined C M = record { steps = steps_determined M; one_run = one_run M; one_begin = one_begin M }
