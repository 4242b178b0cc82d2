-- What is found among moments.
use Rattle.std.proofs.Common.{◌≡◌, ◌≤◌, Bool, true, false, cond, ◌&&◌, List, [], ◌∷◌, ◌++◌, length, sym, refl, ap, ◌∙◌, append_assoc, arith}
use Rattle.law.specs.Lists.{add_all}
use Rattle.law.specs.Setting.{Setting}
use Rattle.law.specs.Laws.{Laws}
use Rattle.law.specs.Machine.{Mark, asking, Moment, met, asked, rewrote, ask, ask_all, ask_along, queue_each, lay_new, mark_new, lay_all, meet_all}
use Rattle.law.specs.Law.{each, rewrite_of, met_of, queue_of, rewrites_of, mets_of, queues_of, ever_of}
use Rattle.law.proofs.Lists.{add_all_append, length_add_all}

module _ (S : Setting) where
  pub each_append : (f : Moment S → List S.Op) (ms ns : List (Moment S)) → each {S = S} f (ms ++ ns) ≡ each {S = S} f ms ++ each {S = S} f ns
  each_append f [] ns = refl
  each_append f (m ∷ ms) ns = ap (λ zs. f m ++ zs) (each_append f ms ns) ∙ sym (append_assoc (f m) (each {S = S} f ms) (each {S = S} f ns))

  -- two parts of which f finds known things
  pub each_two : (f : Moment S → List S.Op) (ms ns : List (Moment S)) (us vs : List S.Op) → each {S = S} f ms ≡ us → each {S = S} f ns ≡ vs → each {S = S} f (ms ++ ns) ≡ us ++ vs
  each_two f ms ns us vs h k = each_append f ms ns ∙ ap (λ zs. zs ++ each {S = S} f ns) h ∙ ap (λ zs. us ++ zs) k

  module _ (f : Moment S → List S.Op) (quiet : (x : S.Op) (b : Bool) → f (asked x b) ≡ []) where
    pub each_ask : (e : S.Env) (st : S.Op → Mark) (y : S.Op) → each {S = S} f (ask S e st y) ≡ []
    each_ask e st y = go (S.live e y && asking (st y))
      where
        go : (b : Bool) → each {S = S} f (cond b (asked y (S.convertible e y) ∷ []) []) ≡ []
        go true = ap (λ zs. zs ++ []) (quiet y (S.convertible e y))
        go false = refl

    pub each_ask_all : (e : S.Env) (st : S.Op → Mark) (ys : List S.Op) → each {S = S} f (ask_all S e st ys) ≡ []
    each_ask_all e st [] = refl
    each_ask_all e st (y ∷ ys) = each_two f (ask S e st y) (ask_all S e st ys) [] [] (each_ask e st y) (each_ask_all e st ys)

    pub each_ask_along : (e : S.Env) (st : S.Op → Mark) (xs : List S.Op) → each {S = S} f (ask_along S e st xs) ≡ []
    each_ask_along e st [] = refl
    each_ask_along e st (x ∷ xs) = each_two f (ask_all S e st (S.definers e x)) (ask_along S e st xs) [] [] (each_ask_all e st (S.definers e x)) (each_ask_along e st xs)

  rewrites_queue_each : (ys : List S.Op) → rewrites_of (queue_each S ys) ≡ []
  rewrites_queue_each [] = refl
  rewrites_queue_each (y ∷ ys) = rewrites_queue_each ys

  mets_queue_each : (ys : List S.Op) → mets_of (queue_each S ys) ≡ []
  mets_queue_each [] = refl
  mets_queue_each (y ∷ ys) = mets_queue_each ys

  queues_queue_each : (ys : List S.Op) → queues_of (queue_each S ys) ≡ ys
  queues_queue_each [] = refl
  queues_queue_each (y ∷ ys) = ap (λ zs. y ∷ zs) (queues_queue_each ys)

  pub rewrites_meet_all : (e : S.Env) (st : S.Op → Mark) (ys : List S.Op) → rewrites_of (meet_all S e st ys) ≡ []
  rewrites_meet_all e st [] = refl
  rewrites_meet_all e st (y ∷ ys) =
      each_two rewrite_of (met y ∷ ask S e st y ++ queue_each S (lay_new S e st y)) (meet_all S e (mark_new S e st y) ys) [] []
      (each_two rewrite_of (met y ∷ ask S e st y) (queue_each S (lay_new S e st y)) [] [] (each_ask rewrite_of (λ x b. refl) e st y) (rewrites_queue_each (lay_new S e st y)))
      (rewrites_meet_all e (mark_new S e st y) ys)

  pub mets_meet_all : (e : S.Env) (st : S.Op → Mark) (ys : List S.Op) → mets_of (meet_all S e st ys) ≡ ys
  mets_meet_all e st [] = refl
  mets_meet_all e st (y ∷ ys) =
      each_two met_of (met y ∷ ask S e st y ++ queue_each S (lay_new S e st y)) (meet_all S e (mark_new S e st y) ys) (y ∷ []) ys
      (each_two met_of (met y ∷ ask S e st y) (queue_each S (lay_new S e st y)) (y ∷ []) [] (ap (λ zs. y ∷ zs) (each_ask met_of (λ x b. refl) e st y)) (mets_queue_each (lay_new S e st y)))
      (mets_meet_all e (mark_new S e st y) ys)

  pub queues_meet_all : (e : S.Env) (st : S.Op → Mark) (ys : List S.Op) → queues_of (meet_all S e st ys) ≡ lay_all S e st ys
  queues_meet_all e st [] = refl
  queues_meet_all e st (y ∷ ys) =
      each_two queue_of (met y ∷ ask S e st y ++ queue_each S (lay_new S e st y)) (meet_all S e (mark_new S e st y) ys) (lay_new S e st y) (lay_all S e (mark_new S e st y) ys)
      (each_two queue_of (met y ∷ ask S e st y) (queue_each S (lay_new S e st y)) [] (lay_new S e st y) (each_ask queue_of (λ x b. refl) e st y) (queues_queue_each (lay_new S e st y)))
      (queues_meet_all e (mark_new S e st y) ys)

  -- what a wait brings
  module _ (e : S.Env) (st : S.Op → Mark) (x : S.Op) (xs ys : List S.Op) where
    abbrev pub waiting : List (Moment S)
    waiting = asked x true ∷ ask_along S e st xs ++ queue_each S ys

    pub wait_rewrites : rewrites_of waiting ≡ []
    wait_rewrites = each_two rewrite_of (asked x true ∷ ask_along S e st xs) (queue_each S ys) [] [] (each_ask_along rewrite_of (λ x b. refl) e st xs) (rewrites_queue_each ys)

    pub wait_mets : mets_of waiting ≡ []
    wait_mets = each_two met_of (asked x true ∷ ask_along S e st xs) (queue_each S ys) [] [] (each_ask_along met_of (λ x b. refl) e st xs) (mets_queue_each ys)

    pub wait_queues : queues_of waiting ≡ ys
    wait_queues = each_two queue_of (asked x true ∷ ask_along S e st xs) (queue_each S ys) [] ys (each_ask_along queue_of (λ x b. refl) e st xs) (queues_queue_each ys)

  -- what a rewrite brings
  module _ (e d : S.Env) (st st' : S.Op → Mark) (x : S.Op) (ys is : List S.Op) where
    abbrev pub rewriting : List (Moment S)
    rewriting = asked x true ∷ ask_all S e st ys ++ rewrote x ∷ meet_all S d st' is

    pub rewrite_rewrites : rewrites_of rewriting ≡ x ∷ []
    rewrite_rewrites =
        each_two rewrite_of (asked x true ∷ ask_all S e st ys) (rewrote x ∷ meet_all S d st' is) [] (x ∷ []) (each_ask_all rewrite_of (λ x b. refl) e st ys) (ap (λ zs. x ∷ zs) (rewrites_meet_all d st' is))

    pub rewrite_mets : mets_of rewriting ≡ is
    rewrite_mets = each_two met_of (asked x true ∷ ask_all S e st ys) (rewrote x ∷ meet_all S d st' is) [] is (each_ask_all met_of (λ x b. refl) e st ys) (mets_meet_all d st' is)

    pub rewrite_queues : queues_of rewriting ≡ lay_all S d st' is
    rewrite_queues =
        each_two queue_of (asked x true ∷ ask_all S e st ys) (rewrote x ∷ meet_all S d st' is) [] (lay_all S d st' is) (each_ask_all queue_of (λ x b. refl) e st ys) (queues_meet_all d st' is)

  pub ever_append : (ms ns : List (Moment S)) → ever_of (ms ++ ns) ≡ add_all S.same (ever_of ms) (queues_of ns)
  ever_append ms ns = ap (add_all S.same []) (each_append queue_of ms ns) ∙ add_all_append S.same [] (queues_of ms) (queues_of ns)

module _ (S : Setting) (L : Laws S) where
  pub ever_grows : (ms ns : List (Moment S)) → length (ever_of ms) ≤ length (ever_of (ms ++ ns))
  ever_grows ms ns = omega (arith, length_add_all S.same L.same_is L.same_self (ever_of ms) (queues_of ns), ap length (ever_append S ms ns))
