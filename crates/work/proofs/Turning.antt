-- Nodes that are met one after another.
use Rattle.std.proofs.Common.{◌≡◌, ℕ, ◌+◌, ◌≤◌, List, [], ◌∷◌, ◌++◌, length, Some, None, Ok, Err, Option, Result, refl, ap, ◌∙◌, subst, arith}
use Rattle.model.specs.declared.ids.OpId.{OpId}
use Rattle.model.specs.declared.ids.BlockId.{BlockId}
use Rattle.model.specs.declared.ids.IRNode.{IRNode}
use Rattle.law.specs.Machine.{Moment}
use Rattle.rules_next.specs.declared.interface.Fault.{Fault}
use Rattle.rules_next.specs.Meaning.{Meaning}
use Rattle.rules.specs.Histories.{History}
use Rattle.rules.specs.Setting.{Env}
use Rattle.rules_next.specs.Setting.{real}
use Rattle.rules.specs.Driver.{Memory, Room}
use Rattle.rules_next.specs.Driver.{Load, Handled, fine, stops, onward, and_then, meet_node, meet_nodes}
use Rattle.work.specs.declared.work.Work.{Work}
use Rattle.work.specs.declared.work.lent.Lent.{Lent}
use Rattle.work.specs.Lent.{Same}
use Rattle.work.specs.Work.{memory_of, room_of, Fits, load_of, Met}
use Rattle.work.proofs.Meets.{leaves_by}

module _ {C : Type 0} (M : Meaning C) (e : Env C) (room : Room) (hand : Option OpId) where
  after_one : (f : Option Fault) (l : Load M) → onward M f l (fine M) ≡ record { load = l; fault = f }
  after_one None l = refl
  after_one (Some g) l = refl

  -- one node
  pub single : (l : Load M) (n : IRNode) → meet_nodes M e room hand l (n ∷ []) ≡ meet_node M e room hand l n
  single l n = after_one (meet_node M e room hand l n).fault (meet_node M e room hand l n).load

  twice : (f : Option Fault) (l : Load M) (g h : Load M → Handled M) → onward M f l (λ k. and_then M (g k) h) ≡ and_then M (onward M f l g) h
  twice None l g h = refl
  twice (Some q) l g h = refl

  -- the nodes of a list, and then those of another
  segment : (l : Load M) (ns rest : List IRNode) → meet_nodes M e room hand l (ns ++ rest) ≡ and_then M (meet_nodes M e room hand l ns) (λ k. meet_nodes M e room hand k rest)
  segment l [] rest = refl
  segment l (n ∷ ns) rest =
      (λ i. onward M (meet_node M e room hand l n).fault (meet_node M e room hand l n).load (λ k. segment k ns rest i))
      ∙ twice (meet_node M e room hand l n).fault (meet_node M e room hand l n).load (λ k. meet_nodes M e room hand k ns) (λ k. meet_nodes M e room hand k rest)

  turn : (l : Load M) (ns rest : List IRNode) (y : Memory) (q : ℕ) → (meet_nodes M e room hand l ns).load.memory ≡ y → (meet_nodes M e room hand l ns).load.queued ≡ q → (meet_nodes M e room hand l ns).fault ≡ None
      → meet_nodes M e room hand l (ns ++ rest) ≡ meet_nodes M e room hand (load_of M y q (meet_nodes M e room hand l ns).load.moments) rest
  turn l ns rest y q me qe fe =
      segment l ns rest
      ∙ ap (λ f. onward M f (meet_nodes M e room hand l ns).load (λ k. meet_nodes M e room hand k rest)) fe
      ∙ (λ i. meet_nodes M e room hand (record { memory = me i; queued = qe i; moments = (meet_nodes M e room hand l ns).load.moments }) rest)

  stop : (l : Load M) (ns rest : List IRNode) (f : Fault) → (meet_nodes M e room hand l ns).fault ≡ Some f → meet_nodes M e room hand l (ns ++ rest) ≡ stops M (meet_nodes M e room hand l ns).load f
  stop l ns rest f fe = segment l ns rest ∙ ap (λ g. onward M g (meet_nodes M e room hand l ns).load (λ k. meet_nodes M e room hand k rest)) fe

-- A batch F that has come to a list of nodes that are still to be met, i of its turns being over.
module _ {C : Type 0} {M : Meaning C} (F : Room → Load M → Handled M) (e : Env C) (hand : Option OpId) (k₀ : Work) (xs₀ : List OpId) (ys₀ : List BlockId) (q₀ : ℕ) where
  pub record Turning (k : Work) (xs : List OpId) (ys : List BlockId) (q i : ℕ) (rest : List IRNode) : Type 0 where
    pub fits : Fits k xs ys
    pub entries : length xs ≡ length xs₀
    pub blocks : length ys ≡ length ys₀
    pub few : q ≤ q₀ + i
    pub on : (hs : List History) (ms : List (Moment (real M)))
        → (ns : List (Moment (real M))) × (F (room_of xs₀ ys₀) (load_of M (memory_of k₀ xs₀ ys₀ hs) q₀ ms) ≡ meet_nodes M e (room_of xs₀ ys₀) hand (load_of M (memory_of k xs ys hs) q ns) rest)

  pub starts : (rest : List IRNode) → Fits k₀ xs₀ ys₀ → ((room : Room) (l : Load M) → F room l ≡ meet_nodes M e room hand l rest) → Turning k₀ xs₀ ys₀ q₀ 0 rest
  starts rest f h = record { fits = f; entries = refl; blocks = refl; few = omega arith; on = λ hs ms. (ms, h (room_of xs₀ ys₀) (load_of M (memory_of k₀ xs₀ ys₀ hs) q₀ ms)) }

  pub again : (k k' : Work) (xs xs' : List OpId) (ys ys' : List BlockId) (q q' i : ℕ) (new rest : List IRNode) → Turning k xs ys q i (new ++ rest)
      → Met {M = M} (λ room l. meet_nodes M e room hand l new) 1 k xs ys q k' xs' ys' q' (Ok tt) → Turning k' xs' ys' q' (i + 1) rest
  again k k' xs xs' ys ys' q q' i new rest t m =
      let same : room_of xs ys ≡ room_of xs₀ ys₀ = λ j. record { entries = t.entries j; blocks = t.blocks j } in
      record {
        fits = m.fits;
        entries = m.entries ∙ t.entries;
        blocks = m.blocks ∙ t.blocks;
        few = omega (arith, m.few, t.few);
        on = λ hs ms.
            let was = t.on hs ms in
            let l = load_of M (memory_of k xs ys hs) q was.0 in
            let left = m.leaves hs in (
              _,
              was.1 ∙ turn M e (room_of xs₀ ys₀) hand l new rest (memory_of k' xs' ys' hs) q'
                  (subst (λ room. (meet_nodes M e room hand l new).load.memory ≡ memory_of k' xs' ys' hs) same (left.memory was.0))
                  (subst (λ room. (meet_nodes M e room hand l new).load.queued ≡ q') same (left.queued was.0))
                  (subst (λ room. (meet_nodes M e room hand l new).fault ≡ None) same (left.fault was.0)),
            );
      }

  pub fails : (k k' : Work) (xs xs' : List OpId) (ys ys' : List BlockId) (q q' i size : ℕ) (new rest : List IRNode) (f : Fault) → Turning k xs ys q i (new ++ rest)
      → Met {M = M} (λ room l. meet_nodes M e room hand l new) 1 k xs ys q k' xs' ys' q' (Err f) → i + 1 ≤ size → Met F size k₀ xs₀ ys₀ q₀ k' xs' ys' q' (Err f)
  fails k k' xs xs' ys ys' q q' i size new rest f t m b =
      let same : room_of xs ys ≡ room_of xs₀ ys₀ = λ j. record { entries = t.entries j; blocks = t.blocks j } in
      let ends : (hs : List History) (ms : List (Moment (real M)))
      → F (room_of xs₀ ys₀) (load_of M (memory_of k₀ xs₀ ys₀ hs) q₀ ms) ≡ stops M (meet_nodes M e (room_of xs₀ ys₀) hand (load_of M (memory_of k xs ys hs) q (t.on hs ms).0) new).load f =
      λ hs ms. (t.on hs ms).1 ∙ stop M e (room_of xs₀ ys₀) hand (load_of M (memory_of k xs ys hs) q (t.on hs ms).0) new rest f
      (subst (λ room. (meet_nodes M e room hand (load_of M (memory_of k xs ys hs) q (t.on hs ms).0) new).fault ≡ Some f) same ((m.leaves hs).fault (t.on hs ms).0)) in
      record {
        fits = m.fits;
        entries = m.entries ∙ t.entries;
        blocks = m.blocks ∙ t.blocks;
        few = omega (arith, m.few, t.few, b);
        leaves = λ hs. record {
          memory = λ ms. ap (λ (h : Handled M). h.load.memory) (ends hs ms) ∙ subst (λ room. (meet_nodes M e room hand (load_of M (memory_of k xs ys hs) q (t.on hs ms).0) new).load.memory ≡ memory_of k' xs' ys' hs) same ((m.leaves hs).memory (t.on hs ms).0);
          queued = λ ms. ap (λ (h : Handled M). h.load.queued) (ends hs ms) ∙ subst (λ room. (meet_nodes M e room hand (load_of M (memory_of k xs ys hs) q (t.on hs ms).0) new).load.queued ≡ q') same ((m.leaves hs).queued (t.on hs ms).0);
          fault = λ ms. ap (λ (h : Handled M). h.fault) (ends hs ms);
        };
      }

  pub ends : (k : Work) (xs : List OpId) (ys : List BlockId) (q i size : ℕ) (rest : List IRNode) → Turning k xs ys q i rest → rest ≡ [] → i ≤ size → Met F size k₀ xs₀ ys₀ q₀ k xs ys q (Ok tt)
  ends k xs ys q i size rest t d b =
      let over : (hs : List History) (ms : List (Moment (real M))) → F (room_of xs₀ ys₀) (load_of M (memory_of k₀ xs₀ ys₀ hs) q₀ ms) ≡ fine M (load_of M (memory_of k xs ys hs) q (t.on hs ms).0) =
      λ hs ms. (t.on hs ms).1 ∙ ap (meet_nodes M e (room_of xs₀ ys₀) hand (load_of M (memory_of k xs ys hs) q (t.on hs ms).0)) d in
      record {
        fits = t.fits;
        entries = t.entries;
        blocks = t.blocks;
        few = omega (arith, t.few, b);
        leaves = λ hs. record {
          memory = λ ms. ap (λ (h : Handled M). h.load.memory) (over hs ms);
          queued = λ ms. ap (λ (h : Handled M). h.load.queued) (over hs ms);
          fault = λ ms. ap (λ (h : Handled M). h.fault) (over hs ms);
        };
      }

-- what comes of one node comes of the list of it
pub met_single : {C : Type 0} (M : Meaning C) (e : Env C) (hand : Option OpId) (n o : IRNode) → n ≡ o → (size : ℕ) (k k' : Work) (xs xs' : List OpId) (ys ys' : List BlockId) (q q' : ℕ) (r : Result (Unit {0}) Fault)
    → Met {M = M} (λ room l. meet_node M e room hand l o) size k xs ys q k' xs' ys' q' r → Met {M = M} (λ room l. meet_nodes M e room hand l (n ∷ [])) size k xs ys q k' xs' ys' q' r
met_single M e hand n o d size k k' xs xs' ys ys' q q' r m = record {
  fits = m.fits;
  entries = m.entries;
  blocks = m.blocks;
  few = m.few;
  leaves = λ hs. leaves_by (λ ms. meet_nodes M e (room_of xs ys) hand (load_of M (memory_of k xs ys hs) q ms) (n ∷ [])) (λ ms. meet_node M e (room_of xs ys) hand (load_of M (memory_of k xs ys hs) q ms) o) (memory_of k' xs' ys' hs) q' r
      (λ ms. single M e (room_of xs ys) hand (load_of M (memory_of k xs ys hs) q ms) n ∙ ap (meet_node M e (room_of xs ys) hand (load_of M (memory_of k xs ys hs) q ms)) d) (m.leaves hs);
}

-- a loan that stays, and stays
pub joined : {s t u : Lent} → Same s t → Same t u → Same s u
joined a b = record { work = b.work ∙ a.work; entries = b.entries ∙ a.entries; blocks = b.blocks ∙ a.blocks; queued = b.queued ∙ a.queued }
