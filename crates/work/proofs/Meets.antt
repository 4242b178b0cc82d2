-- What comes of an operation or a block that is met.
use Rattle.std.proofs.Common.{◌≡◌, ℕ, Bool, true, false, cond, eqb, List, [], ◌∷◌, ◌++◌, length, is_ok, OnOk, OnErr, Ok, Err, Result, sym, refl, ap, ◌∙◌, arith}
use Rattle.std.proofs.lemmas.List.{map-append}
use Rattle.std.proofs.lemmas.Bool.{eq-eqb, ne_eqb, cond-true}
use Rattle.model.specs.declared.ids.BlockId.{BlockId}
use Rattle.queue.specs.declared.queue.Queue.{Queue}
use Rattle.queue.specs.Contents.{contents}
use Rattle.law.specs.Machine.{Moment}
use Rattle.rules_next.specs.declared.interface.Fault.{Fault}
use Rattle.rules_next.specs.Meaning.{Meaning}
use Rattle.rules_next.specs.Setting.{real}
use Rattle.rules.specs.Driver.{Memory}
use Rattle.rules_next.specs.Driver.{Handled}
use Rattle.work.specs.Work.{waiting, pendings, Leaves}

-- one equation gives the three
pub leaves_by : {C : Type 0} {M : Meaning C} (h k : List (Moment (real M)) → Handled M) (y : Memory) (q : ℕ) (r : Result (Unit {0}) Fault) → ((ms : List (Moment (real M))) → h ms ≡ k ms)
    → Leaves k y q r → Leaves h y q r
leaves_by {C} {M} h k y q r e l = record {
  memory = λ ms. ap (λ (x : Handled M). x.load.memory) (e ms) ∙ l.memory ms;
  queued = λ ms. ap (λ (x : Handled M). x.load.queued) (e ms) ∙ l.queued ms;
  fault = λ ms. ap (λ (x : Handled M). x.fault) (e ms) ∙ l.fault ms;
}

-- a block goes behind those that are pending
pub pendings_more : (n : ℕ) (bs : List BlockId) (b : BlockId) → (bs ≡ [] → n ≡ 0) → pendings n (bs ++ b ∷ []) ≡ pendings n bs ++ waiting b ∷ []
pendings_more n [] b h = ap (λ k. record { block = b; next = k } ∷ []) (h refl)
pendings_more n (a ∷ bs) b h = ap (λ z. record { block = a; next = n } ∷ z) (map-append waiting bs (b ∷ []))

-- where none is pending, the next one begins with its first argument
abbrev pub begun : ℕ → ℕ → ℕ
begun k n = cond (eqb k 0) 0 n

pub begun_same : (k n : ℕ) (bs : List BlockId) → length bs ≡ k → pendings (begun k n) bs ≡ pendings n bs
begun_same k n [] e = refl
begun_same k n (b ∷ bs) e = ap (λ t. pendings (cond t 0 n) (b ∷ bs)) (ne_eqb k 0 (omega (arith, e)))

begun_none : (k n : ℕ) (bs : List BlockId) → length bs ≡ k → bs ≡ [] → begun k n ≡ 0
begun_none k n bs e d = cond-true (eqb k 0) 0 n (eq-eqb k 0 (sym e ∙ ap length d))

pub pushed : (k n : ℕ) (bs cs : List BlockId) (b : BlockId) (r : Bool) → length bs ≡ k → cs ≡ cond r (bs ++ b ∷ []) bs → pendings (begun k n) cs ≡ cond r (pendings n bs ++ waiting b ∷ []) (pendings n bs)
pushed k n bs cs b true e d = ap (pendings (begun k n)) d ∙ pendings_more (begun k n) bs b (begun_none k n bs e) ∙ ap (λ z. z ++ waiting b ∷ []) (begun_same k n bs e)
pushed k n bs cs b false e d = ap (pendings (begun k n)) d ∙ begun_same k n bs e

-- what a push leaves in a queue
pub held : {E : Type 0} (q q' : Queue) (ys ys' : List BlockId) (b : BlockId) (r : Result (Unit {0}) E) → OnOk r (contents q' ys' ≡ contents q ys ++ b ∷ []) → OnErr r ((q' ≡ q) × (ys' ≡ ys)) → contents q' ys' ≡ cond (is_ok r) (contents q ys ++ b ∷ []) (contents q ys)
held q q' ys ys' b (Ok x) i e = i
held q q' ys ys' b (Err f) i e = λ j. contents (e.0 j) (e.1 j)
