-- What the driver keeps, as its rules see it.
use Rattle.std.specs.Prelude.{◌≡◌, ℕ, ◌+◌, ◌≤◌, List, [], ◌∷◌, map, length, Some, None, Ok, Err, Option, Result}
use Rattle.model.specs.declared.ids.OpId.{OpId}
use Rattle.model.specs.declared.ids.BlockId.{BlockId}
use Rattle.queue.specs.Contents.{contents, Within}
use Rattle.law.specs.Machine.{Moment}
use Rattle.rules_next.specs.declared.interface.Fault.{Fault}
use Rattle.rules_next.specs.Meaning.{Meaning}
use Rattle.rules.specs.Histories.{History}
use Rattle.rules_next.specs.Setting.{real}
use Rattle.rules.specs.Driver.{Pending, Memory, Room}
use Rattle.rules_next.specs.Driver.{Load, Handled}
use Rattle.states.specs.States.{states_in}
use Rattle.work.specs.declared.work.Work.{Work}

-- the first of the blocks has come to its argument n, the others to none
abbrev pub waiting : BlockId → Pending
waiting b = record { block = b; next = 0 }

abbrev pub pendings : ℕ → List BlockId → List Pending
pendings n [] = []
pendings n (b ∷ bs) = record { block = b; next = n } ∷ map waiting bs

-- over the memory that is lent
abbrev pub pending_in : Work → List BlockId → List Pending
pending_in k ys = pendings k.next_argument (contents k.pending ys)

abbrev pub memory_of : Work → List OpId → List BlockId → List History → Memory
memory_of k xs ys hs = record { worklist = contents k.worklist xs; pending = pending_in k ys; states = states_in k.states; histories = hs }

abbrev pub room_of : List OpId → List BlockId → Room
room_of xs ys = record { entries = length xs; blocks = length ys }

-- the two queues lie in the memory that is lent
pub record Fits (k : Work) (xs : List OpId) (ys : List BlockId) : Type 0 where
  pub worklist : Within k.worklist xs
  pub pending : Within k.pending ys

abbrev pub fault_of : Result (Unit {0}) Fault → Option Fault
fault_of (Ok x) = None
fault_of (Err f) = Some f

-- what has happened before, and which histories are kept, goes with the batch
abbrev pub load_of : {C : Type 0} (M : Meaning C) → Memory → ℕ → List (Moment (real M)) → Load M
load_of M y q ms = record { memory = y; queued = q; moments = ms }

-- whatever had happened before, this comes of it
pub record Leaves {C : Type 0} {M : Meaning C} (h : List (Moment (real M)) → Handled M) (y : Memory) (q : ℕ) (r : Result (Unit {0}) Fault) : Type 0 where
  pub memory : (ms : List (Moment (real M))) → (h ms).load.memory ≡ y
  pub queued : (ms : List (Moment (real M))) → (h ms).load.queued ≡ q
  pub fault : (ms : List (Moment (real M))) → (h ms).fault ≡ fault_of r

-- A batch F that meets at most n operations leads from the one to the other, over the memory that is lent; r is how it ends.
pub record Met {C : Type 0} {M : Meaning C} (F : Room → Load M → Handled M) (n : ℕ) (k : Work) (xs : List OpId) (ys : List BlockId) (q : ℕ) (k' : Work) (xs' : List OpId) (ys' : List BlockId) (q' : ℕ) (r : Result (Unit {0}) Fault) : Type 0 where
  pub fits : Fits k' xs' ys'
  pub entries : length xs' ≡ length xs
  pub blocks : length ys' ≡ length ys
  pub few : q' ≤ q + n
  pub leaves : (hs : List History) → Leaves (λ ms. F (room_of xs ys) (load_of M (memory_of k xs ys hs) q ms)) (memory_of k' xs' ys' hs) q' r
