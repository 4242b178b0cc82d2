-- The numbers of the refusals, and their words.
use Rattle.std.specs.Prelude.{ℕ, List, codes}
use Rattle.model.specs.declared.refusal.Refusal.{Refusal}
use Rattle.model.specs.declared.refusal.Refusal.TheVariants.{NoSlot, TooMany, NotLive, PointUnset, InBlock, NoBlock, Inside, CountsDiffer, StillUsed, OwnValue, RecordsFull}

abbrev pub number_of : Refusal → ℕ
number_of NoSlot = 1
number_of TooMany = 2
number_of NotLive = 3
number_of PointUnset = 4
number_of InBlock = 5
number_of NoBlock = 6
number_of Inside = 7
number_of CountsDiffer = 8
number_of StillUsed = 9
number_of OwnValue = 10
number_of RecordsFull = 11

abbrev pub words_of : Refusal → List ℕ
words_of NoSlot = codes "the store has no room for it"
words_of TooMany = codes "it has more operands, results or arguments than there is room for"
words_of NotLive = codes "it uses a value that is not there"
words_of PointUnset = codes "it has no place"
words_of InBlock = codes "it already lies in a block"
words_of NoBlock = codes "it lies in no block"
words_of Inside = codes "it would lie inside itself"
words_of CountsDiffer = codes "it has another number of results than what replaces it"
words_of StillUsed = codes "a value of it would still be used elsewhere"
words_of OwnValue = codes "what replaces it is made by it"
words_of RecordsFull = codes "there is no room for the records"
