use Rattle.store.specs.Meaning.{meaning as model}
use Rattle.work.proofs.Laying.{Laying}
use Rattle.work.proofs.work.Work.lay_front.Given as goal

abbrev pub invariant-loop-op : goal.invariant-loop-op
invariant-loop-op l = Laying (model l.store) l.ops l.initial.self l.initial.entries l.self l.entries l.op-iterator.iter.rest.now
