-- What a conversion sees, and what its rewrite may do.
use Rattle.std.specs.Prelude.{List, Result}
use Rattle.model.specs.declared.ids.OpId.{OpId}
use Rattle.calls.specs.World.{World, Pick}
use Rattle.store.specs.declared.store.Store.{Store}
use Rattle.rewriter.specs.declared.listener.Recorder.{Recorder}
use Rattle.rewriter.specs.declared.rewriter.IRRewriter.{IRRewriter}
use Rattle.rewriter.specs.Recorded.{recorded}
use Rattle.rewriter.specs.Seen.{world}
use Rattle.rules.specs.declared.interface.ConversionFault.{ConversionFault}
use Rattle.rules.specs.Histories.{History}
use Rattle.rules_next.specs.Meaning.{Meaning, Rewrote}

-- the store, and the rewriter with its insertion point and its records
abbrev pub seen : Store → IRRewriter Recorder → World
seen s r = world recorded s r

-- for some slots that could be used, the rewrite is as the conversion means it
pub record Rewritten {C : Type 0} (M : Meaning C) (c : C) (w : World) (o : OpId) (hs : List History) (d : C) (v : World) (r : Result (Unit {0}) ConversionFault) : Type 0 where
  pub picks : List Pick
  pub rewrote : Rewrote M c w o hs picks d v r
