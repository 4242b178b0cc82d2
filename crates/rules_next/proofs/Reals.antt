-- The store and a conversion have what the law needs.
use Rattle.std.specs.Prelude.{List}
use Rattle.model.specs.declared.ids.OpId.{OpId}
use Rattle.model.specs.Sound.{Among}
use Rattle.calls.specs.declared.events.RecorderEvent.{RecorderEvent}
use Rattle.law.specs.Laws.{Laws}
use Rattle.rules.specs.Setting.{Env, aimed, Good}
use Rattle.rules.proofs.Recorded.{Stands}
use Rattle.rules.proofs.Reals.{Leads, ByCalls, calls_lead, calls_stand, store_laws}
use Rattle.rules_next.specs.Meaning.{Meaning}
use Rattle.rules_next.specs.Setting.{Rewrites, real}

module _ {C : Type 0} (M : Meaning C) where
  abbrev pub by_calls : (e : Env C) (x : OpId) (d : Env C) (is : List OpId) → Rewrites M e x d is → ByCalls e x d is
  by_calls e x d is r = record {
    calls = (M.rewrite e.value (aimed e.world x) x r.histories r.picks).calls;
    picks = r.picks;
    left = r.left;
    could = r.rewrote.could;
    leaves = r.rewrote.leaves;
    out = r.out;
    inserts = r.inserts;
  }

  pub rewrite_leads : (e : Env C) (x : OpId) (d : Env C) (is : List OpId) → Good e → Rewrites M e x d is → Leads e.world.model d.world.model
  rewrite_leads e x d is ok r = calls_lead e x d is ok (by_calls e x d is r)

  -- what its records tell
  pub left_stands : (e : Env C) (x : OpId) (d : Env C) (is : List OpId) → Good e → (r : Rewrites M e x d is) → (v : RecorderEvent) → Among v r.left.records → Stands r.left.model v
  left_stands e x d is ok r v i = calls_stand e x d is ok (by_calls e x d is r) v i

  pub laws : Laws (real M)
  laws = store_laws M.can_op (Rewrites M) by_calls
