-- What the law of the worklist is about, here: operations of a store, and a conversion.
use Rattle.std.specs.Prelude.{◌≡◌, ◌⊎◌, List, is_some, Ok}
use Rattle.model.specs.declared.ids.OpId.{OpId}
use Rattle.model.specs.Model.{find_op}
use Rattle.calls.specs.World.{World, Pick}
use Rattle.law.specs.Setting.{Setting}
use Rattle.rules.specs.Histories.{History}
use Rattle.rules_next.specs.Meaning.{Meaning, Rewrote}
use Rattle.rules.specs.Setting.{Env, same_op, definers_in, taken_out, aimed, inserted, ops_among, Good, Retypes}

-- The operation x is rewritten well, and the records are taken out: they say that `is` were inserted.
pub record Rewrites {C : Type 0} (M : Meaning C) (e : Env C) (x : OpId) (d : Env C) (is : List OpId) : Type 0 where
  pub histories : List History
  pub picks : List Pick
  pub left : World
  pub rewrote : Rewrote M e.value (aimed e.world x) x histories picks d.value left (Ok tt)
  pub out : d.world ≡ taken_out left
  pub inserts : is ≡ ops_among (inserted left.records)

abbrev pub real : {C : Type 0} → Meaning C → Setting
real {C} M = record {
  Op = OpId;
  same = same_op;
  Env = Env C;
  Good = Good;
  live = λ e x. is_some (find_op e.world.model x);
  convertible = λ e x. M.can_op e.value e.world.model x;
  definers = λ e x. definers_in e.world.model x;
  Rewrite = Rewrites M;
  Retype = λ e d. (d.world ≡ e.world) ⊎ Retypes e.world d.world;
}
