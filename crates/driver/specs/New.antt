-- A new driver.
use Rattle.std.specs.Prelude.{◌≡◌}
use Rattle.rules.specs.declared.interface.IRStatus.TheVariants as status
use Rattle.rules.specs.declared.interface.Phase.TheVariants as phase
use Rattle.rules_next.specs.Rules.{no_counts}
use Rattle.driver.specs.declared.driver.Driver.{Driver}

-- never begun, and nothing counted
pub record IsNew (d : Driver) : Type 0 where
  pub phase : d.phase ≡ phase.NeverBegun
  pub counts : d.counts ≡ no_counts
  pub steps : d.steps ≡ 0
  pub status : d.status ≡ status.Unchanged
