-- What is counted when an entry has been taken.
use Rattle.std.specs.Prelude.{◌≡◌, suc}
use Rattle.rules_next.specs.declared.interface.Counts.{Counts}
use Rattle.rules.specs.declared.interface.Phase.{Phase}
use Rattle.driver.specs.declared.driver.Driver.{Driver}

-- From d to d' one step and these counts were added, and the phase is p; the rest is as it was.
pub record Counted (d : Driver) (c : Counts) (p : Phase) (d' : Driver) : Type 0 where
  pub rewriter : d'.rewriter ≡ d.rewriter
  pub work : d'.work ≡ d.work
  pub histories : d'.histories ≡ d.histories
  pub counts : d'.counts ≡ c
  pub steps : d'.steps ≡ suc d.steps
  pub phase : d'.phase ≡ p
  pub status : d'.status ≡ d.status
  pub entries : d'.entries ≡ d.entries
  pub blocks : d'.blocks ≡ d.blocks
