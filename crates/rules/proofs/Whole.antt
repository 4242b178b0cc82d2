-- The whole law of the driver.
use Rattle.rules.specs.Law.{DriverLaw}
use Rattle.rules.proofs.Lawful.{lawfully, ran_reaches, done_over}
use Rattle.rules.proofs.Closing.{faults_lawful}

pub driver_law : (C : Type 0) → DriverLaw C
driver_law C M = (record { reaches = ran_reaches M; is_over = done_over M }, faults_lawful M, lawfully M)
