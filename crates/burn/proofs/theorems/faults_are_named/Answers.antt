use Rattle.burn.proofs.Faults.{fault_laws}
use Rattle.burn.proofs.theorems.faults_are_named.Goals as goal

pub returns : goal.returns
returns c = fault_laws
