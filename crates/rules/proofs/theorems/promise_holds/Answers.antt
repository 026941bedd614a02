use Rattle.rules.proofs.Promise.{promised}
use Rattle.rules.proofs.theorems.promise_holds.Goals as goal

pub returns : goal.returns
returns c = promised
