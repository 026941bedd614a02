use Rattle.service.proofs.Alike.{any_terms}
use Rattle.service.proofs.theorems.any_terms_hold.Goals as goal

pub returns : goal.returns
returns g c = any_terms c.args._service.now
