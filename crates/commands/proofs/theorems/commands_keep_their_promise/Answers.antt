use Rattle.commands.proofs.Keeping.{commands_keep_their_promise}
use Rattle.commands.proofs.theorems.commands_keep_their_promise.Goals as goal

pub returns : goal.returns
returns c = commands_keep_their_promise
