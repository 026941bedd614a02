use Rattle.std.proofs.Common.{rules, ◌≡◌, reverse, ◌∙◌, arith}
use Rattle.std.specs.List.{fold}
use Rattle.std.proofs.iter.runs.Made.{chains}
use Rattle.service.proofs.Flags.{packed, flags_packed}
use Rattle.service.proofs.ledger.Ledger.taken_set.Goals as goal

pub returns : goal.returns
returns c =
    let s = c.args.self.now in
    let few = s.few in
    let whole : c.fold.result ≡ fold packed 0 (reverse s.accounts.items) = search (rules, chains) in
    whole ∙ flags_packed s.accounts.items (omega arith)
