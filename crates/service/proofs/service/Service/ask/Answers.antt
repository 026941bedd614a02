use Rattle.service.specs.Holds.{terms_of, lines_of}
use Rattle.service.proofs.Flags.{flags_rules}
use Rattle.service.proofs.service.Service.ask.Goals as goal

pub returns : goal.returns
returns g c =
    let s = c.args.self.now in
    let spends = s.stands.books.spends in
    let set = flags_rules (terms_of s) (lines_of s) s.ledger s.stands.books in
    cc
