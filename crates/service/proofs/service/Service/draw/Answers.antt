use Rattle.std.proofs.Common.{◌≡◌, true, rules}
use Rattle.service.specs.Holds.{terms_of, lines_of}
use Rattle.service.proofs.Handing.{account_told, taken_draw}
use Rattle.service.proofs.service.Service.draw.Goals as goal

pub returns : goal.returns
returns g c =
    let s = c.args.self.now in
    let yes : c.in_ok-vector.field-0.taken ≡ true = search rules in
    let p = account_told (terms_of s) (lines_of s) _ _ _ s.stands.books c.in_ok-vector.ensures.answer in
    let d = taken_draw (terms_of s) (lines_of s) _ _ _ _ _ p.0 p.1 yes c.draw.ensures.answer c.draw.ensures.after in
    record { answer = d.0; after = d.1 }
