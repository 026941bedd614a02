use Rattle.std.proofs.Common.{◌≡◌, rules}
use Rattle.commands.specs.declared.command.Answer.TheVariants.{Taken, PutBack}
use Rattle.service.specs.Books.{answered}
use Rattle.service.proofs.Booking.{take_decides, back_decides}
use Rattle.service.proofs.ledger.Ledger.decide.Goals as goal

pub returns-in-Take : goal.returns-in-Take
returns-in-Take c t lines b k =
    let e = c.take.ensures in
    let told : c.map_or_else.result ≡ answered Taken c.take.result = search rules in
    rw (c.in-Take.is, told) (take_decides t lines c.args.self.now c.take.new.self _ _ b k e.answer e.accounts e.spent e.limit)

pub returns-in-Back : goal.returns-in-Back
returns-in-Back c t lines b k =
    let e = c.back.ensures in
    let told : c.map_or_else-in-Back.result ≡ answered PutBack c.back.result = search rules in
    rw (c.in-Back.is, told) (back_decides t lines c.args.self.now c.back.new.self _ _ b k e.answer e.accounts e.spent e.limit)
