use Rattle.std.proofs.Common.{refl, ◌∙◌, inr}
use Rattle.std.proofs.lemmas.Result.{err_from_is_err_and}
use Rattle.commands.proofs.Keeping.{none_kept}
use Rattle.rules.specs.Rules.{Terms, account}
use Rattle.service.specs.Opening.{terms}
use Rattle.service.proofs.Opening.{passed, prices_decide, first_books}
use Rattle.service.proofs.Prices.{passed_fair}
use Rattle.service.proofs.Own.{terms_told, stands_told}
use Rattle.service.proofs.service.Service.open.Goals as goal

pub returns-in_err-accounts : goal.returns-in_err-accounts
returns-in_err-accounts g c =
    let t : Terms = terms (g.D.Design.meaning c.args.design) c.args.limit c.args.prices.now in
    let sound = g.met.D.Design.sound c.args.design in
    let fine = passed t.meaning t.prices c.size.result c.in_ok-check_prices.ensures c.size.ensures in
    let p = err_from_is_err_and c.from_residual-in_err-accounts.result c.from_residual-in_err-accounts.ensures.1 in
    rw p.1 (record { opened = inr (p.2 ∙ c.in_err-accounts.ensures, prices_decide t sound fine); terms = tt; lines = tt })

pub returns-in_err-lines : goal.returns-in_err-lines
returns-in_err-lines g c =
    let t : Terms = terms (g.D.Design.meaning c.args.design) c.args.limit c.args.prices.now in
    let sound = g.met.D.Design.sound c.args.design in
    let fine = passed t.meaning t.prices c.size.result c.in_ok-check_prices.ensures c.size.ensures in
    let p = err_from_is_err_and c.from_residual-in_err-lines.result c.from_residual-in_err-lines.ensures.1 in
    rw p.1 (record { opened = inr (p.2, prices_decide t sound fine); terms = tt; lines = tt })

pub invariant_of-result-3 : goal.invariant_of-result-3
invariant_of-result-3 g c =
    let t : Terms = terms (g.D.Design.meaning c.args.design) c.args.limit c.args.prices.now in
    let sound = g.met.D.Design.sound c.args.design in
    let fine = passed t.meaning t.prices c.size.result c.in_ok-check_prices.ensures c.size.ensures in
    rw c.in_ok-lines.ensures.items
    (record { stands = stands_told t _ _ (passed_fair _ _ fine).many (prices_decide t sound fine) (first_books t _ sound fine c.in_ok-accounts.ensures refl refl) (none_kept (account t)) })

pub returns : goal.returns
returns g c =
    let t : Terms = terms (g.D.Design.meaning c.args.design) c.args.limit c.args.prices.now in
    let sound = g.met.D.Design.sound c.args.design in
    let fine = passed t.meaning t.prices c.size.result c.in_ok-check_prices.ensures c.size.ensures in
    let books = first_books t _ sound fine c.in_ok-accounts.ensures refl refl in
    record {
      opened = (prices_decide t sound fine, record { meaning = refl; log = c.in_ok-lines.ensures.items; ledger = books; kept = none_kept (account t) });
      terms = terms_told t _ _ (passed_fair _ _ fine).many books;
      lines = c.in_ok-lines.ensures.items;
    }
