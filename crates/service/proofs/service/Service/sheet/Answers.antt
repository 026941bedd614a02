use Rattle.std.proofs.Common.{inl}
use Rattle.service.proofs.Sheets.{sheet_told}
use Rattle.service.proofs.service.Service.sheet.Goals as goal

pub returns : goal.returns
returns g c =
    let s = c.args.self.now in
    inl (sheet_told _ _ s.ledger c.size.result _ c.new.result (g.met.D.Design.sound s.design) s.stands c.size.ensures c.in_ok-entries.ensures c.new.ensures)
