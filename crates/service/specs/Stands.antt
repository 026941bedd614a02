-- The terms that a service is kept by, and that it stands by them: for whoever holds one.
-- Nothing is asked of a caller; whatever a service's design, ledger and log are, they stand so.
use Rattle.std.specs.Prelude.{◌≡◌, List, map, Ok, vec_items}
use Rattle.design.specs.Meaning.{Meaning}
use Rattle.commands.specs.declared.command.Line.{Line}
use Rattle.commands.specs.Promise.{Kept}
use Rattle.rules.specs.Rules.{Terms, account}
use Rattle.service.specs.declared.ledger.Ledger.{Ledger}
use Rattle.service.specs.Booked.{Booked}
use Rattle.service.specs.Opening.{terms, opened}

-- the terms of a ledger on a design of that meaning: its limit, and the prices of its accounts
abbrev pub terms_in : Meaning → Ledger → Terms
terms_in m ledger = terms m ledger.limit (map (λ a. a.price) (vec_items ledger.accounts))

-- such terms can be opened on; by them and the log's lines the ledger says what the rules say, and the spent figure is true
pub record Stands (m : Meaning) (ledger : Ledger) (lines : List Line) : Type 0 where
  pub opens : opened (terms_in m ledger) ≡ Ok tt
  pub books : Booked (terms_in m ledger) lines ledger
  pub kept : Kept (account (terms_in m ledger)) lines
