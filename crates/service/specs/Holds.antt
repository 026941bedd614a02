-- What a service's terms and log lines are, and a service that stands by any: for whoever trusts the replies of one.
-- By its own terms and lines every service stands.
use Rattle.std.specs.Prelude.{◌≡◌, ℕ, ◌⊎◌, List, [], Ok, Err, vec_items, Result}
use Rattle.refusal.specs.declared.table.Refusal.{Refusal}
use Rattle.refusal.specs.declared.table.Refusal.TheVariants.{NoMemory}
use Rattle.design.specs.Meaning.{Meaning}
use Rattle.commands.specs.declared.command.Answer.{Answer}
use Rattle.commands.specs.declared.command.Command.{Command}
use Rattle.commands.specs.declared.command.Line.{Line}
use Rattle.commands.specs.Rules.{numbered, logged}
use Rattle.commands.specs.Promise.{Kept}
use Rattle.rules.specs.Rules.{Terms, account}
use Rattle.service.specs.declared.service.Service.{Service}
use Rattle.service.specs.Booked.{Booked}
use Rattle.service.specs.Opening.{opened}
use Rattle.service.specs.Stands.{terms_in}

-- the terms that a service is kept by
abbrev pub terms_of : {D : Type 0} {d : _} → Service D d → Terms
terms_of {D} {d} s = terms_in (d.meaning s.design) s.ledger

-- the lines of its log
abbrev pub lines_of : {D : Type 0} {d : _} → Service D d → List Line
lines_of s = vec_items s.log.lines

-- the whole service: its design's meaning is that of the terms, its lines are the log, and the spent figure is true
pub record Holds {D : Type 0} {d : _} (means : D → Meaning) (t : Terms) (lines : List Line) (s : Service D d) : Type 0 where
  pub meaning : means s.design ≡ t.meaning
  pub log : vec_items s.log.lines ≡ lines
  pub ledger : Booked t lines s.ledger
  pub kept : Kept (account t) lines

-- a numbered command is answered by the rules, and the service then stands as they have it
pub record Obeys {D : Type 0} {d : _} (means : D → Meaning) (t : Terms) (lines : List Line) (number : ℕ) (command : Command) (answer : Answer) (after : Service D d) : Type 0 where
  pub answers : answer ≡ numbered (account t) lines number command
  pub stands : Holds means t (logged (account t) lines number command) after

-- whatever the terms and lines are, if it stood so before
abbrev pub Obeyed : {D : Type 0} {d : _} → (D → Meaning) → ℕ → Command → Service D d → Answer → Service D d → Type 0
Obeyed means number command before answer after =
    (t : Terms) (lines : List Line) → Holds means t lines before → Obeys means t lines number command answer after

-- a service that was opened stands as the rules have it at no lines; a refusal is the one that was due, or want of memory where none was
abbrev pub Opened : {D : Type 0} {d : _} → (D → Meaning) → Terms → Result (Service D d) Refusal → Type 0
Opened means t (Ok service) = (opened t ≡ Ok tt) × Holds means t [] service
Opened means t (Err why) = (opened t ≡ Err why) ⊎ ((why ≡ NoMemory) × (opened t ≡ Ok tt))
