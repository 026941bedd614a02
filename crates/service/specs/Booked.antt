-- An account and a ledger that say what the rules say, and how a fresh command moves one: for whoever reads the service's code.
-- Terms and log lines are those of the rules.
use Rattle.std.specs.Prelude.{◌≡◌, ℕ, ◌<◌, ◌≤◌, List, length, vec_items, slice_index_or}
use Rattle.symmetric.specs.Vectors.{held}
use Rattle.symmetric.specs.Nearest.{bits, wrong}
use Rattle.commands.specs.declared.command.Answer.{Answer}
use Rattle.commands.specs.declared.command.Command.{Command}
use Rattle.commands.specs.declared.command.Line.{Line}
use Rattle.commands.specs.Rules.{taken, spent, decided, with_line}
use Rattle.commands.specs.Promise.{Kept}
use Rattle.rules.specs.Rules.{Terms, price, account}
use Rattle.service.specs.declared.account.Account.{Account}
use Rattle.service.specs.declared.ledger.Ledger.{Ledger}

-- an account says what the rules say of its output
pub record Accounted (t : Terms) (lines : List Line) (o : ℕ) (a : Account) : Type 0 where
  pub priced : a.price ≡ price t o
  pub vector : held a.vector ≡ record { inputs = t.meaning.inputs; bits = bits t.meaning o }
  pub errors : a.wrong ≡ wrong t.meaning o
  pub moved : a.taken ≡ taken lines o

-- a ledger says what the rules say; there is an account for each output, and none costs more than 32 bits say
pub record Booked (t : Terms) (lines : List Line) (ledger : Ledger) : Type 0 where
  pub outputs : length (vec_items ledger.accounts) ≡ t.meaning.outputs
  pub accounts : (outside : Account) (o : ℕ) → o < t.meaning.outputs → Accounted t lines o (slice_index_or (vec_items ledger.accounts) o outside)
  pub limited : ledger.limit ≡ t.limit
  pub spends : ledger.spent ≡ spent lines
  pub cheap : (o : ℕ) → o < t.meaning.outputs → (account t).cost o ≤ 4294967295

-- a fresh command is decided by the rules, and the ledger is then that of one line more
pub record Decides (t : Terms) (lines : List Line) (command : Command) (answer : Answer) (after : Ledger) : Type 0 where
  pub answers : answer ≡ decided (account t) lines command
  pub ledger : Booked t (with_line lines command answer) after

-- whatever the terms and lines are, if they were kept
abbrev pub Decided : Command → Ledger → Answer → Ledger → Type 0
Decided command before answer after = (t : Terms) (lines : List Line) → Booked t lines before → Kept (account t) lines → Decides t lines command answer after
