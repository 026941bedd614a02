-- What the log settles is what the rules answer, and what it leaves open is fresh.
use Rattle.std.proofs.Common.{◌≡◌, ℕ, true, false, List, Some, None, sym, ap, ◌∙◌, subst, arith}
use Rattle.std.proofs.lemmas.Bool.Decides.{nat_tests}
use Rattle.commands.specs.declared.command.Command.{Command}
use Rattle.commands.specs.declared.command.Answer.{Answer}
use Rattle.commands.specs.declared.command.Line.{Line}
use Rattle.commands.specs.Rules.{Account, numbered, fresh, decided, with_line, logged}
use Rattle.commands.specs.Promise.{Kept}
use Rattle.commands.proofs.Logs.{next_line}
use Rattle.commands.proofs.Changed.{logged_keeps}
use Rattle.service.specs.Numbers.{settled}

-- what is left open is fresh
pub fresh_open : (lines : List Line) (number : ℕ) (command : Command) → settled lines number command ≡ None → fresh lines number ≡ true
fresh_open lines number command h = grind (arith, nat_tests)

-- what is settled is answered so
pub settled_numbered : (account : Account) (lines : List Line) (number : ℕ) (command : Command) (a : Answer) → Some a ≡ settled lines number command
    → numbered account lines number command ≡ a
settled_numbered account lines number command a h = grind (arith, nat_tests)

-- and is not fresh
pub settled_stale : (lines : List Line) (number : ℕ) (command : Command) (a : Answer) → Some a ≡ settled lines number command → fresh lines number ≡ false
settled_stale lines number command a h = grind (arith, nat_tests)

-- a command that is left open becomes a line
pub open_logged : (account : Account) (lines : List Line) (number : ℕ) (command : Command) (a : Answer) → settled lines number command ≡ None → a ≡ decided account lines command
    → logged account lines number command ≡ with_line lines command a
open_logged account lines number command a h e = next_line account lines number command (fresh_open lines number command h) ∙ ap (with_line lines command) (sym e)

-- and the log is kept
pub open_keeps : (account : Account) (lines : List Line) (number : ℕ) (command : Command) (a : Answer) → settled lines number command ≡ None → a ≡ decided account lines command
    → Kept account lines → Kept account (with_line lines command a)
open_keeps account lines number command a h e k = subst (λ (ls : List Line). Kept account ls) (open_logged account lines number command a h e) (logged_keeps account lines number command k)
