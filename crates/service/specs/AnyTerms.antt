-- That a service's own terms and lines say what any terms and lines say that it stands by: for whoever knows one by others.
-- Terms may differ in the prices of outputs that are not there.
use Rattle.std.specs.Prelude.{◌≡◌, ℕ, ◌⊎◌, List, Ok, Err, Result}
use Rattle.refusal.specs.declared.table.Refusal.{Refusal}
use Rattle.refusal.specs.declared.table.Refusal.TheVariants.{NoMemory}
use Rattle.diagram.specs.declared.node.Node.{Node}
use Rattle.burn.specs.declared.sheet.Sheet.{Sheet}
use Rattle.burn.specs.Files.{told}
use Rattle.commands.specs.declared.command.Answer.{Answer}
use Rattle.commands.specs.declared.command.Command.{Command}
use Rattle.commands.specs.Rules.{numbered, logged}
use Rattle.rules.specs.declared.call.Call.{Call}
use Rattle.rules.specs.Rules.{Said, account, reply}
use Rattle.service.specs.declared.service.Service.{Service}
use Rattle.service.specs.Opening.{opened}
use Rattle.service.specs.Holds.{terms_of, lines_of, Holds, Obeyed}
use Rattle.service.specs.Replies.{lent_after, Replied, DrawnByRules}
use Rattle.service.specs.Sheets.{sheet_of, Sheeted}

-- a service's own terms can be opened on and it stands by them; what it answers by them, it answers by any that it stands by
pub record AnyTerms {D : Type 0} {d : _} (s : Service D d) : Type 0 where
  pub opens : opened (terms_of s) ≡ Ok tt
  pub own : Holds d.meaning (terms_of s) (lines_of s) s
  pub obeyed :
      (number : ℕ) (command : Command) (answer : Answer) (after : Service D d) → answer ≡ numbered (account (terms_of s)) (lines_of s) number command
      → lines_of after ≡ logged (account (terms_of s)) (lines_of s) number command → terms_of after ≡ terms_of s
      → Obeyed d.meaning number command s answer after
  pub replied : (c : Call) (said : Said) → said ≡ reply (terms_of s) (lines_of s) c → Replied d.meaning c s said
  pub drawn : (o : ℕ) (buffer after : List Node) → after ≡ lent_after (terms_of s) (lines_of s) o buffer → DrawnByRules d.meaning o s buffer after
  pub sheeted : (r : Result Sheet Refusal) → (told r ≡ Ok (sheet_of (terms_of s) (lines_of s))) ⊎ (r ≡ Err NoMemory) → Sheeted d.meaning s r
