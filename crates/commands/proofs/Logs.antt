-- What a line more makes of a log, and how numbers find their lines.
use Rattle.std.proofs.Common.{◌≡◌, ℕ, ◌+◌, true, false, List, [], ◌∷◌, ◌++◌, length, arith}
use Rattle.std.proofs.lemmas.Grind.{common_steps}
use Rattle.std.proofs.lemmas.List.{append_assoc, get_or_at}
use Rattle.std.proofs.lemmas.List.Sums.{fold_push}
use Rattle.commands.specs.declared.command.Command.{Command}
use Rattle.commands.specs.declared.command.Command.TheVariants.{Take, Back}
use Rattle.commands.specs.declared.command.Answer.{Answer}
use Rattle.commands.specs.declared.command.Line.{Line}
use Rattle.commands.specs.Rules.{Account, Sent, taken, taken_by, spent, figure, line_of, with_line, same_command, decided, numbered, logged, fresh, repeats}

pub taken_more : (lines : List Line) (command : Command) (answer : Answer) (o : ℕ) → taken (with_line lines command answer) o ≡ taken_by o (taken lines o) command answer
unfolding taken
taken_more lines command answer o =
    fold_push (λ before line. taken_by o before line.command line.answer) false lines (record { command = command; answer = answer })

pub spent_more : (lines : List Line) (command : Command) (answer : Answer) → spent (with_line lines command answer) ≡ figure (spent lines) answer
unfolding spent
spent_more lines command answer =
    fold_push (λ before line. figure before line.answer) 0 lines (record { command = command; answer = answer })

pub same_self : (command : Command) → same_command command command ≡ true
same_self (Take o) = grind arith
same_self (Back o) = grind arith

-- a command and the log after it
pub next_line : (account : Account) (lines : List Line) (number : ℕ) (command : Command) → fresh lines number ≡ true
    → logged account lines number command ≡ with_line lines command (decided account lines command)
next_line account lines number command h = grind arith

pub no_line_more : (account : Account) (lines : List Line) (number : ℕ) (command : Command) → fresh lines number ≡ false → logged account lines number command ≡ lines
no_line_more account lines number command h = grind arith

pub fresh_answer : (account : Account) (lines : List Line) (number : ℕ) (command : Command) → fresh lines number ≡ true
    → numbered account lines number command ≡ decided account lines command
fresh_answer account lines number command h = grind arith

-- a repeat is answered by its line
pub repeat_answer : (account : Account) (lines : List Line) (s : Sent) → repeats lines s ≡ true
    → numbered account lines s.number s.command ≡ (line_of lines s.number).answer
repeat_answer account lines s h = grind arith

pub repeat_is_not_fresh : (lines : List Line) (s : Sent) → repeats lines s ≡ true → fresh lines s.number ≡ false
repeat_is_not_fresh lines s h = grind arith

-- so it adds no line
pub repeat_log : (account : Account) (lines : List Line) (s : Sent) → repeats lines s ≡ true → logged account lines s.number s.command ≡ lines
repeat_log account lines s h = grind arith

-- a line is found under its number, whatever lines follow
pub line_again : (lines : List Line) (line : Line) (rest : List Line) (number : ℕ) → number ≡ length lines + 1
    → line_of ((lines ++ line ∷ []) ++ rest) number ≡ line
line_again lines line rest number e = grind (arith, append_assoc, get_or_at)

-- and its command is a repeat there
pub repeats_again : (lines : List Line) (command : Command) (answer : Answer) (rest : List Line) (number : ℕ) → number ≡ length lines + 1
    → repeats (with_line lines command answer ++ rest) (record { number = number; command = command }) ≡ true
repeats_again lines command answer rest number e =
    let f = line_again lines (record { command = command; answer = answer }) rest number e in
    grind (arith, common_steps, f, same_self command)
