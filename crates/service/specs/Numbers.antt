-- What a log settles of a numbered command without deciding it: for whoever reads the service's code.
-- The rules of numbered commands say the same in one definition.
use Rattle.std.specs.Prelude.{ℕ, ◌+◌, cond, ◌||◌, List, length, Some, None, Option, ◌==◌, nat_le, nat_lt}
use Rattle.refusal.specs.declared.table.Refusal.TheVariants.{Gap, NumberUsed, LogFull}
use Rattle.commands.specs.declared.command.Answer.{Answer}
use Rattle.commands.specs.declared.command.Answer.TheVariants.{Refused}
use Rattle.commands.specs.declared.command.Command.{Command}
use Rattle.commands.specs.declared.command.Line.{Line}
use Rattle.commands.specs.Rules.{line_of, same_command, log_room}

-- a number that is not next, a repeat, another command under a used number, and a full log have their answer; a fresh one has none yet
abbrev pub settled : List Line → ℕ → Command → Option Answer
settled lines number command =
    cond (number == 0 || nat_lt (length lines + 1) number)
    (Some (Refused (Gap (length lines + 1))))
    (cond (nat_le number (length lines))
    (cond (same_command (line_of lines number).command command) (Some (line_of lines number).answer) (Some (Refused (NumberUsed number))))
    (cond (nat_lt (length lines) log_room) None (Some (Refused LogFull))))
