-- Commands that are refused by their number, by the room of the log, or by what is taken: of every account and every log.
use Rattle.std.proofs.Common.{◌≡◌, ℕ, ◌+◌, ◌<◌, ◌≤◌, true, false, ◌⊎◌, List, length, arith}
use Rattle.refusal.specs.declared.table.Refusal.TheVariants.{NoOutput, Gap, NumberUsed, LogFull, AlreadyTaken, NotTaken}
use Rattle.commands.specs.declared.command.Command.{Command}
use Rattle.commands.specs.declared.command.Command.TheVariants.{Take, Back}
use Rattle.commands.specs.declared.command.Answer.TheVariants.{Refused}
use Rattle.commands.specs.declared.command.Line.{Line}
use Rattle.commands.specs.Rules.{Account, taken, log_room, numbered, used, repeats}
use Rattle.commands.specs.Promise.{next_answer}

-- where the log is full the next number is refused
pub full_log : (a : Account) (log : List Line) (c : Command) → length log ≡ log_room → next_answer a log c ≡ Refused LogFull
full_log a log c full = grind arith

pub gap_told : (a : Account) (log : List Line) (k : ℕ) (c : Command) → (k ≡ 0) ⊎ (length log + 1 < k) → numbered a log k c ≡ Refused (Gap (length log + 1))
gap_told a log k c h = grind arith

-- another command under a used number
pub used_told : (a : Account) (log : List Line) (k : ℕ) (c : Command) → used log k ≡ true → repeats log (record { number = k; command = c }) ≡ false
    → numbered a log k c ≡ Refused (NumberUsed k)
used_told a log k c u h = grind arith

-- the next command, by what is there and taken
pub absent_take : (a : Account) (log : List Line) (o : ℕ) → length log < log_room → a.outputs ≤ o → next_answer a log (Take o) ≡ Refused NoOutput
absent_take a log o few out = grind arith

pub absent_back : (a : Account) (log : List Line) (o : ℕ) → length log < log_room → a.outputs ≤ o → next_answer a log (Back o) ≡ Refused NoOutput
absent_back a log o few out = grind arith

pub second_take : (a : Account) (log : List Line) (o : ℕ) → length log < log_room → o < a.outputs → taken log o ≡ true → next_answer a log (Take o) ≡ Refused AlreadyTaken
second_take a log o few inside held = grind arith

pub idle_back : (a : Account) (log : List Line) (o : ℕ) → length log < log_room → o < a.outputs → taken log o ≡ false → next_answer a log (Back o) ≡ Refused NotTaken
idle_back a log o few inside free = grind arith
