-- How numbered commands are answered and logged, for whatever keeps a log and for its callers.
-- All is told from the account and the lines logged so far; nothing is read from a record of what is taken or spent.
use Rattle.std.specs.Prelude.{ℕ, ◌+◌, ◌-◌, Bool, true, false, cond, ◌&&◌, ◌||◌, List, [], ◌∷◌, ◌++◌, map, length, fold, ◌==◌, nat_le, nat_lt, slice_index_or}
use Rattle.std.specs.List.{scan}
use Rattle.refusal.specs.declared.table.Refusal.TheVariants.{NoOutput, Gap, NumberUsed, LogFull, AlreadyTaken, NotTaken, OverLimit}
use Rattle.commands.specs.declared.command.Command.{Command}
use Rattle.commands.specs.declared.command.Command.TheVariants.{Take, Back}
use Rattle.commands.specs.declared.command.Answer.{Answer}
use Rattle.commands.specs.declared.command.Answer.TheVariants.{Taken, PutBack, Refused}
use Rattle.commands.specs.declared.command.Line.{Line}

-- what commands are decided by: how many outputs there are, what each one costs, and the limit of what may be spent
pub record Account : Type 0 where
  pub outputs : ℕ
  pub cost : ℕ → ℕ
  pub limit : ℕ

-- the same command, with all that it carries
abbrev pub same_command : Command → Command → Bool
same_command (Take a) (Take b) = a == b
same_command (Take a) (Back b) = false
same_command (Back a) (Take b) = false
same_command (Back a) (Back b) = a == b

-- whether output o is taken after a command was answered so, given whether it was before
abbrev pub taken_by : ℕ → Bool → Command → Answer → Bool
taken_by o before (Take p) (Taken s) = cond (o == p) true before
taken_by o before (Take p) (PutBack s) = before
taken_by o before (Take p) (Refused r) = before
taken_by o before (Back p) (Taken s) = before
taken_by o before (Back p) (PutBack s) = cond (o == p) false before
taken_by o before (Back p) (Refused r) = before

-- output o is taken: so says the last line that took it or put it back
unfoldable pub taken : List Line → ℕ → Bool
taken lines o = fold (λ before line. taken_by o before line.command line.answer) false lines

-- the spent figure after an answer: the one that it carries, or else the one before
abbrev pub figure : ℕ → Answer → ℕ
figure before (Taken s) = s
figure before (PutBack s) = s
figure before (Refused r) = before

-- what is spent: the figure in the last line that has one, and 0 before
unfoldable pub spent : List Line → ℕ
spent lines = fold (λ before line. figure before line.answer) 0 lines

-- the answer to a fresh take: refused with 7, then 18, then 20; else what is then spent, which may be the whole limit
abbrev pub decided_take : Account → List Line → ℕ → Answer
decided_take account lines o =
    cond (nat_lt o account.outputs)
    (cond (taken lines o)
    (Refused AlreadyTaken)
    (cond (nat_le (spent lines + account.cost o) account.limit)
    (Taken (spent lines + account.cost o))
    (Refused (OverLimit (spent lines + account.cost o - account.limit)))))
    (Refused NoOutput)

-- the answer to a fresh back: refused with 7, then 19; else what is then spent
abbrev pub decided_back : Account → List Line → ℕ → Answer
decided_back account lines o =
    cond (nat_lt o account.outputs)
    (cond (taken lines o) (PutBack (spent lines - account.cost o)) (Refused NotTaken))
    (Refused NoOutput)

-- the answer to a fresh command
abbrev pub decided : Account → List Line → Command → Answer
decided account lines (Take o) = decided_take account lines o
decided account lines (Back o) = decided_back account lines o

-- how many lines a log has room for
abbrev pub log_room : ℕ
log_room = 256

-- a line to read where there is none; no answer depends on it
abbrev pub no_line : Line
no_line = record { command = Take 0; answer = Taken 0 }

-- the line of a number: lines are numbered from 1
abbrev pub line_of : List Line → ℕ → Line
line_of lines number = slice_index_or lines (number - 1) no_line

-- the number is that of a line
abbrev pub used : List Line → ℕ → Bool
used lines number = nat_le 1 number && nat_le number (length lines)

-- the number is the next one, and there is room for its line
abbrev pub fresh : List Line → ℕ → Bool
fresh lines number = number == length lines + 1 && nat_lt (length lines) log_room

-- the answer to a command under a number: 14 at 0 and past the next number; a repeat gets its line's answer and
-- another command 15; the next number gets 16 where the log is full, else what is decided
abbrev pub numbered : Account → List Line → ℕ → Command → Answer
numbered account lines number command =
    cond (number == 0 || nat_lt (length lines + 1) number)
    (Refused (Gap (length lines + 1)))
    (cond (nat_le number (length lines))
    (cond (same_command (line_of lines number).command command) (line_of lines number).answer (Refused (NumberUsed number)))
    (cond (nat_lt (length lines) log_room) (decided account lines command) (Refused LogFull)))

-- a log with one line more
abbrev pub with_line : List Line → Command → Answer → List Line
with_line lines command answer = lines ++ record { command = command; answer = answer } ∷ []

-- the log after a command under a number: one line more exactly if it is fresh
abbrev pub logged : Account → List Line → ℕ → Command → List Line
logged account lines number command =
    cond (fresh lines number) (with_line lines command (decided account lines command)) lines

-- a command as it is sent
pub record Sent : Type 0 where
  pub number : ℕ
  pub command : Command

-- it is a repeat: its number is that of a line with the same command
abbrev pub repeats : List Line → Sent → Bool
repeats lines sent = used lines sent.number && same_command (line_of lines sent.number).command sent.command

-- the log after one command more
abbrev pub next : Account → List Line → Sent → List Line
next account lines s = logged account lines s.number s.command

-- the log after some commands, from a log
unfoldable pub lines_from : Account → List Line → List Sent → List Line
lines_from account lines sent = fold (next account) lines sent

-- the log after some commands, from none
abbrev pub lines_after : Account → List Sent → List Line
lines_after account sent = lines_from account [] sent

-- a command with the log that it met and its answer
pub record Heard : Type 0 where
  pub before : List Line
  pub sent : Sent
  pub answer : Answer

-- how a command is heard, from the lines so far
abbrev pub hears : Account → List Line → Sent → Heard
hears account lines s = record { before = lines; sent = s; answer = numbered account lines s.number s.command }

-- what a command is answered after those before it
abbrev pub says : Account → List Sent → Sent → Answer
says account before s = numbered account (lines_after account before) s.number s.command

-- the transcript of some commands, from a log
unfoldable pub heard_from : Account → List Line → List Sent → List Heard
heard_from account lines sent = scan (next account) (hears account) lines sent

-- the transcript of some commands, from none
abbrev pub heard : Account → List Sent → List Heard
heard account sent = heard_from account [] sent

-- the commands of a transcript
abbrev pub commands_of : List Heard → List Sent
commands_of transcript = map (λ h. h.sent) transcript

-- the answers to some commands, in their order
abbrev pub answers : Account → List Sent → List Answer
answers account sent = map (λ h. h.answer) (heard account sent)
