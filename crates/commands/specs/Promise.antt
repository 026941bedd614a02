-- What holds of numbered commands however they are sent: for whoever trusts the spent figure or sends a command twice.
-- Lists of commands are any lists, with gaps, repeats and refusals among them; costs and limit are any numbers.
use Rattle.std.specs.Prelude.{◌≡◌, ℕ, ◌+◌, ◌<◌, ◌≤◌, Bool, true, false, cond, ◌≢◌, ◌↔◌, List, [], ◌∷◌, ◌++◌, length, take}
use Rattle.rows.specs.Rows.{sum_below}
use Rattle.refusal.specs.declared.table.Refusal.TheVariants.{OverLimit}
use Rattle.commands.specs.declared.command.Command.{Command}
use Rattle.commands.specs.declared.command.Command.TheVariants.{Take, Back}
use Rattle.commands.specs.declared.command.Answer.{Answer}
use Rattle.commands.specs.declared.command.Answer.TheVariants.{Taken, PutBack, Refused}
use Rattle.commands.specs.declared.command.Line.{Line}
use Rattle.commands.specs.Strikes.{Left}
use Rattle.commands.specs.Rules.{Account, Sent, Heard, taken, spent, log_room, line_of, with_line, numbered, fresh, repeats, says, lines_after, heard, commands_of, answers}

-- what the outputs of a set cost together
abbrev pub costs : Account → (ℕ → Bool) → ℕ
costs account chosen = sum_below account.outputs (λ o. cond (chosen o) (account.cost o) 0)

-- the spent figure is true and within the limit, only what is there is taken, and the log is within its room
pub record Kept (account : Account) (lines : List Line) : Type 0 where
  pub sum : spent lines ≡ costs account (taken lines)
  pub within : spent lines ≤ account.limit
  pub there : (o : ℕ) → taken lines o ≡ true → o < account.outputs
  pub room : length lines ≤ log_room

-- one output alone is taken or put back, and the answer tells what is spent after
pub record Moved (account : Account) (before after : List Line) (o told : ℕ) (old new : Bool) : Type 0 where
  pub output : o < account.outputs
  pub was : taken before o ≡ old
  pub is : taken after o ≡ new
  pub others : (p : ℕ) → p ≢ o → taken after p ≡ taken before p
  pub figure : spent after ≡ told

-- nothing is taken, put back or spent
pub record Unmoved (before after : List Line) : Type 0 where
  pub outputs : (p : ℕ) → taken after p ≡ taken before p
  pub figure : spent after ≡ spent before

-- what a fresh command changes, by its answer: a take is never answered 'put back', nor a back 'taken'
abbrev pub Changes : Account → List Line → List Line → Command → Answer → Type 0
Changes account before after (Take o) (Taken s) = Moved account before after o s false true × (s ≡ spent before + account.cost o)
Changes account before after (Take o) (PutBack s) = ⊥
Changes account before after (Take o) (Refused r) = Unmoved before after
Changes account before after (Back o) (Taken s) = ⊥
Changes account before after (Back o) (PutBack s) = Moved account before after o s true false × (spent before ≡ s + account.cost o)
Changes account before after (Back o) (Refused r) = Unmoved before after

-- what a fresh command does, sent after those before it
pub record Fresh (account : Account) (before : List Sent) (s : Sent) : Type 0 where
  -- it becomes a line, with its answer
  pub line : lines_after account (before ++ s ∷ []) ≡ with_line (lines_after account before) s.command (says account before s)
  pub changes : Changes account (lines_after account before) (lines_after account (before ++ s ∷ [])) s.command (says account before s)
  -- whatever is sent between, it is answered the same when it is sent again
  pub again : (between : List Sent) → says account (before ++ s ∷ between) s ≡ says account before s

-- what a repeat does: it gets its line's answer, and adds no line
pub record Repeat (account : Account) (before : List Sent) (s : Sent) : Type 0 where
  pub answer : says account before s ≡ (line_of (lines_after account before) s.number).answer
  pub log : lines_after account (before ++ s ∷ []) ≡ lines_after account before

-- what a command under the next number is answered
abbrev pub next_answer : Account → List Line → Command → Answer
next_answer account lines command = numbered account lines (length lines + 1) command

-- the answer is 20, by so much
abbrev pub Over : Answer → ℕ → Type 0
Over answer excess = answer ≡ Refused (OverLimit excess)

-- a fresh take of an untaken output is refused for the limit exactly if it does not fit, by what is over; else granted
pub record Fits (account : Account) (lines : List Line) (o : ℕ) : Type 0 where
  pub refuses : ((excess : ℕ) × Over (next_answer account lines (Take o)) excess) ↔ (account.limit < spent lines + account.cost o)
  pub excess : (excess : ℕ) → Over (next_answer account lines (Take o)) excess → spent lines + account.cost o ≡ account.limit + excess
  pub grants : spent lines + account.cost o ≤ account.limit → next_answer account lines (Take o) ≡ Taken (spent lines + account.cost o)

-- some of a transcript's commands that are repeats where they stand are left out
abbrev pub Struck : List Heard → List Heard → Type 0
Struck = Left (λ h. repeats h.before h.sent)

-- what commands on an account are promised
pub record Promised (account : Account) : Type 0 where
  -- at the opening and after each command
  pub kept : (before : List Sent) → Kept account (lines_after account before)
  -- the answers of a run are what each command is answered after those before it
  pub answered : (before : List Sent) (s : Sent) → answers account (before ++ s ∷ []) ≡ answers account before ++ says account before s ∷ []
  -- the lines stay as they are: a log begins with the log before it
  pub grows : (before later : List Sent) → take (length (lines_after account before)) (lines_after account (before ++ later)) ≡ lines_after account before
  -- a command under the next number, while there is room for its line
  pub fresh_ones : (before : List Sent) (s : Sent) → fresh (lines_after account before) s.number ≡ true → Fresh account before s
  pub repeated : (before : List Sent) (s : Sent) → repeats (lines_after account before) s ≡ true → Repeat account before s
  -- all but fresh commands leave the log as it is
  pub idle : (before : List Sent) (s : Sent) → fresh (lines_after account before) s.number ≡ false → lines_after account (before ++ s ∷ []) ≡ lines_after account before
  -- while there is room for a line
  pub limited :
      (before : List Sent) (o : ℕ) → length (lines_after account before) < log_room → o < account.outputs
      → taken (lines_after account before) o ≡ false → Fits account (lines_after account before) o
  -- a fresh back of a taken output is granted
  pub returned :
      (before : List Sent) (o : ℕ) → length (lines_after account before) < log_room → o < account.outputs
      → taken (lines_after account before) o ≡ true
      → (told : ℕ) × (next_answer account (lines_after account before) (Back o) ≡ PutBack told)
  -- what is left of a transcript is the transcript of what is left
  pub struck : (sent : List Sent) (left : List Heard) → Struck (heard account sent) left → heard account (commands_of left) ≡ left
  -- and the log at the end is the same
  pub ended : (sent : List Sent) (left : List Heard) → Struck (heard account sent) left → lines_after account (commands_of left) ≡ lines_after account sent

-- on every account
abbrev pub CommandsKeepTheirPromise : Type 0
CommandsKeepTheirPromise = (account : Account) → Promised account
