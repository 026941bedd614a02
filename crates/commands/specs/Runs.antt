-- Short runs, for a reader who wants to see the rules compute.
-- Each is an account, some commands, and what they are answered.
use Rattle.std.specs.Prelude.{◌≡◌, ℕ, cond, List, [], ◌∷◌, map, ◌==◌}
use Rattle.std.specs.List.{range_with_len}
use Rattle.refusal.specs.declared.table.Refusal.TheVariants.{NoOutput, Gap, NumberUsed, LogFull, AlreadyTaken, NotTaken, OverLimit}
use Rattle.commands.specs.declared.command.Command.TheVariants.{Take, Back}
use Rattle.commands.specs.declared.command.Answer.TheVariants.{Taken, PutBack, Refused}
use Rattle.commands.specs.Rules.{Account, Sent, spent, with_line, lines_after, says, answers}

-- one output of cost 3
abbrev pub single : ℕ → Account
single limit = record { outputs = 1; cost = λ _. 3; limit = limit }

-- two outputs of costs 3 and 5, and the limit 7
abbrev pub double : Account
double = record { outputs = 2; cost = λ o. cond (o == 0) 3 5; limit = 7 }

-- a take of an output under a number
abbrev pub take : ℕ → ℕ → Sent
take number o = record { number = number; command = Take o }

-- a back of one
abbrev pub back : ℕ → ℕ → Sent
back number o = record { number = number; command = Back o }

-- the output is taken and put back
abbrev pub there_and_back : List Sent
there_and_back = take 1 0 ∷ back 2 0 ∷ []

-- takes of an output that is not there, under the numbers from 1 to n
abbrev pub refusals : ℕ → List Sent
refusals n = map (λ number. take number 1) (range_with_len 1 n)

-- the rules at their edges
pub record ShortRuns : Type 0 where
  pub whole_limit : answers (single 3) (take 1 0 ∷ []) ≡ Taken 3 ∷ []
  pub over : answers (single 2) (take 1 0 ∷ []) ≡ Refused (OverLimit 1) ∷ []
  pub together : answers double (take 1 0 ∷ take 2 1 ∷ []) ≡ Taken 3 ∷ Refused (OverLimit 1) ∷ []
  -- the old take is answered, and not obeyed
  pub sent_again : answers (single 3) (take 1 0 ∷ back 2 0 ∷ take 1 0 ∷ []) ≡ Taken 3 ∷ PutBack 0 ∷ Taken 3 ∷ []
  pub not_obeyed : spent (lines_after (single 3) (take 1 0 ∷ back 2 0 ∷ take 1 0 ∷ [])) ≡ 0
  pub number_used : says (single 3) there_and_back (back 1 0) ≡ Refused (NumberUsed 1)
  pub gap : says (single 3) there_and_back (take 4 0) ≡ Refused (Gap 3)
  pub zeroth : says (single 3) there_and_back (take 0 0) ≡ Refused (Gap 3)
  pub no_output : says (single 3) there_and_back (take 3 1) ≡ Refused NoOutput
  -- a refusal is a line too
  pub line_three :
      lines_after (single 3) (take 1 0 ∷ back 2 0 ∷ take 3 1 ∷ [])
      ≡ with_line (lines_after (single 3) there_and_back) (Take 1) (Refused NoOutput)
  pub taken_twice : answers (single 9) (take 1 0 ∷ take 2 0 ∷ []) ≡ Taken 3 ∷ Refused AlreadyTaken ∷ []
  pub not_taken : answers (single 9) (back 1 0 ∷ []) ≡ Refused NotTaken ∷ []
  -- the last line there is room for, and what follows it
  pub last_line : says (single 3) (refusals 255) (take 256 0) ≡ Taken 3
  pub full : says (single 3) (refusals 256) (take 257 0) ≡ Refused LogFull
  pub full_gap : says (single 3) (refusals 256) (take 258 0) ≡ Refused (Gap 257)
  pub full_repeat : says (single 3) (refusals 256) (take 1 1) ≡ Refused NoOutput
