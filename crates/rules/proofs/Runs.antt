-- Logs and replies of calls that are joined, and what the commands among them do.
use Rattle.std.proofs.Common.{◌≡◌, ℕ, true, false, List, [], ◌∷◌, ◌++◌, sym, refl, ap, ◌∙◌}
use Rattle.std.specs.List.{fold}
use Rattle.std.proofs.lemmas.List.Folds.{fold_along}
use Rattle.std.proofs.lemmas.List.Sums.{fold-append, fold_push}
use Rattle.commands.specs.declared.command.Command.{Command}
use Rattle.commands.specs.declared.command.Command.TheVariants.{Take, Back}
use Rattle.commands.specs.declared.command.Line.{Line}
use Rattle.commands.specs.Rules.{Sent, numbered, logged, fresh, next}
use Rattle.commands.specs.Rules as command
use Rattle.commands.specs.Promise.{Kept}
use Rattle.commands.proofs.Logs.{no_line_more, repeat_log}
use Rattle.commands.proofs.Runs.{scan_append, scan_push, Grown, not_grown, next_grows, run_past, answered_again}
use Rattle.commands.proofs.Changed.{logged_keeps}
use Rattle.commands.proofs.Keeping.{none_kept}
use Rattle.rules.specs.declared.call.Call.{Call}
use Rattle.rules.specs.declared.call.Call.TheVariants as call
use Rattle.rules.specs.Rules.{Terms, account, Said.answered, reply, logs, lines_from, lines, replies_from, replies, says}
use Rattle.rules.specs.Standing.{sent}
use Rattle.rules.specs.Promise.{is_repeat, is_fresh}

-- the log after one call more
pub lines_one : (t : Terms) (before : List Call) (c : Call) → lines t (before ++ c ∷ []) ≡ logs t (lines t before) c
unfolding lines_from
lines_one t before c = fold_push (logs t) [] before c

pub replies_one : (t : Terms) (before : List Call) (c : Call) → replies t (before ++ c ∷ []) ≡ replies t before ++ says t before c ∷ []
unfolding lines_from replies_from
replies_one t before c = scan_push (logs t) (reply t) [] before c

pub replies_joined : (t : Terms) (before later : List Call) (log : List Line)
    → replies_from t log (before ++ later) ≡ replies_from t log before ++ replies_from t (lines_from t log before) later
unfolding lines_from replies_from
replies_joined t before later log = scan_append (logs t) (reply t) log before later

-- the commands among some calls
pub commands_among : List Call → List Sent
commands_among [] = []
commands_among (call.Take k o ∷ later) = record { number = k; command = Take o } ∷ commands_among later
commands_among (call.Back k o ∷ later) = record { number = k; command = Back o } ∷ commands_among later
commands_among (call.Ask ∷ later) = commands_among later
commands_among (call.Show o ∷ later) = commands_among later
commands_among (call.Read o r ∷ later) = commands_among later
commands_among (call.Draw o room ∷ later) = commands_among later

-- they alone make the log
pub lines_of_commands : (t : Terms) (calls : List Call) (log : List Line) → lines_from t log calls ≡ command.lines_from (account t) log (commands_among calls)
unfolding lines_from command.lines_from commands_among
lines_of_commands t [] log = refl
lines_of_commands t (call.Take k o ∷ later) log = lines_of_commands t later (logged (account t) log k (Take o))
lines_of_commands t (call.Back k o ∷ later) log = lines_of_commands t later (logged (account t) log k (Back o))
lines_of_commands t (call.Ask ∷ later) log = lines_of_commands t later log
lines_of_commands t (call.Show o ∷ later) log = lines_of_commands t later log
lines_of_commands t (call.Read o r ∷ later) log = lines_of_commands t later log
lines_of_commands t (call.Draw o room ∷ later) log = lines_of_commands t later log

-- what holds of a log and of what any command makes of it holds after a call
logs_by : (t : Terms) (P : List Line → Type 0) (log : List Line) → P log → ((s : Sent) → P (next (account t) log s)) → (c : Call) → P (logs t log c)
logs_by t P log same one (call.Take k o) = one (record { number = k; command = Take o })
logs_by t P log same one (call.Back k o) = one (record { number = k; command = Back o })
logs_by t P log same one call.Ask = same
logs_by t P log same one (call.Show o) = same
logs_by t P log same one (call.Read o r) = same
logs_by t P log same one (call.Draw o room) = same

-- so the account is kept by any calls
pub calls_keep : (t : Terms) (before : List Call) → Kept (account t) (lines t before)
unfolding lines_from
calls_keep t before =
    fold_along (logs t) (logs t) (λ log _. Kept (account t) log)
    (λ log _ c k. logs_by t (Kept (account t)) log k (λ s. logged_keeps (account t) log s.number s.command k) c)
    [] [] before (none_kept (account t))

-- a log grows by any call
logs_grow : (t : Terms) (log : List Line) (c : Call) → Grown log (logs t log c)
logs_grow t log c = logs_by t (Grown log) log (not_grown log) (next_grows (account t) log) c

-- a command's reply and log
pub sent_reply : (t : Terms) (log : List Line) (k : ℕ) (c : Command) → reply t log (sent k c) ≡ answered (numbered (account t) log k c)
sent_reply t log k (Take o) = refl
sent_reply t log k (Back o) = refl

pub sent_logs : (t : Terms) (log : List Line) (k : ℕ) (c : Command) → logs t log (sent k c) ≡ logged (account t) log k c
sent_logs t log k (Take o) = refl
sent_logs t log k (Back o) = refl

-- a repeat adds no line
pub repeat_adds_none : (t : Terms) (log : List Line) (c : Call) → is_repeat log c ≡ true → logs t log c ≡ log
repeat_adds_none t log (call.Take k o) h = repeat_log (account t) log (record { number = k; command = Take o }) h
repeat_adds_none t log (call.Back k o) h = repeat_log (account t) log (record { number = k; command = Back o }) h
repeat_adds_none t log call.Ask h = refl
repeat_adds_none t log (call.Show o) h = refl
repeat_adds_none t log (call.Read o r) h = refl
repeat_adds_none t log (call.Draw o room) h = refl

-- nor does any call that is not fresh
pub others_add_none : (t : Terms) (log : List Line) (c : Call) → is_fresh log c ≡ false → logs t log c ≡ log
others_add_none t log (call.Take k o) h = no_line_more (account t) log k (Take o) h
others_add_none t log (call.Back k o) h = no_line_more (account t) log k (Back o) h
others_add_none t log call.Ask h = refl
others_add_none t log (call.Show o) h = refl
others_add_none t log (call.Read o r) h = refl
others_add_none t log (call.Draw o room) h = refl

-- a call that adds no line, left out, changes no later log
pub lines_without : (t : Terms) (before later : List Call) (c : Call) → logs t (lines t before) c ≡ lines t before → lines t (before ++ c ∷ later) ≡ lines t (before ++ later)
unfolding lines_from
lines_without t before later c h =
    fold-append (logs t) [] before (c ∷ later)
    ∙ ap (λ l. fold (logs t) l later) h
    ∙ sym (fold-append (logs t) [] before later)

-- the log after a command and whatever follows it
pub lines_past : (t : Terms) (before between : List Call) (k : ℕ) (c : Command)
    → lines t (before ++ sent k c ∷ between) ≡ command.lines_from (account t) (logged (account t) (lines t before) k c) (commands_among between)
unfolding lines_from
lines_past t before between k c =
    fold-append (logs t) [] before (sent k c ∷ between)
    ∙ ap (λ l. fold (logs t) l between) (sent_logs t (lines t before) k c)
    ∙ lines_of_commands t between (logged (account t) (lines t before) k c)

-- it grew from the one after the command
pub grown_past : (t : Terms) (before between : List Call) (k : ℕ) (c : Command)
    → Grown (logged (account t) (lines t before) k c) (lines t (before ++ sent k c ∷ between))
unfolding lines_from
grown_past t before between k c = rw (← sent_logs t (lines t before) k c) (run_past (logs t) (logs_grow t) [] before (sent k c) between)

-- a fresh command is answered the same when it is sent again
pub said_again : (t : Terms) (before between : List Call) (k : ℕ) (c : Command) → fresh (lines t before) k ≡ true
    → says t (before ++ sent k c ∷ between) (sent k c) ≡ answered (numbered (account t) (lines t before) k c)
said_again t before between k c h =
    sent_reply t (lines t (before ++ sent k c ∷ between)) k c
    ∙ ap answered
    (answered_again (account t) (lines t before) (lines t (before ++ sent k c ∷ between)) (record { number = k; command = c }) h (grown_past t before between k c))
