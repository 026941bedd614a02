-- The promise, from its parts.
use Rattle.std.proofs.Common.{◌≡◌, true, List, [], ◌∷◌, ◌++◌, sym, refl, ap, ◌∙◌, arith}
use Rattle.std.proofs.lemmas.List.Folds.{fold_along}
use Rattle.std.proofs.lemmas.Bool.{false≢true}
use Rattle.rows.proofs.Sums.{sum_zero}
use Rattle.commands.specs.Rules.{Account, Sent, taken, spent, with_line, fresh, repeats, next, hears, lines_from, lines_after, heard_from}
use Rattle.commands.specs.Promise.{Kept, Fresh, Repeat, CommandsKeepTheirPromise}
use Rattle.commands.proofs.Logs.{next_line, no_line_more, fresh_answer, repeat_answer, repeat_log}
use Rattle.commands.proofs.Runs.{lines_one, answers_one, log_begins, grown_past, answered_again}
use Rattle.commands.proofs.Changed.{decided_changes, logged_keeps}
use Rattle.commands.proofs.Limits.{fits, put_back}
use Rattle.commands.proofs.Strikes.{Idle, left_over}

-- nothing is taken by no lines
pub none_kept : (account : Account) → Kept account []
unfolding taken spent
none_kept account = record { sum = sym (sum_zero account.outputs); within = omega arith; there = λ o held. absurd (false≢true held); room = omega arith }

-- so the account is kept by any commands
pub all_kept : (account : Account) (before : List Sent) → Kept account (lines_after account before)
unfolding lines_from
all_kept account before =
    fold_along (next account) (next account) (λ lines _. Kept account lines) (λ lines _ s k. logged_keeps account lines s.number s.command k) [] [] before (none_kept account)

pub fresh_kept : (account : Account) (before : List Sent) (s : Sent) → fresh (lines_after account before) s.number ≡ true → Fresh account before s
fresh_kept account before s h =
    let log = lines_one account before s ∙ next_line account (lines_after account before) s.number s.command h in
    let answer = fresh_answer account (lines_after account before) s.number s.command h in
    record {
      line = log ∙ ap (with_line (lines_after account before) s.command) (sym answer);
      changes = rw (log, answer) (decided_changes account (lines_after account before) s.command (all_kept account before));
      again = λ between. answered_again account (lines_after account before) (lines_after account (before ++ s ∷ between)) s h
          (grown_past account before s between);
    }

pub repeat_kept : (account : Account) (before : List Sent) (s : Sent) → repeats (lines_after account before) s ≡ true → Repeat account before s
repeat_kept account before s h = record {
  answer = repeat_answer account (lines_after account before) s h;
  log = lines_one account before s ∙ repeat_log account (lines_after account before) s h;
}

-- a repeat changes nothing
repeats_idle : (account : Account) → Idle (next account) (hears account) (λ h. h.sent) (λ h. repeats h.before h.sent)
repeats_idle account = record { tells = λ lines s. refl; stays = λ lines s h. repeat_log account lines s h }

pub commands_keep_their_promise : CommandsKeepTheirPromise
unfolding lines_from heard_from
commands_keep_their_promise account = record {
  kept = all_kept account;
  answered = answers_one account;
  grows = log_begins account;
  fresh_ones = fresh_kept account;
  repeated = repeat_kept account;
  idle = λ before s h. lines_one account before s ∙ no_line_more account (lines_after account before) s.number s.command h;
  limited = λ before o few inside free. fits account (lines_after account before) o few inside free;
  returned = λ before o few inside held. (_, put_back account (lines_after account before) o few inside held);
  struck = λ sent left t. (left_over (repeats_idle account) t [] sent refl).0;
  ended = λ sent left t. (left_over (repeats_idle account) t [] sent refl).1;
}
