-- What a ledger holds, and what a fresh command changes in it: for whoever reads the service's code.
-- Assumes nothing of what it holds; the rules say what it is.
use Rattle.std.specs.Prelude.{ℕ, ◌+◌, ◌-◌, ◌*◌, ◌^◌, min, Bool, true, false, cond, List, length, get_or, Ok, Err, vec_items, Result, nat_le, nat_lt, slice_index_or, slice_set}
use Rattle.std.proofs.Common.{arith}
use Rattle.rows.specs.Rows.{sum_below, bit}
use Rattle.refusal.specs.declared.table.Refusal.{Refusal}
use Rattle.refusal.specs.declared.table.Refusal.TheVariants.{NoOutput, AlreadyTaken, NotTaken, OverLimit}
use Rattle.commands.specs.declared.command.Answer.{Answer}
use Rattle.commands.specs.declared.command.Answer.TheVariants.{Taken, PutBack, Refused}
use Rattle.service.specs.declared.account.Account.{Account}
use Rattle.service.specs.declared.ledger.Ledger.{Ledger}

-- an account to read where there is none; no answer depends on it
abbrev pub no_account : Account
no_account = record { price = 0; vector = record { inputs = 1; bits = 0; some = omega arith; few = omega arith; fits = omega arith }; wrong = 0; taken = false }

-- the account of an output
abbrev pub account_of : Ledger → ℕ → Account
account_of ledger o = slice_index_or (vec_items ledger.accounts) o no_account

-- the same account, taken or not
abbrev pub marked_taken : Account → Bool → Account
marked_taken a t = record { price = a.price; vector = a.vector; wrong = a.wrong; taken = t }

-- the accounts with one of them taken or not
abbrev pub with_taken : Ledger → ℕ → Bool → List Account
with_taken ledger o t = slice_set (vec_items ledger.accounts) o (marked_taken (account_of ledger o) t)

-- what an account costs to take
abbrev pub cost : Account → ℕ
cost a = a.price * a.wrong

-- an answer from the spent figure that it tells, or a refusal
abbrev pub answered : (ℕ → Answer) → Result ℕ Refusal → Answer
answered granted (Ok spent) = granted spent
answered granted (Err why) = Refused why

-- the three ways of a take: a refusal, the limit passed by so much, or the new spent figure
abbrev pub take_answer : Ledger → ℕ → Answer
take_answer ledger o =
    cond (nat_lt o (length (vec_items ledger.accounts)))
    (cond (account_of ledger o).taken
    (Refused AlreadyTaken)
    (cond (nat_le (ledger.spent + cost (account_of ledger o)) ledger.limit)
    (Taken (ledger.spent + cost (account_of ledger o)))
    (Refused (OverLimit (min (ledger.spent + cost (account_of ledger o) - ledger.limit) 4294967295)))))
    (Refused NoOutput)

-- the ways of a back: a refusal, or the new spent figure
abbrev pub back_answer : Ledger → ℕ → Answer
back_answer ledger o =
    cond (nat_lt o (length (vec_items ledger.accounts)))
    (cond (account_of ledger o).taken (PutBack (ledger.spent - cost (account_of ledger o))) (Refused NotTaken))
    (Refused NoOutput)

-- the accounts after an answer
abbrev pub accounts_after : Ledger → ℕ → Answer → List Account
accounts_after ledger o (Taken s) = with_taken ledger o true
accounts_after ledger o (PutBack s) = with_taken ledger o false
accounts_after ledger o (Refused r) = vec_items ledger.accounts

-- the spent figure after it
abbrev pub spent_after : Ledger → Answer → ℕ
spent_after ledger (Taken s) = s
spent_after ledger (PutBack s) = s
spent_after ledger (Refused r) = ledger.spent

-- the account of an output, or the refusal of one that is not there
abbrev pub account_at : Ledger → ℕ → Result Account Refusal
account_at ledger o = cond (nat_lt o (length (vec_items ledger.accounts))) (Ok (account_of ledger o)) (Err NoOutput)

-- the taken outputs among the first k as one number, bit i for output i
unfoldable pub flags : List Account → ℕ → ℕ
flags accounts k = sum_below k (λ o. bit (get_or accounts o no_account).taken * 2 ^ o)
