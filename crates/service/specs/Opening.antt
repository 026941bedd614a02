-- What a service is opened with, and when it is refused: for whoever opens one.
-- A refusal for want of memory is told apart: it is given only where there is no other.
use Rattle.std.specs.Prelude.{◌≡◌, ℕ, ◌+◌, ◌<◌, Bool, cond, ◌&&◌, List, [], ◌∷◌, length, Ok, Err, Result, nat_le, nat_lt, slice_index_or}
use Rattle.refusal.specs.declared.table.Refusal.{Refusal}
use Rattle.refusal.specs.declared.table.Refusal.TheVariants.{CostTooLarge, BadPrice, NoMemory}
use Rattle.rows.specs.Rows.{sum_below}
use Rattle.design.specs.Meaning.{Meaning}
use Rattle.rules.specs.Rules.{Terms, account}
use Rattle.service.specs.Booked.{Accounted}
use Rattle.service.specs.declared.account.Account.{Account}

-- there is an output at the position, and its price is 1 to 255
abbrev pub fair : ℕ → ℕ → ℕ → Bool
fair outputs position price = nat_lt position outputs && (nat_le 1 price && nat_le price 255)

-- the prices from a position on: the first one that is missing, surplus or not 1 to 255 is refused
unfoldable pub priced_from : ℕ → ℕ → List ℕ → Result (Unit {0}) Refusal
priced_from outputs position [] = cond (nat_lt position outputs) (Err (BadPrice position)) (Ok tt)
priced_from outputs position (p ∷ later) = cond (fair outputs position p) (priced_from outputs (position + 1) later) (Err (BadPrice position))

-- all prices, from position 0 on
abbrev pub priced : ℕ → List ℕ → Result (Unit {0}) Refusal
priced outputs prices = priced_from outputs 0 prices

-- what a service is opened with
abbrev pub terms : Meaning → ℕ → List ℕ → Terms
terms m limit prices = record { meaning = m; limit = limit; prices = prices }

-- what the outputs before the k-th cost together
unfoldable pub costs_below : Terms → ℕ → ℕ
costs_below t k = sum_below k (account t).cost

-- prices are tried first; then all costs together must be sayable in 32 bits
abbrev pub costed : Result (Unit {0}) Refusal → ℕ → Result (Unit {0}) Refusal
costed (Ok fine) total = cond (nat_lt 4294967295 total) (Err CostTooLarge) (Ok fine)
costed (Err why) total = Err why

-- what opening on these terms answers
abbrev pub opened : Terms → Result (Unit {0}) Refusal
opened t = costed (priced t.meaning.outputs t.prices) (costs_below t t.meaning.outputs)

-- an account for each output, none of them taken; the limit does not matter
pub record AllAccounts (m : Meaning) (prices : List ℕ) (accounts : List Account) : Type 0 where
  pub outputs : length accounts ≡ m.outputs
  pub each : (limit : ℕ) (outside : Account) (o : ℕ) → o < m.outputs → Accounted (terms m limit prices) [] o (slice_index_or accounts o outside)

-- only memory can be wanting; items are what a table of accounts holds
abbrev pub AccountsMade : {V : Type 0} → (V → List Account) → Meaning → List ℕ → Result V Refusal → Type 0
AccountsMade items m prices (Ok accounts) = AllAccounts m prices (items accounts)
AccountsMade items m prices (Err why) = why ≡ NoMemory
