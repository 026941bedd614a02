-- What passing or refusing a list of prices says of it, and that costs never pass 32 bits: for whoever is refused at opening.
-- Positions count from 0, one for each output.
use Rattle.std.specs.Prelude.{◌≡◌, ℕ, ◌<◌, ◌≤◌, List, length, Ok, Err, Result, slice_index}
use Rattle.refusal.specs.declared.table.Refusal.{Refusal}
use Rattle.refusal.specs.declared.table.Refusal.TheVariants.{BadPrice}
use Rattle.design.specs.Meaning.{Sound}
use Rattle.rules.specs.Rules.{Terms}
use Rattle.service.specs.Opening.{priced, costs_below}

-- a position with an output and with a price of 1 to 255
pub record FairAt (outputs : ℕ) (prices : List ℕ) (position : ℕ) : Type 0 where
  pub output : position < outputs
  pub given : position < length prices
  pub least : 1 ≤ slice_index prices position
  pub most : slice_index prices position ≤ 255

-- what can be wrong at a position: an output without a price, a price without an output, or a price that is 0 or above 255
pub data BadAt (outputs : ℕ) (prices : List ℕ) (position : ℕ) : Type 0 where
  missing : position ≡ length prices → position < outputs → BadAt outputs prices position
  surplus : position < length prices → outputs ≤ position → BadAt outputs prices position
  zero_price : position < length prices → slice_index prices position ≡ 0 → BadAt outputs prices position
  above_255 : position < length prices → 255 < slice_index prices position → BadAt outputs prices position

-- prices that pass: as many as outputs, and each of 1 to 255
pub record AllFair (outputs : ℕ) (prices : List ℕ) : Type 0 where
  pub many : length prices ≡ outputs
  pub each : (position : ℕ) → position < outputs → FairAt outputs prices position

-- prices that are refused: for the first position at which something is wrong
pub record FirstBad (outputs : ℕ) (prices : List ℕ) (why : Refusal) : Type 0 where
  pub position : ℕ
  pub names : why ≡ BadPrice position
  pub before : (earlier : ℕ) → earlier < position → FairAt outputs prices earlier
  pub bad : BadAt outputs prices position

-- what passing or refusing the prices says of them
abbrev pub PricedSays : ℕ → List ℕ → Result (Unit {0}) Refusal → Type 0
PricedSays outputs prices (Ok fine) = AllFair outputs prices
PricedSays outputs prices (Err why) = FirstBad outputs prices why

-- of every list of prices the answer says what is right or wrong; where the prices pass, all costs together are sayable in 32 bits
pub record PricesAreJudged : Type 0 where
  pub says : (outputs : ℕ) (prices : List ℕ) → PricedSays outputs prices (priced outputs prices)
  pub costs : (t : Terms) → Sound t.meaning → priced t.meaning.outputs t.prices ≡ Ok tt → costs_below t t.meaning.outputs ≤ 4294967295
