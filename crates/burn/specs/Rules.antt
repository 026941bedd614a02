-- The rules that the values of a sheet keep, each by itself and together.
-- For whoever makes a sheet: these are the rules that no sheet breaks.
use Rattle.std.specs.Prelude.{ℕ, ◌+◌, ◌-◌, ◌*◌, ◌/◌, ◌^◌, Bool, true, cond, ◌&&◌, List, [], ◌∷◌, length, Ok, Err, Result, ◌==◌, nat_le}
use Rattle.refusal.specs.declared.table.Refusal.{Refusal}
use Rattle.refusal.specs.declared.table.Refusal.TheVariants.{BadCause}
use Rattle.refusal.specs.declared.table.Cause.TheVariants.{Blocks, Spent, Limit}
use Rattle.refusal.specs.Table.{cause_number}
use Rattle.burn.specs.Blocks.{field, then}
use Rattle.burn.specs.declared.entry.Entry.{Entry}

-- from low to high, both included
abbrev pub within : ℕ → ℕ → ℕ → Bool
within low high x = nat_le low x && nat_le x high

-- a value vector of n inputs has no bit above n
abbrev pub vector_fits : ℕ → ℕ → Bool
vector_fits inputs vector = vector / 2 ^ (inputs + 1) == 0

-- a wrong count is at most half of all rows
abbrev pub wrong_fits : ℕ → ℕ → Bool
wrong_fits inputs wrong = nat_le wrong (2 ^ (inputs - 1))

-- one output's values keep their rules
abbrev pub entry_keeps : ℕ → Entry → Bool
entry_keeps inputs e = nat_le 1 e.price && (vector_fits inputs e.vector && wrong_fits inputs e.wrong)

-- every output's values do
unfoldable pub entries_keep : ℕ → List Entry → Bool
entries_keep inputs [] = true
entries_keep inputs (e ∷ es) = entry_keeps inputs e && entries_keep inputs es

-- what an output costs: price × wrong count if it is taken
abbrev pub cost : Entry → ℕ
cost e = cond e.taken (e.price * e.wrong) 0

-- what all outputs cost together
unfoldable pub costs : List Entry → ℕ
costs [] = 0
costs (e ∷ es) = cost e + costs es

-- the rules of a whole sheet
abbrev pub keeps : ℕ → ℕ → ℕ → List Entry → Bool
keeps inputs limit spent es = within 1 16 inputs && (within 1 8 (length es) && (entries_keep inputs es && (spent == costs es && nat_le spent limit)))

-- the causes that several fields break together, the lowest one refused
abbrev pub agreed : ℕ → ℕ → ℕ → ℕ → List Entry → Result (Unit {0}) Refusal
agreed outputs blocks limit spent es = cond (outputs == blocks) (cond (spent == costs es) (cond (nat_le spent limit) (Ok tt) (Err (BadCause (cause_number Limit)))) (Err (BadCause (cause_number Spent)))) (Err (BadCause (cause_number Blocks)))

-- the values of the output in block b, the lowest wrong field refused
abbrev pub entry_checked : ℕ → ℕ → Entry → Result (Unit {0}) Refusal
entry_checked inputs b e = field b 2 (nat_le 1 e.price) (field b 4 (vector_fits inputs e.vector) (field b 8 (wrong_fits inputs e.wrong) (Ok tt)))

-- the values of all outputs, from block b on
unfoldable pub entries_checked : ℕ → ℕ → List Entry → Result (Unit {0}) Refusal
entries_checked inputs b [] = Ok tt
entries_checked inputs b (e ∷ es) = then (entry_checked inputs b e) (λ _. entries_checked inputs (b + 1) es)
