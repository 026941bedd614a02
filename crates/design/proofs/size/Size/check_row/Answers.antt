use Rattle.std.proofs.Common.{ℕ, ◌^◌, ◌≤◌, pow_mono, rules}
use Rattle.design.proofs.size.Size.check_row.Goals as goal

-- with 32 inputs or more every number of 32 bits is a row
wide : (n : ℕ) → 32 ≤ n → 2 ^ 32 ≤ 2 ^ n
wide n h = pow_mono h

pub returns : goal.returns
returns c = search (rules, wide)
