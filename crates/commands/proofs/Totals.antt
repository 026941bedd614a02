-- Sums that differ at one place.
use Rattle.std.proofs.Common.{◌≡◌, ℕ, zero, suc, ◌+◌, ◌<◌, ◌≤◌, ◌≢◌, arith}
use Rattle.rows.specs.Rows.{sum_below}
use Rattle.rows.proofs.Sums.{sum_cong}

-- one term is at most the sum
pub term_le : (m : ℕ) (f : ℕ → ℕ) (k : ℕ) → k < m → f k ≤ sum_below m f
unfolding sum_below
term_le zero f k h = absurd (omega arith)
term_le (suc m) f k h = grind (arith, term_le m f k)

-- sums that differ at k alone differ by the terms there
pub total_but : (m : ℕ) (f g : ℕ → ℕ) (k : ℕ) → k < m → ((j : ℕ) → j ≢ k → f j ≡ g j) → sum_below m f + g k ≡ sum_below m g + f k
unfolding sum_below
total_but zero f g k h same = absurd (omega arith)
total_but (suc m) f g k h same = grind (arith, sum_cong m f g, total_but m f g k)
