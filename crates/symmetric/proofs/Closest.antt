-- All that is stated of the nearest symmetric function.
use Rattle.std.proofs.Common.{◌≡◌, ℕ, ◌+◌, ◌^◌, ◌<◌, ◌≤◌, false, ◌∙◌, arith}
use Rattle.design.specs.Meaning.{Meaning}
use Rattle.symmetric.specs.Vectors.{value}
use Rattle.symmetric.specs.Nearest.{chosen, bits_below, bits}
use Rattle.symmetric.specs.Closest.{Closest}
use Rattle.symmetric.proofs.Bits.{number_fits, number_value, number_above}
use Rattle.symmetric.proofs.Least.{wrong_rows_same, chosen_wrong, none_nearer, at_most_half}
use Rattle.symmetric.proofs.Approximation.{approximated}

pub bits_fit : (m : Meaning) (o k : ℕ) → bits_below m o k < 2 ^ k
unfolding bits_below
bits_fit m o k = number_fits (chosen m o) k

bits_value : (m : Meaning) (o w : ℕ) → w ≤ m.inputs → value (bits m o) w ≡ chosen m o w
unfolding bits_below
bits_value m o w h = number_value (chosen m o) (m.inputs + 1) w (omega arith)

bits_above : (m : Meaning) (o w : ℕ) → m.inputs < w → value (bits m o) w ≡ false
unfolding bits_below
bits_above m o w h = number_above (chosen m o) (m.inputs + 1) w (omega arith)

pub closest : (m : Meaning) (o : ℕ) → Closest m o
closest m o =
    record {
      values = bits_value m o;
      none_above = bits_above m o;
      fits = bits_fit m o (m.inputs + 1);
      exact = wrong_rows_same m o (value (bits m o)) (chosen m o) (bits_value m o) ∙ chosen_wrong m o;
      least = none_nearer m o;
      half = at_most_half m o;
      approximation = approximated m o;
    }
