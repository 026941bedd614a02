-- A number made of one bit for each weight.
use Rattle.std.proofs.Common.{◌≡◌, ℕ, zero, suc, ◌+◌, ◌*◌, ◌/◌, ◌%◌, ◌^◌, ◌<◌, ◌≤◌, Bool, true, false, eqb, sym, refl, ap, ◌∙◌, arith, pow_mono}
use native.Mathlib.Nat.{div-eq_of_lt}
use Rattle.std.proofs.lemmas.Nat.{shr-shr}
use Rattle.rows.specs.Rows.{sum_below, bit}
use Rattle.rows.proofs.Sums.{sum_first, sum_mul, sum_same}
use Rattle.symmetric.specs.Vectors.{value}

-- the number whose bit w is f w, below k
abbrev pub number_of : (ℕ → Bool) → ℕ → ℕ
number_of f k = sum_below k (λ w. bit (f w) * 2 ^ w)

pub number_fits : (f : ℕ → Bool) (k : ℕ) → number_of f k < 2 ^ k
unfolding sum_below
number_fits f zero = omega arith
number_fits f (suc k) = go (f k) (number_fits f k)
  where
    go : (b : Bool) → number_of f k < 2 ^ k → number_of f k + bit b * 2 ^ k < 2 ^ suc k
    go true ih = omega arith
    go false ih = omega arith

-- its lowest bit, and the rest
number_step : (f : ℕ → Bool) (k : ℕ) → number_of f (suc k) ≡ bit (f 0) + 2 * number_of (λ w. f (suc w)) k
number_step f k =
    let first = sum_first k (λ w. bit (f w) * 2 ^ w) in
    let twice : sum_below k (λ w. bit (f (suc w)) * 2 ^ suc w) ≡ sum_below k (λ w. 2 * (bit (f (suc w)) * 2 ^ w)) = sum_same k (λ w. go (f (suc w)) w) in
    let out = sum_mul k 2 (λ w. bit (f (suc w)) * 2 ^ w) in
    omega arith
  where
    go : (b : Bool) (w : ℕ) → bit b * 2 ^ suc w ≡ 2 * (bit b * 2 ^ w)
    go true w = omega arith
    go false w = omega arith

bit_value : (b : Bool) → eqb (bit b) 1 ≡ b
bit_value true = refl
bit_value false = refl

number_digit : (f : ℕ → Bool) (k w : ℕ) → w < k → number_of f k / 2 ^ w % 2 ≡ bit (f w)
number_digit f zero w h = absurd (omega arith)
number_digit f (suc k) zero h = let step = number_step f k in go (f 0) (number_of f (suc k)) (number_of (λ w. f (suc w)) k) step
  where
    go : (b : Bool) (n rest : ℕ) → n ≡ bit b + 2 * rest → n / 2 ^ 0 % 2 ≡ bit b
    go true n rest e = omega arith
    go false n rest e = omega arith
number_digit f (suc k) (suc w) h =
    let step = number_step f k in
    let half : number_of f (suc k) / 2 ≡ number_of (λ w. f (suc w)) k = go (f 0) (number_of f (suc k)) (number_of (λ w. f (suc w)) k) step in
    let down : number_of f (suc k) / 2 / 2 ^ w ≡ number_of f (suc k) / 2 ^ (1 + w) = shr-shr (number_of f (suc k)) 1 w in
    let same : 1 + w ≡ suc w = omega arith in
    ap (λ j. number_of f (suc k) / 2 ^ j % 2) (sym same) ∙ ap (λ n. n % 2) (sym down) ∙ ap (λ n. n / 2 ^ w % 2) half ∙ number_digit (λ w. f (suc w)) k w (omega arith)
  where
    go : (b : Bool) (n rest : ℕ) → n ≡ bit b + 2 * rest → n / 2 ≡ rest
    go true n rest e = omega arith
    go false n rest e = omega arith

pub number_value : (f : ℕ → Bool) (k w : ℕ) → w < k → value (number_of f k) w ≡ f w
number_value f k w h = ap (λ d. eqb d 1) (number_digit f k w h) ∙ bit_value (f w)

pub number_above : (f : ℕ → Bool) (k w : ℕ) → k ≤ w → value (number_of f k) w ≡ false
number_above f k w h =
    let small = number_fits f k in
    let power : 2 ^ k ≤ 2 ^ w = pow_mono h in
    let none : number_of f k / 2 ^ w ≡ 0 = div-eq_of_lt (omega arith) in
    ap (λ n. eqb (n % 2) 1) none
