-- The low digits of a number: all of them zero, all of them one, all of them alike.
use Rattle.std.proofs.Common.{◌≡◌, ℕ, ◌-◌, ◌/◌, ◌%◌, ◌^◌, ◌<◌, ◌⊎◌, sym, ap, ◌∙◌, inl, inr, ⊎_elim, arith, pow_pos}
use Rattle.std.specs.Int.{bit_at}
use Rattle.std.proofs.lemmas.Nat.{div-add-mod'}
use Rattle.std.proofs.lemmas.Nat.Bits.{bit_at-zero, bit_at_ones, bit_at-lt, bit_at_cat_low, same_from_bits_below}
use Rattle.std.proofs.lemmas.Bool.{cases_lt}

-- below m the digits are those of the rest
low : (m x w : ℕ) → w < m → bit_at x w ≡ bit_at (x % 2 ^ m) w
low m x w h = ap (λ y. bit_at y w) (sym (div-add-mod' x (2 ^ m))) ∙ bit_at_cat_low (x / 2 ^ m) m (x % 2 ^ m) w h

pub digits_zero : (m x w : ℕ) → x % 2 ^ m ≡ 0 → w < m → bit_at x w ≡ 0
digits_zero m x w e h = low m x w h ∙ ap (λ y. bit_at y w) e ∙ bit_at-zero w

pub digits_one : (m x w : ℕ) → x % 2 ^ m ≡ 2 ^ m - 1 → w < m → bit_at x w ≡ 1
digits_one m x w e h = low m x w h ∙ ap (λ y. bit_at y w) e ∙ bit_at_ones m w h

from_each : (m x y : ℕ) → y < 2 ^ m → ((w : ℕ) → w < m → bit_at x w ≡ bit_at y w) → x % 2 ^ m ≡ y
from_each m x y fits each = let p = pow_pos m in same_from_bits_below m (x % 2 ^ m) y (omega arith) fits (λ w h. sym (low m x w h) ∙ each w h)

-- all digits as the lowest one
pub from_alike : (m x : ℕ) → ((w : ℕ) → w < m → bit_at x w ≡ bit_at x 0) → (x % 2 ^ m ≡ 0) ⊎ (x % 2 ^ m ≡ 2 ^ m - 1)
from_alike m x each =
    let p = pow_pos m in
    let b = bit_at-lt x 0 in
    ⊎_elim
    (λ less. inl (from_each m x 0 (omega arith) (λ w h. each w h ∙ omega arith ∙ sym (bit_at-zero w))))
    (λ more. inr (from_each m x (2 ^ m - 1) (omega arith) (λ w h. each w h ∙ omega arith ∙ sym (bit_at_ones m w h))))
    (cases_lt (bit_at x 0) 1)
