-- Constant pieces: as numbers, value by value, and where two neighbouring pieces are read alike.
use Rattle.std.proofs.Common.{◌≡◌, ℕ, zero, suc, ◌+◌, ◌-◌, ◌*◌, ◌/◌, ◌%◌, ◌^◌, ◌<◌, ◌≤◌, ◌⊎◌, List, sym, ap, ◌∙◌, add-zero, arith, pow_pos, pow_mono, shl_lt}
use lib.Count.{ones, ones-ones}
use Rattle.std.specs.Int.{bit_at}
use Rattle.std.proofs.lemmas.Nat.{shr-shr, shl-shr}
use Rattle.std.proofs.lemmas.Nat.Bits.{bit_at-lt}
use Rattle.std.proofs.lemmas.Bool.Decides.{nat_tests}
use Rattle.diagram.specs.declared.node.Node.{Node}
use Rattle.diagram.specs.Walk.{mark_of, read}
use Rattle.drawing.specs.Pieces.{piece, all_ones}
use Rattle.drawing.proofs.Digits.{digits_zero, digits_one, from_alike}
use Rattle.drawing.proofs.Levels.{Holds, Alike, Refers}

-- marks of values tell them apart
pub mark_same : (a b : ℕ) → a < 2 → b < 2 → mark_of a ≡ mark_of b → a ≡ b
mark_same a b h g e = grind (arith, nat_tests)

module _ (inputs bits level i : ℕ) where
  shifted : (w : ℕ) → bit_at (bits / 2 ^ i) w ≡ bit_at bits (i + w)
  shifted w = ap (λ q. q % 2) (shr-shr bits i w)

  pub piece_zeros : piece inputs bits level i ≡ 0 → Holds inputs bits level i 0
  piece_zeros e w h = sym (shifted w) ∙ digits_zero (inputs - level + 1) (bits / 2 ^ i) w e (omega arith)

  pub piece_ones : piece inputs bits level i ≡ all_ones inputs level → Holds inputs bits level i 1
  piece_ones e w h = sym (shifted w) ∙ digits_one (inputs - level + 1) (bits / 2 ^ i) w e (omega arith)

  pub piece_alike : Alike inputs bits level i → (piece inputs bits level i ≡ 0) ⊎ (piece inputs bits level i ≡ all_ones inputs level)
  piece_alike alike =
      from_alike (inputs - level + 1) (bits / 2 ^ i)
      (λ w h. shifted w ∙ alike w (omega arith) ∙ sym (shifted 0 ∙ ap (λ j. bit_at bits j) (add-zero i)))

  -- a constant piece has constant pieces below it
  pub below_alike : level < inputs → (c j : ℕ) → Holds inputs bits level i c → i ≤ j → j ≤ i + 1 → Alike inputs bits (level + 1) j
  below_alike less c j each from to w h =
      let far : i + (j - i + w) ≡ j + w = omega arith in
      let near : i + (j - i) ≡ j = omega arith in
      sym (ap (λ m. bit_at bits m) far) ∙ each (j - i + w) (omega arith) ∙ sym (sym (ap (λ m. bit_at bits m) near) ∙ each (j - i) (omega arith))

-- two neighbouring pieces with one reference make a constant piece
module _ (inputs bits level k : ℕ) (nodes : List Node) (r t : ℕ) (less : level < inputs) (low : Refers inputs bits (level + 1) nodes k r) (high : Refers inputs bits (level + 1) nodes (k + 1) t) (same : r ≡ t) where
  next_same : (w : ℕ) → w ≤ inputs - (level + 1) → bit_at bits (k + w) ≡ bit_at bits (k + 1 + w)
  next_same w h =
      let row : ℕ = (2 ^ w - 1) * 2 ^ (level + 1) in
      let pos = pow_pos w in
      let fits : 2 ^ (w + (level + 1)) ≤ 2 ^ inputs = pow_mono {i = w + (level + 1)} {j = inputs} (omega arith) in
      let below = shl_lt {a = 2 ^ w - 1} w (level + 1) (omega arith) in
      let weight : ones (row / 2 ^ (level + 1)) ≡ w = ap ones (shl-shr (2 ^ w - 1) (level + 1)) ∙ ones-ones w in
      let here = low.reads row (omega arith) ∙ ap (λ n. mark_of (bit_at bits (k + n))) weight in
      let there = high.reads row (omega arith) ∙ ap (λ n. mark_of (bit_at bits (k + 1 + n))) weight in
      mark_same _ _ (bit_at-lt _ _) (bit_at-lt _ _) (sym here ∙ ap (λ x. read nodes row inputs x) same ∙ there)

  pub neighbours_alike : Alike inputs bits level k
  neighbours_alike zero h = ap (λ j. bit_at bits j) (add-zero k)
  neighbours_alike (suc w) h =
      let far : k + suc w ≡ k + 1 + w = omega arith in
      ap (λ j. bit_at bits j) far ∙ sym (next_same w (omega arith)) ∙ neighbours_alike w (omega arith)
