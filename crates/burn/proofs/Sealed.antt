-- What stands where in a closed block, and that such a block is read as what it was made of.
use Rattle.std.proofs.Common.{◌≡◌, ℕ, ◌+◌, ◌-◌, ◌*◌, ◌/◌, ◌%◌, ◌^◌, ◌<◌, ◌≤◌, eqb, List, [], ◌∷◌, length, get_or, take, drop, Ok, sym, ap, ◌∙◌, ⊎_elim, add-zero, mod-eq_of_lt, arith}
use Rattle.std.proofs.lemmas.Nat.{shr-shr, div-add-mod', div-mul-add, mod-mul-add, div_below}
use Rattle.std.proofs.lemmas.List.{take_at, drop_at, get_or_append_left, get_or-append_right, get_or-replicate, get_or-drop, get_or-take, get_or_past}
use Rattle.std.proofs.lemmas.Bool.{eq-eqb, cond-true, cases_lt}
use Rattle.burn.specs.Blocks.{Bytes, bytes4, little, weighed, padding, front, sealed, summed, zeros}
use Rattle.burn.proofs.Fronts.{length_padding, length_front}
use Rattle.burn.proofs.Sums.{weighed_le}
use Rattle.burn.proofs.Fields.{zeros_by}

-- a number of four digits to the base 256
digits : (x q1 r0 q2 r1 q3 r2 r3 : ℕ) → q1 * 256 + r0 ≡ x → q2 * 256 + r1 ≡ q1 → q3 * 256 + r2 ≡ q2 → r3 ≡ q3 → r0 + r1 * 256 + r2 * 65536 + r3 * 16777216 ≡ x
digits x q1 r0 q2 r1 q3 r2 r3 d0 d1 d2 d3 = omega arith

-- the next quotients
by_256 : (x : ℕ) → (x / 256 / 256 ≡ x / 65536) × (x / 65536 / 256 ≡ x / 16777216)
by_256 x = (shr-shr x 8 8, shr-shr x 16 8)

-- a number from its four bytes, and the bytes of such a number
pub little_of : (x : ℕ) → x < 2 ^ 32 → x % 256 + x / 256 % 256 * 256 + x / 65536 % 256 * 65536 + x / 16777216 % 256 * 16777216 ≡ x
little_of x h =
    let top : x / 16777216 < 256 = div_below x 16777216 256 (omega arith) (omega arith) in
    digits x (x / 256) (x % 256) (x / 65536) (x / 256 % 256) (x / 16777216) (x / 65536 % 256) (x / 16777216 % 256)
    (div-add-mod' x 256)
    (ap (λ q. q * 256 + x / 256 % 256) (sym (by_256 x).0) ∙ div-add-mod' (x / 256) 256)
    (ap (λ q. q * 256 + x / 65536 % 256) (sym (by_256 x).1) ∙ div-add-mod' (x / 65536) 256)
    (mod-eq_of_lt top)

same_four : {a b c d e f g h : ℕ} → a ≡ e → b ≡ f → c ≡ g → d ≡ h → a ∷ b ∷ c ∷ d ∷ [] ≡ e ∷ f ∷ g ∷ h ∷ []
same_four p q r s = cc

pub bytes_of : (a b c d : ℕ) → a < 256 → b < 256 → c < 256 → d < 256 → bytes4 (a + b * 256 + c * 65536 + d * 16777216) ≡ a ∷ b ∷ c ∷ d ∷ []
bytes_of a b c d ha hb hc hd =
    let x = a + b * 256 + c * 65536 + d * 16777216 in
    let s0 : x ≡ (b + c * 256 + d * 65536) * 256 + a = omega arith in
    let s1 : b + c * 256 + d * 65536 ≡ (c + d * 256) * 256 + b = omega arith in
    let s2 : c + d * 256 ≡ d * 256 + c = omega arith in
    let q1 : x / 256 ≡ b + c * 256 + d * 65536 = ap (λ n. n / 256) s0 ∙ div-mul-add (b + c * 256 + d * 65536) 256 a ha in
    let q2 : x / 65536 ≡ c + d * 256 = sym (by_256 x).0 ∙ (ap (λ n. n / 256) (q1 ∙ s1) ∙ div-mul-add (c + d * 256) 256 b hb) in
    let q3 : x / 16777216 ≡ d = sym (by_256 x).1 ∙ (ap (λ n. n / 256) (q2 ∙ s2) ∙ div-mul-add d 256 c hc) in
    same_four (ap (λ n. n % 256) s0 ∙ mod-mul-add (b + c * 256 + d * 65536) 256 a ha) (ap (λ n. n % 256) (q1 ∙ s1) ∙ mod-mul-add (c + d * 256) 256 b hb)
    (ap (λ n. n % 256) (q2 ∙ s2) ∙ mod-mul-add d 256 c hc) (ap (λ n. n % 256) q3 ∙ mod-eq_of_lt hd)

-- the places of a front
pub front_low : (first : List ℕ) (k : ℕ) → length first ≡ 12 → k < 12 → get_or (front first) k 0 ≡ get_or first k 0
front_low first k l h = get_or_append_left first padding 0 k (omega arith)

pub padding_zero : (k : ℕ) → get_or padding k 0 ≡ 0
unfolding padding
padding_zero k = ⊎_elim (λ h. get_or-replicate 496 k 0 0 h) (λ h. get_or_past padding k 0 (omega (arith, length_padding))) (cases_lt k 496)

pub front_high : (first : List ℕ) (k : ℕ) → length first ≡ 12 → 12 ≤ k → get_or (front first) k 0 ≡ 0
front_high first k l h = get_or-append_right first padding 12 k 0 l h ∙ padding_zero (k - 12)

pub front_bytes : (first : List ℕ) → length first ≡ 12 → Bytes first → Bytes (front first)
front_bytes first l b k = ⊎_elim (λ h. omega (arith, front_low first k l h, b k)) (λ h. omega (arith, front_high first k l h)) (cases_lt k 12)

-- the places of a closed block
pub sealed_front : (first : List ℕ) → length first ≡ 12 → take 508 (sealed first) ≡ front first
unfolding sealed
sealed_front first l = take_at (front first) (bytes4 (weighed 1 (front first))) 508 (length_front first l)

pub sealed_end : (first : List ℕ) → length first ≡ 12 → drop 508 (sealed first) ≡ bytes4 (weighed 1 (front first))
unfolding sealed
sealed_end first l = drop_at (front first) (bytes4 (weighed 1 (front first))) 508 (length_front first l)

pub sealed_at : (first : List ℕ) (k : ℕ) → length first ≡ 12 → k < 508 → get_or (sealed first) k 0 ≡ get_or (front first) k 0
sealed_at first k l h = sym (get_or-take 508 (sealed first) k 0 h) ∙ ap (λ xs. get_or xs k 0) (sealed_front first l)

pub sealed_low : (first : List ℕ) (k : ℕ) → length first ≡ 12 → k < 12 → get_or (sealed first) k 0 ≡ get_or first k 0
sealed_low first k l h = sealed_at first k l (omega arith) ∙ front_low first k l h

pub sealed_zeros : (b : ℕ) (first : List ℕ) → length first ≡ 12 → zeros b (sealed first) 12 496 ≡ Ok tt
sealed_zeros b first l = zeros_by b (sealed first) 12 496 (λ k h g. sealed_at first k l (omega arith) ∙ front_high first k l h)

-- its sum is right
little_drop : (xs : List ℕ) (p : ℕ) → little xs p ≡ little (drop p xs) 0
little_drop xs p = simp (get_or-drop, add-zero)

pub sealed_summed : (b : ℕ) (first : List ℕ) → length first ≡ 12 → Bytes first → summed b (sealed first) ≡ Ok tt
sealed_summed b first l h =
    let w = weighed 1 (front first) in
    let small : w < 2 ^ 32 = omega (arith, weighed_le 1 (front first) (front_bytes first l h) (omega (arith, length_front first l)), length_front first l) in
    let s : little (sealed first) 508 ≡ w = little_drop (sealed first) 508 ∙ (ap (λ xs. little xs 0) (sealed_end first l) ∙ little_of w small) in
    cond-true (eqb (little (sealed first) 508) (weighed 1 (take 508 (sealed first)))) (Ok tt) _ (eq-eqb _ _ (s ∙ ap (weighed 1) (sym (sealed_front first l))))
