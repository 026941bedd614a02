-- Zeros and costs, as one list.
use Rattle.std.proofs.Common.{◌≡◌, ℕ, zero, suc, ◌+◌, ◌-◌, ◌<◌, ◌≤◌, Bool, true, false, cond, eqb, ltb, not, List, length, get_or, take, drop, Some, None, Ok, Err, Result, sym, refl, ap, ◌∙◌, ⊎_elim, arith}
use Rattle.std.specs.List.{sum_by, position, position_or_len}
use Rattle.std.proofs.lemmas.List.{get_or-drop, get_or-take, length-drop, length-take-le}
use Rattle.std.proofs.lemmas.List.Recursion.{is_sum_by}
use Rattle.std.proofs.lemmas.List.Sums.{fails_before_first}
use Rattle.std.proofs.lemmas.List.Quantifiers.{position-Some}
use Rattle.std.proofs.Math.Nat.{eq-or-lt_of_le}
use Rattle.std.proofs.lemmas.Bool.{eq-eqb, cond-true}
use Rattle.std.proofs.lemmas.Bool.Decides.{nat_tests}
use Rattle.refusal.specs.declared.table.Refusal.{Refusal}
use Rattle.refusal.specs.declared.table.Refusal.TheVariants.{BadField}
use Rattle.burn.specs.Blocks.{field, zeros}
use Rattle.burn.specs.Rules.{cost, costs}
use Rattle.burn.specs.declared.entry.Entry.{Entry}

-- the costs as a sum
pub costs_summed : (es : List Entry) → costs es ≡ sum_by cost es
unfolding costs
costs_summed = is_sum_by costs cost refl (λ _ _. refl)

-- a byte that breaks the padding
abbrev pub not_zero : ℕ → Bool
not_zero x = not (eqb x 0)

zero_byte : (x : ℕ) → not_zero x ≡ false → x ≡ 0
zero_byte x h = grind (arith, nat_tests)

some_byte : (x : ℕ) → not_zero x ≡ true → eqb x 0 ≡ false
some_byte x h = grind (arith, nat_tests)

-- zeros that stand there are passed
pub zeros_by : (b : ℕ) (xs : List ℕ) (place n : ℕ) → ((k : ℕ) → place ≤ k → k < place + n → get_or xs k 0 ≡ 0) → zeros b xs place n ≡ Ok tt
unfolding zeros
zeros_by b xs place zero f = refl
zeros_by b xs place (suc n) f =
    cond-true (eqb (get_or xs place 0) 0) _ _ (eq-eqb (get_or xs place 0) 0 (f place (omega arith) (omega arith)))
    ∙ zeros_by b xs (place + 1) n (λ k l h. f k (omega arith) (omega arith))

-- the first byte that is not zero stops there
pub zeros_stop : (b : ℕ) (xs : List ℕ) (place n i : ℕ) → place ≤ i → i < place + n → ((k : ℕ) → place ≤ k → k < i → get_or xs k 0 ≡ 0) → not_zero (get_or xs i 0) ≡ true → zeros b xs place n ≡ Err (BadField b i)
unfolding zeros
zeros_stop b xs place zero i l h f t = absurd (omega arith)
zeros_stop b xs place (suc n) i l h f t =
    let step : Bool → Result (Unit {0}) Refusal = λ c. field b place c (zeros b xs (place + 1) n) in
    ⊎_elim (λ e. ap step (some_byte (get_or xs place 0) (ap (λ k. not_zero (get_or xs k 0)) e ∙ t)) ∙ ap (λ k. Err (BadField b k)) e)
    (λ m. ap step (eq-eqb (get_or xs place 0) 0 (f place (omega arith) m)) ∙ zeros_stop b xs (place + 1) n i (omega arith) (omega arith) (λ k p q. f k (omega arith) q) t)
    (eq-or-lt_of_le l)

-- the bytes of the padding
abbrev part : List ℕ → List ℕ
part xs = take 496 (drop 12 xs)

part_at : (xs : List ℕ) (k j : ℕ) → k < 496 → 12 + k ≡ j → get_or (part xs) k 0 ≡ get_or xs j 0
part_at xs k j h e = get_or-take 496 (drop 12 xs) k 0 h ∙ (get_or-drop 12 xs k 0 ∙ ap (λ i. get_or xs i 0) e)

length_part : (xs : List ℕ) → length xs ≡ 512 → length (part xs) ≡ 496
length_part xs l = length-take-le 496 (drop 12 xs) (omega (arith, length-drop 12 xs))

-- zeros below a place of the padding
zero_at : (xs : List ℕ) (i : ℕ) → i ≤ 496 → ((k : ℕ) → k < i → not_zero (get_or (part xs) k 0) ≡ false) → (k : ℕ) → 12 ≤ k → k < 12 + i → get_or xs k 0 ≡ 0
zero_at xs i h f k l m = sym (part_at xs (k - 12) k (omega arith) (omega arith)) ∙ zero_byte (get_or (part xs) (k - 12) 0) (f (k - 12) (omega arith))

-- the padding by its first byte that is not zero
pub padding_stops : (b : ℕ) (xs : List ℕ) (i : ℕ) → length xs ≡ 512 → position not_zero (part xs) ≡ Some i → Err (BadField b (12 + i)) ≡ zeros b xs 12 496
padding_stops b xs i l q =
    let p = position-Some not_zero (part xs) i 0 q in
    let h : i < 496 = omega (arith, length_part xs l, p.0) in
    sym (zeros_stop b xs 12 496 (12 + i) (omega arith) (omega arith) (zero_at xs i (omega arith) p.2) (ap not_zero (sym (part_at xs i (12 + i) h refl)) ∙ p.1))

none_passes : (i n : ℕ) → cond (ltb i n) (Some i) None ≡ None → n ≤ i
none_passes i n q = grind (arith, nat_tests)

pub padding_passes : (b : ℕ) (xs : List ℕ) → length xs ≡ 512 → position not_zero (part xs) ≡ None → Ok tt ≡ zeros b xs 12 496
padding_passes b xs l q =
    let n = none_passes (position_or_len not_zero (part xs)) (length (part xs)) q in
    sym (zeros_by b xs 12 496 (zero_at xs 496 (omega arith) (λ k m. fails_before_first not_zero (part xs) k 0 (omega (arith, length_part xs l)))))
