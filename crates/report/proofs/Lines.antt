-- The digits of a vector and the lines of the outputs, one by one.
use Rattle.std.specs.Prelude.{decimal}
use Rattle.std.proofs.Common.{◌≡◌, ℕ, zero, suc, ◌+◌, ◌/◌, ◌%◌, ◌^◌, ◌<◌, ◌≤◌, List, [], ◌∷◌, ◌++◌, length, get_or, drop, sym, ap, ◌∙◌, append_assoc, arith}
use Rattle.std.proofs.lemmas.Fmt.{decimal_digit}
use Rattle.std.proofs.lemmas.List.{append-nil, at_drop_more, at_drop_all}
use Rattle.burn.specs.declared.entry.Entry.{Entry}
use Rattle.report.specs.Listing.{digit, digits, entry_line, entry_lines}

-- one digit more
digits_onward : (vector a n w : ℕ) → a + n ≡ w → digits vector a n ++ decimal (vector / 2 ^ w % 2) ≡ digits vector a (suc n)
unfolding digits
digits_onward vector a zero w e = decimal_digit _ (omega arith) ∙ ap (λ k. digit vector k ∷ []) (omega (arith, e))
digits_onward vector a (suc n) w e = ap (λ xs. digit vector a ∷ xs) (digits_onward vector (a + 1) n w (omega (arith, e)))

pub digits_more : (vector n : ℕ) → digits vector 0 n ++ decimal (vector / 2 ^ n % 2) ≡ digits vector 0 (n + 1)
digits_more vector n = digits_onward vector 0 n n (omega arith) ∙ ap (λ k. digits vector 0 k) (omega arith)

-- one line more, and none left
pub lines_more : (text all : List ℕ) (inputs i : ℕ) (es : List Entry) (d : Entry) → i < length es → text ++ entry_lines inputs i (drop i es) ≡ all → (text ++ entry_line inputs i (get_or es i d)) ++ entry_lines inputs (i + 1) (drop (i + 1) es) ≡ all
unfolding entry_lines
lines_more text all inputs i es d h e = append_assoc text (entry_line inputs i (get_or es i d)) (entry_lines inputs (i + 1) (drop (i + 1) es)) ∙ (ap (λ x. text ++ x) (sym (at_drop_more (entry_lines inputs i) es i d h)) ∙ e)

pub lines_all : (text all : List ℕ) (inputs i : ℕ) (es : List Entry) → length es ≤ i → text ++ entry_lines inputs i (drop i es) ≡ all → text ≡ all
unfolding entry_lines
lines_all text all inputs i es h e = sym (append-nil text) ∙ (ap (λ x. text ++ x) (sym (at_drop_all (entry_lines inputs i) es i h)) ∙ e)
