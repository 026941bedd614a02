-- Small tables and their nearest symmetric functions: for a reader who wants to see the definitions compute.
-- Each has one output, written as its mark at each row.
use Rattle.std.specs.Prelude.{◌≡◌, ℕ, ◌%◌, cond, Ok, Result, ◌==◌}
use Rattle.refusal.specs.declared.table.Refusal.{Refusal}
use Rattle.design.specs.declared.mark.Mark.{Mark}
use Rattle.design.specs.declared.mark.Mark.TheVariants.{Zero, One, DontCare}
use Rattle.design.specs.Meaning.{Meaning}
use Rattle.symmetric.specs.Nearest.{Found, nearest_to}

-- one output of n inputs, by its mark at each row
abbrev pub table : ℕ → (ℕ → Mark) → Meaning
table n mark = record { inputs = n; outputs = 1; mark = λ _. mark }

-- three inputs: the odd rows are one, and row 6 is a don't-care
abbrev pub odd_rows : Meaning
odd_rows = table 3 (λ r. cond (r % 2 == 1) One (cond (r == 6) DontCare Zero))

-- two inputs: row 1 is one
abbrev pub one_row : Meaning
one_row = table 2 (λ r. cond (r == 1) One Zero)

-- one input, every row a don't-care
abbrev pub all_free : Meaning
all_free = table 1 (λ _. DontCare)

-- the vector and the wrong rows of an answer
abbrev pub answer : ℕ → ℕ → ℕ → Result Found Refusal
answer inputs bits wrong = Ok (record { vector = record { inputs = inputs; bits = bits }; wrong = wrong })

-- of weight 1 the second table has as many ones as zeros
pub record FiguresTold : Type 0 where
  pub odd : nearest_to odd_rows 0 ≡ answer 3 12 1
  pub tie : nearest_to one_row 0 ≡ answer 2 0 1
  pub free : nearest_to all_free 0 ≡ answer 1 0 0
