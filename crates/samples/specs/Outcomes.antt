-- How many comparisons were made and how many of them differ, for the sums of them.
use Rattle.std.specs.Prelude.{ℕ, ◌+◌, ◌-◌, ◌^◌, Bool, cond, min}
use Rattle.samples.specs.declared.outcome.Outcome.{Outcome}

-- nothing compared
abbrev pub nothing : Outcome
nothing = record { compared = 0; differ = 0 }

-- one comparison
abbrev pub one_of : Bool → Outcome
one_of same = record { compared = 1; differ = cond same 0 1 }

-- a sum that stays at the largest number of 32 bits
abbrev pub capped : ℕ → ℕ → ℕ
capped a b = min (a + b) (2 ^ 32 - 1)

-- two outcomes together
abbrev pub both : Outcome → Outcome → Outcome
both a b = record { compared = capped a.compared b.compared; differ = capped a.differ b.differ }
