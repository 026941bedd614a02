-- The numbers that dice give, for programs that print the same in every run.
use Rattle.std.specs.Prelude.{ℕ, ◌+◌, ◌*◌, ◌/◌, ◌%◌, ◌^◌, cond, ◌==◌}

-- the state after one more roll
abbrev pub rolled : ℕ → ℕ
rolled state = (state * 1664525 % 2 ^ 32 + 1013904223) % 2 ^ 32

-- the number that a state shows below an end: 0 below 0
abbrev pub shown : ℕ → ℕ → ℕ
shown state end = cond (end == 0) 0 (state / 65536 % end)
