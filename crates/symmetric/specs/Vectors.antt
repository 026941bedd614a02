-- The values of a symmetric function as one number, for whoever makes, reads or draws one.
-- Bit w of the number is the value at weight w.
use Rattle.std.specs.Prelude.{ℕ, ◌+◌, ◌/◌, ◌%◌, ◌^◌, Bool, cond, ◌&&◌, Some, None, Option, ◌==◌, nat_le, nat_lt}
use Rattle.symmetric.specs.declared.vector.ValueVector.{ValueVector}

-- the value at weight w
abbrev pub value : ℕ → ℕ → Bool
value bits w = bits / 2 ^ w % 2 == 1

-- inputs and bits
pub record Values : Type 0 where
  pub inputs : ℕ
  pub bits : ℕ

-- what a vector holds
abbrev pub held : ValueVector → Values
held v = record { inputs = v.inputs; bits = v.bits }

-- the same of an answer
abbrev pub told : Option ValueVector → Option Values
told (Some v) = Some (held v)
told None = None

-- the vector of these bits, if there are 1 to 16 inputs and no bit is above them
abbrev pub vectored : ℕ → ℕ → Option Values
vectored inputs bits = cond (nat_le 1 inputs && nat_le inputs 16) (cond (nat_lt bits (2 ^ (inputs + 1))) (Some (record { inputs = inputs; bits = bits })) None) None
