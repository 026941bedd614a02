-- What two designs mean as one, for the pair and for whoever joins.
-- Assumes nothing: two that do not fit are given a meaning too, and joining refuses them.
use Rattle.std.specs.Prelude.{ℕ, ◌+◌, ◌-◌, Bool, cond, ◌&&◌, Some, None, Ok, Err, Option, Result, ◌==◌, nat_le, nat_lt}
use Rattle.refusal.specs.declared.table.Refusal.{Refusal}
use Rattle.refusal.specs.declared.table.Refusal.TheVariants.{Outputs, InputsDiffer}
use Rattle.design.specs.Meaning.{Meaning}

-- both tables side by side, the first one's outputs first
abbrev pub beside : Meaning → Meaning → Meaning
beside a b = record {
  inputs = a.inputs;
  outputs = a.outputs + b.outputs;
  mark = λ o. cond (nat_lt o a.outputs) (a.mark o) (b.mark (o - a.outputs));
}

-- equally many inputs, and together at most 8 outputs
abbrev pub fitting : Meaning → Meaning → Bool
fitting a b = a.inputs == b.inputs && nat_le (a.outputs + b.outputs) 8

-- what a pair means: side by side where they fit, else the first alone
abbrev pub paired : Meaning → Meaning → Meaning
paired a b = cond (fitting a b) (beside a b) a

-- the number that a pair's output has in the second, if it is one of the second's
abbrev pub in_second : Meaning → Meaning → ℕ → Option ℕ
in_second a b o = cond (fitting a b && nat_le a.outputs o) (Some (o - a.outputs)) None

-- what joining answers: the pair, unless the inputs differ, or else the outputs are too many
abbrev pub joining : {P : Type 0} → Meaning → Meaning → P → Result P Refusal
joining a b pair =
    cond
    (a.inputs == b.inputs)
    (cond (nat_le (a.outputs + b.outputs) 8) (Ok pair) (Err Outputs))
    (Err (InputsDiffer a.inputs b.inputs))
