-- Tables of cubes: what one means as a design, and which ones are refused, why and where.
-- For covers, which are the tables that are not refused.
use Rattle.std.specs.Prelude.{ℕ, ◌+◌, cond, ◌&&◌, List, [], ◌∷◌, ◌++◌, length, Some, None, Ok, Err, Option, Result, nat_le}
use Rattle.refusal.specs.declared.table.Refusal.{Refusal}
use Rattle.refusal.specs.declared.table.Refusal.TheVariants.{Inputs, Outputs, TooMany, BadCube, CubesMeet}
use Rattle.rows.specs.Products.{reading}
use Rattle.design.specs.Meaning.{Meaning}
use Rattle.design.specs.Search.{first_place}
use Rattle.cover.specs.declared.cube.Cube.{Cube}
use Rattle.cover.specs.Cubes.{good, meet, marking, at_output}

-- a table of cubes for so many inputs and outputs
pub record Table : Type 0 where
  pub inputs : ℕ
  pub outputs : ℕ
  pub cubes : List Cube

-- what it means: the mark of a row is the kind of the cube that holds it at the output, zero if none does
abbrev pub table_meaning : Table → Meaning
table_meaning t = record {
  inputs = t.inputs;
  outputs = t.outputs;
  mark = λ o r. marking (reading (at_output o t.cubes) r);
}

-- the lowest bad cube is refused, places counted from the one given
unfoldable pub all_good : ℕ → ℕ → ℕ → List Cube → Result (Unit {0}) Refusal
all_good n m place [] = Ok tt
all_good n m place (c ∷ cs) = cond (good n m c) (all_good n m (place + 1) cs) (Err (BadCube place))

-- a cube is refused if an earlier one was found that it meets
abbrev pub met : ℕ → Option ℕ → Result (Unit {0}) Refusal → Result (Unit {0}) Refusal
met place (Some earlier) rest = Err (CubesMeet place earlier)
met place None rest = rest

-- the first cube that meets an earlier one is refused, with the earliest that it meets: the cubes looked at, and those to come
unfoldable pub apart : List Cube → List Cube → Result (Unit {0}) Refusal
apart earlier [] = Ok tt
apart earlier (c ∷ cs) = met (length earlier) (first_place (λ x. meet x c) earlier) (apart (earlier ++ c ∷ []) cs)

-- one check, and then another answer
abbrev pub then : {X : Type 0} → Result (Unit {0}) Refusal → Result X Refusal → Result X Refusal
then (Ok _) rest = rest
then (Err e) rest = Err e

-- what opening a table answers: the table, or the first refusal in this order
abbrev pub opened : ℕ → ℕ → List Cube → Result Table Refusal
opened n m cubes =
    cond (nat_le 1 n && nat_le n 16)
    (cond (nat_le 1 m && nat_le m 8)
    (cond (nat_le (length cubes) 4096)
    (then (all_good n m 0 cubes) (then (apart [] cubes) (Ok (record { inputs = n; outputs = m; cubes = cubes }))))
    (Err (TooMany (length cubes))))
    (Err Outputs))
    (Err Inputs)
