-- Tables checked before they are used, for whoever builds one: the sizes, and lists element by element.
-- Places count from 0.
use Rattle.std.specs.Prelude.{◌≡◌, ℕ, ◌<◌, ◌≤◌, Bool, true, false, cond, ◌&&◌, ◌⊎◌, List, length, Ok, Err, Result, slice_index_or, nat_le}
use Rattle.refusal.specs.declared.table.Refusal.{Refusal}
use Rattle.refusal.specs.declared.table.Refusal.TheVariants.{Inputs, Outputs, TooMany}

-- every element passes at its place; what stands outside the list does not matter
abbrev pub Every : {X : Type 0} → (ℕ → X → Bool) → List X → Type 0
Every {X} fit xs = (outside : X) (k : ℕ) → k < length xs → fit k (slice_index_or xs k outside) ≡ true

-- the element at p does not pass, and all before it do
pub record Lowest {X : Type 0} (fit : ℕ → X → Bool) (xs : List X) (p : ℕ) : Type 0 where
  pub within : p < length xs
  pub here : (outside : X) → fit p (slice_index_or xs p outside) ≡ false
  pub before : (outside : X) (k : ℕ) → k < p → fit k (slice_index_or xs k outside) ≡ true

-- what an answer of the check says
abbrev pub CheckedSays : {X : Type 0} → (ℕ → X → Bool) → (ℕ → Refusal) → List X → Result (Unit {0}) Refusal → Type 0
CheckedSays fit refuse xs (Ok _) = Every fit xs
CheckedSays fit refuse xs (Err why) = (p : ℕ) × (why ≡ refuse p) × Lowest fit xs p

-- the sizes of a table: 1 to 16 inputs, 1 to 8 outputs, at most 4,096 cubes or nodes
pub record Sizes (inputs outputs count : ℕ) : Type 0 where
  pub some_inputs : 1 ≤ inputs
  pub few_inputs : inputs ≤ 16
  pub some_outputs : 1 ≤ outputs
  pub few_outputs : outputs ≤ 8
  pub few_entries : count ≤ 4096

-- the refusal of a table for its sizes: the first that is out of its bounds
pub data BadSize (inputs outputs count : ℕ) : Refusal → Type 0 where
  bad_inputs : (inputs < 1) ⊎ (16 < inputs) → BadSize inputs outputs count Inputs
  bad_outputs : 1 ≤ inputs → inputs ≤ 16 → (outputs < 1) ⊎ (8 < outputs) → BadSize inputs outputs count Outputs
  too_many : 1 ≤ inputs → inputs ≤ 16 → 1 ≤ outputs → outputs ≤ 8 → 4096 < count → BadSize inputs outputs count (TooMany count)

-- what the check of the sizes answers: 1 to 16 inputs, 1 to 8 outputs, at most 4,096 cubes or nodes
abbrev pub sizes : ℕ → ℕ → ℕ → Result (Unit {0}) Refusal
sizes inputs outputs count =
    cond (nat_le 1 inputs && nat_le inputs 16)
    (cond (nat_le 1 outputs && nat_le outputs 8) (cond (nat_le count 4096) (Ok tt) (Err (TooMany count))) (Err Outputs))
    (Err Inputs)
