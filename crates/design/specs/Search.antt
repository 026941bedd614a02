-- The first place in a list at which a test passes, for the search over records of any kind.
-- Places count from 0.
use Rattle.std.specs.Prelude.{◌≡◌, ℕ, ◌+◌, ◌<◌, Bool, true, false, cond, List, [], ◌∷◌, length, Some, None, Option, slice_index_or}

-- the same place in a list that has one element more in front
abbrev pub later : Option ℕ → Option ℕ
later (Some p) = Some (p + 1)
later None = None

-- the first place at which the test passes, if there is one
unfoldable pub first_place : {R : Type 0} → (R → Bool) → List R → Option ℕ
first_place passes [] = None
first_place passes (x ∷ xs) = cond (passes x) (Some 0) (later (first_place passes xs))

-- the test passes at p and nowhere before; what stands outside the list does not matter
pub record First {R : Type 0} (passes : R → Bool) (xs : List R) (p : ℕ) : Type 0 where
  pub within : p < length xs
  pub here : (outside : R) → passes (slice_index_or xs p outside) ≡ true
  pub before : (outside : R) (k : ℕ) → k < p → passes (slice_index_or xs k outside) ≡ false

-- the test passes nowhere
abbrev pub Nowhere : {R : Type 0} → (R → Bool) → List R → Type 0
Nowhere {R} passes xs = (outside : R) (k : ℕ) → k < length xs → passes (slice_index_or xs k outside) ≡ false

-- what an answer of the search says
abbrev pub Says : {R : Type 0} → (R → Bool) → List R → Option ℕ → Type 0
Says passes xs (Some p) = First passes xs p
Says passes xs None = Nowhere passes xs
