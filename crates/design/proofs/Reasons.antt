-- What an answer of a check says: of the sizes, and of a list checked element by element.
use Rattle.std.proofs.Common.{◌≡◌, ℕ, zero, suc, ◌+◌, ◌<◌, Bool, true, false, cond, ◌&&◌, leb, List, [], ◌∷◌, length, get_or, Ok, Err, Result, sym, refl, subst, add-one, arith}
use Rattle.std.proofs.lemmas.Bool.Decides.{nat_tests}
use Rattle.refusal.specs.declared.table.Refusal.{Refusal}
use Rattle.refusal.specs.declared.table.Refusal.TheVariants.{Inputs, Outputs, TooMany}
use Rattle.design.specs.Checks.{CheckedSays, Sizes, BadSize, bad_inputs, bad_outputs, too_many}

module _ {X : Type 0} (fit : ℕ → X → Bool) (x : X) (xs : List X) (here : fit 0 x ≡ true) where
  -- here, and at each later place
  all_so_far : (n : ℕ) → ((outside : X) (k : ℕ) → k < n → fit (k + 1) (get_or xs k outside) ≡ true) → (outside : X) (k : ℕ) → k < n + 1 → fit k (get_or (x ∷ xs) k outside) ≡ true
  all_so_far n later outside zero h = here
  all_so_far n later outside (suc k) h = rw add-one at (later outside k (omega arith))

  checked_later : (refuse : ℕ → Refusal) (r : Result (Unit {0}) Refusal)
      → CheckedSays (λ k. fit (k + 1)) (λ k. refuse (k + 1)) xs r → CheckedSays fit refuse (x ∷ xs) r
  checked_later refuse (Ok _) said = λ outside k h. all_so_far (length xs) said outside k (omega arith)
  checked_later refuse (Err why) said = (
    said.0 + 1,
    said.1,
    record {
      within = let h = said.2.within in omega arith;
      here = λ outside. rw add-one (rw add-one at (said.2.here outside));
      before = all_so_far said.0 said.2.before;
    },
  )

-- what a check answers that goes through a list in order, and refuses the first element that does not pass
pub each_says : {X : Type 0} (fit : ℕ → X → Bool) (refuse : ℕ → Refusal) (check : ℕ → List X → Result (Unit {0}) Refusal)
    → ((i : ℕ) → check i [] ≡ Ok tt)
    → ((i : ℕ) (x : X) (xs : List X) → check i (x ∷ xs) ≡ cond (fit i x) (check (i + 1) xs) (Err (refuse i)))
    → (xs : List X) → CheckedSays fit refuse xs (check 0 xs)
each_says fit refuse check end more [] = subst (CheckedSays fit refuse []) (sym (end 0)) (λ outside k h. absurd (omega arith))
each_says {X} fit refuse check end more (x ∷ xs) =
    subst (CheckedSays fit refuse (x ∷ xs)) (sym (more 0 x xs))
    (by (fit 0 x) refl (each_says (λ k. fit (k + 1)) (λ k. refuse (k + 1)) (λ k. check (k + 1)) (λ i. end (i + 1)) (λ i. more (i + 1)) xs))
  where
    by : (t : Bool) → fit 0 x ≡ t
        → CheckedSays (λ k. fit (k + 1)) (λ k. refuse (k + 1)) xs (check (0 + 1) xs)
        → CheckedSays fit refuse (x ∷ xs) (cond t (check (0 + 1) xs) (Err (refuse 0)))
    by true e rest = checked_later fit x xs e refuse (check (0 + 1) xs) rest
    by false e rest = (0, refl, record { within = omega arith; here = λ outside. e; before = λ outside k h. absurd (omega arith) })

-- what holds for sizes within their bounds, and for each refusal of others, holds for the answer
pub by_sizes : {X : Type 0} (P : Result X Refusal → Type 0) (inputs outputs count : ℕ) (rest : Result X Refusal)
    → (Sizes inputs outputs count → P rest) → ((why : Refusal) → BadSize inputs outputs count why → P (Err why))
    → P (cond (leb 1 inputs && leb inputs 16) (cond (leb 1 outputs && leb outputs 8) (cond (leb count 4096) rest (Err (TooMany count))) (Err Outputs)) (Err Inputs))
by_sizes {X} P inputs outputs count rest good bad = by (leb 1 inputs && leb inputs 16) refl (leb 1 outputs && leb outputs 8) refl (leb count 4096) refl
  where
    by : (a : Bool) → (leb 1 inputs && leb inputs 16) ≡ a → (b : Bool) → (leb 1 outputs && leb outputs 8) ≡ b → (c : Bool) → leb count 4096 ≡ c
        → P (cond a (cond b (cond c rest (Err (TooMany count))) (Err Outputs)) (Err Inputs))
    by true e true f true g =
        good (record { some_inputs = grind (arith, nat_tests); few_inputs = grind (arith, nat_tests); some_outputs = grind (arith, nat_tests); few_outputs = grind (arith, nat_tests); few_entries = grind (arith, nat_tests) })
    by true e true f false g = bad _ (too_many (grind (arith, nat_tests)) (grind (arith, nat_tests)) (grind (arith, nat_tests)) (grind (arith, nat_tests)) (grind (arith, nat_tests)))
    by true e false f c g = bad _ (bad_outputs (grind (arith, nat_tests)) (grind (arith, nat_tests)) (grind (arith, nat_tests)))
    by false e b f c g = bad _ (bad_inputs (grind (arith, nat_tests)))
