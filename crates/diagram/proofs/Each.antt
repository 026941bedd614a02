-- A list is checked by a search for the first element that does not pass.
use Rattle.std.proofs.Common.{◌≡◌, ℕ, ◌+◌, Bool, true, false, not, cond, List, [], ◌∷◌, Some, None, Option, Ok, Err, Result, refl}
use Rattle.std.specs.List.{position_from, enumerate_from}
use Rattle.refusal.specs.declared.table.Refusal.{Refusal}
use Rattle.design.specs.Checks.{CheckedSays}
use Rattle.design.proofs.Reasons.{each_says}
use Rattle.diagram.specs.Rules.{each}

-- the element found is refused
abbrev pub refused : (ℕ → Refusal) → Option ℕ → Result (Unit {0}) Refusal
refused refuse (Some place) = Err (refuse place)
refused refuse None = Ok tt

-- one element checked, and the rest
checked : (refuse : ℕ → Refusal) (start : ℕ) (here : Bool) (rest : Result (Unit {0}) Refusal) (later : Option ℕ) → rest ≡ refused refuse later → cond here rest (Err (refuse start)) ≡ refused refuse (cond (not here) (Some start) later)
checked refuse start true rest later e = e
checked refuse start false rest later e = refl

-- a test of the element alone
pub each_first : {X : Type 0} (fit : X → Bool) (refuse : ℕ → Refusal) (start : ℕ) (xs : List X) → each (λ _ x. fit x) refuse start xs ≡ refused refuse (position_from (λ x. not (fit x)) start xs)
unfolding each
each_first fit refuse start [] = refl
each_first fit refuse start (x ∷ xs) = checked refuse start (fit x) _ _ (each_first fit refuse (start + 1) xs)

-- a test of the element at its place
pub each_first_placed : {X : Type 0} (fit : ℕ → X → Bool) (refuse : ℕ → Refusal) (start : ℕ) (xs : List X) → each fit refuse start xs ≡ refused refuse (position_from (λ p. not (fit p.0 p.1)) start (enumerate_from start xs))
unfolding each
each_first_placed fit refuse start [] = refl
each_first_placed fit refuse start (x ∷ xs) = checked refuse start (fit start x) _ _ (each_first_placed fit refuse (start + 1) xs)

-- what an answer of the check says
pub each_tells : {X : Type 0} (fit : ℕ → X → Bool) (refuse : ℕ → Refusal) (xs : List X) → CheckedSays fit refuse xs (each fit refuse 0 xs)
unfolding each
each_tells fit refuse xs = each_says fit refuse (each fit refuse) (λ i. refl) (λ i y ys. refl) xs
