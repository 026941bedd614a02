-- The first place at which a test passes: what an answer says, and the library's search for it.
use Rattle.std.proofs.Common.{◌≡◌, ℕ, zero, suc, ◌+◌, ◌<◌, Bool, true, false, cond, List, [], ◌∷◌, length, get_or, Some, None, Option, sym, refl, ap, ◌∙◌, add-zero, add-one, arith}
use Rattle.std.specs.List.{position_from}
use Rattle.design.specs.Search.{later, first_place, Says}

-- a place counted from i on
abbrev moved : ℕ → Option ℕ → Option ℕ
moved i (Some p) = Some (i + p)
moved i None = None

moved_later : (i : ℕ) (o : Option ℕ) → moved i (later o) ≡ moved (i + 1) o
moved_later i (Some p) = let e : i + (p + 1) ≡ i + 1 + p = omega arith in ap (λ k. Some k) e
moved_later i None = refl

moved_none : (o : Option ℕ) → moved 0 o ≡ o
moved_none (Some p) = let e : 0 + p ≡ p = omega arith in ap (λ k. Some k) e
moved_none None = refl

module _ {R : Type 0} (passes : R → Bool) where
  -- none before, and none here
  none_so_far : (x : R) (xs : List R) (n : ℕ) → passes x ≡ false → ((outside : R) (k : ℕ) → k < n → passes (get_or xs k outside) ≡ false) → (outside : R) (k : ℕ) → k < n + 1 → passes (get_or (x ∷ xs) k outside) ≡ false
  none_so_far x xs n here before outside zero h = here
  none_so_far x xs n here before outside (suc k) h = before outside k (omega arith)

  says_later : (x : R) (xs : List R) (o : Option ℕ) → passes x ≡ false → Says passes xs o → Says passes (x ∷ xs) (later o)
  says_later x xs (Some p) e f = record {
    within = omega arith;
    here = λ outside. rw add-one (f.here outside);
    before = none_so_far x xs p e f.before;
  }
  says_later x xs None e f = λ outside k h. none_so_far x xs (length xs) e f outside k (omega arith)

  -- the first place found is the first place, and none found is none
  pub first_place_says : (xs : List R) → Says passes xs (first_place passes xs)
  unfolding first_place
  first_place_says [] = λ outside k h. absurd (omega arith)
  first_place_says (x ∷ xs) = by (passes x) refl (first_place passes xs) (first_place_says xs)
    where
      by : (t : Bool) → passes x ≡ t → (o : Option ℕ) → Says passes xs o → Says passes (x ∷ xs) (cond t (Some 0) (later o))
      by true e o f = record { within = omega arith; here = λ outside. e; before = λ outside k h. absurd (omega arith) }
      by false e o f = says_later x xs o e f

  found_from : (i : ℕ) (xs : List R) → position_from passes i xs ≡ moved i (first_place passes xs)
  unfolding first_place
  found_from i [] = refl
  found_from i (x ∷ xs) = by (passes x) (found_from (i + 1) xs)
    where
      by : (t : Bool) → position_from passes (i + 1) xs ≡ moved (i + 1) (first_place passes xs) → cond t (Some i) (position_from passes (i + 1) xs) ≡ moved i (cond t (Some 0) (later (first_place passes xs)))
      by true e = rw add-zero
      by false e = e ∙ sym (moved_later i (first_place passes xs))

  -- the library's search finds the first place
  pub found_first : (xs : List R) → position_from passes 0 xs ≡ first_place passes xs
  found_first xs = found_from 0 xs ∙ moved_none (first_place passes xs)
