-- What `find_map` gives over a list, where its closure acts as a function.
use Rattle.std.proofs.Common.{◌≡◌, ℕ, zero, suc, ◌+◌, ◌<◌, true, List, [], ◌∷◌, Some, None, Option, sym, refl, subst, ap, ◌∙◌, arith}
use denote.Param.Members.{Mut, Called}
use Rattle.std.specs.List.{slice_get}
use Rattle.std.specs.Option.{MatchOption, IsSomeAnd, IfSome}
use Rattle.std.specs.Iterator.{AlwaysYields, Yields}
use Rattle.std.specs.Iterator.Runs.{SomeRun, AllItemsGive, IsFirstToGive}
use Rattle.std.proofs.iter.runs.Made.{took, at-is}
use Rattle.std.proofs.lemmas.Iterator.{YieldsList}

-- the first of two answers that gives something
abbrev pub or : {R : Type 0} → Option R → Option R → Option R
or (Some r) rest = Some r
or None rest = rest

-- the first that h gives of the elements
abbrev pub first_given : {B R : Type 0} → (B → Option R) → List B → Option R
first_given h [] = None
first_given h (y ∷ ys) = or (h y) (first_given h ys)

if_some : {X : Type 0} {P Q : X → Type 0} (o : Option X) → ((x : X) → P x → Q x) → IfSome o P → IfSome o Q
if_some None k held = tt
if_some (Some x) k held = k x held

some_and : {X : Type 0} {P Q : X → Type 0} (o : Option X) → ((x : X) → P x → Q x) → IsSomeAnd o P → IsSomeAnd o Q
some_and None k held = held
some_and (Some x) k held = k x held

module _ {S A B R : Type 0} (steps : S → Option A → S → Type 0) (v : A → B) (h : B → Option R) where
  -- h gave nothing of any item
  none_given : (ys : List B) (xs : List A) (s t u : S) → AlwaysYields steps v s ys → Yields steps s xs t → steps t None u
      → ((k : ℕ) → IfSome (slice_get xs k) (λ x. None ≡ h (v x))) → None ≡ first_given h ys
  none_given [] xs s t u all came ends each = refl
  none_given (y ∷ ys) [] s t u all came ends each = absurd (all.0 u (subst (λ w. steps w None u) (sym came) ends))
  none_given (y ∷ ys) (x ∷ xs) s t u all came ends each =
      let rest = all.1 x came.0 came.1 in
      none_given ys xs came.0 t u rest.1 came.2 ends (λ k. each (suc k))
      ∙ ap (λ o. or o (first_given h ys)) (each 0 ∙ ap h rest.0)

  -- h gave r of the item at i, and nothing of those before
  given_at : (ys : List B) (xs : List A) (i : ℕ) (s t : S) (r : R) → AlwaysYields steps v s ys → Yields steps s xs t
      → IsSomeAnd (slice_get xs i) (λ x. Some r ≡ h (v x)) → ((k : ℕ) → k < i → IsSomeAnd (slice_get xs k) (λ x. None ≡ h (v x))) → Some r ≡ first_given h ys
  given_at ys [] i s t r all came here before = absurd here
  given_at [] (x ∷ xs) i s t r all came here before = absurd (all x came.0 came.1)
  given_at (y ∷ ys) (x ∷ xs) zero s t r all came here before =
      let rest = all.1 x came.0 came.1 in
      ap (λ o. or o (first_given h ys)) (here ∙ ap h rest.0)
  given_at (y ∷ ys) (x ∷ xs) (suc i) s t r all came here before =
      let rest = all.1 x came.0 came.1 in
      given_at ys xs i came.0 t r rest.1 came.2 here (λ k below. before (suc k) (omega arith))
      ∙ ap (λ o. or o (first_given h ys)) (before 0 (omega arith) ∙ ap h rest.0)

module _ {S A B R : Type 0} {steps : S → Option A → S → Type 0} {v : A → B} (h : B → Option R) where
  pub find_map_gives : {F : Type 0} {g : Mut F (A × Unit {0}) (Option R)} {s : S} {all : List B} (f : F) (r : Option R)
      → SomeRun steps s (λ p. MatchOption r ((p.whole ≡ true) × AllItemsGive p g f None) (λ y. (i : ℕ) × (i < p.len) × (p.len ≡ i + 1) × IsFirstToGive p g f (Some y) None i))
      → YieldsList steps v s all → ((x : A) (b : Option R) (q : F) → Called g f (x, tt) b q → (q ≡ f) × (b ≡ h (v x))) → r ≡ first_given h all
  find_map_gives {g = g} {all = all} f None (p, from, said) yields acts =
      let ran = took p in
      let ends = ran.2 said.0 in
      let keeps = said.1 (λ a b q called. (acts a.0 b q called).0) in
      none_given steps v h all p.items p.from ran.0 ends.0 (subst (λ s. AlwaysYields steps v s all) (sym from) yields.runs) ran.1 ends.1
      (λ k. subst (λ o. IfSome o (λ x. None ≡ h (v x))) (at-is p k) (if_some {P = λ x. Called g f (x, tt) None f} {Q = λ x. None ≡ h (v x)} (p.at k) (λ x called. (acts x None f called).1) (keeps k)))
  find_map_gives {g = g} {all = all} f (Some r) (p, from, said) yields acts =
      let ran = took p in
      let told = said.3 (λ a b q called. (acts a.0 b q called).0) in
      given_at steps v h all p.items said.0 p.from ran.0 r (subst (λ s. AlwaysYields steps v s all) (sym from) yields.runs) ran.1
      (subst (λ o. IsSomeAnd o (λ x. Some r ≡ h (v x))) (at-is p said.0) (some_and {P = λ x. Called g f (x, tt) (Some r) f} {Q = λ x. Some r ≡ h (v x)} (p.at said.0) (λ x called. (acts x (Some r) f called).1) told.0))
      (λ k below. subst (λ o. IsSomeAnd o (λ x. None ≡ h (v x))) (at-is p k) (some_and {P = λ x. Called g f (x, tt) None f} {Q = λ x. None ≡ h (v x)} (p.at k) (λ x called. (acts x None f called).1) (told.1 k below)))
