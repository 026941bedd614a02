-- The checks of a table, one cube on.
use Rattle.std.proofs.Common.{◌≡◌, ℕ, zero, suc, ◌+◌, ◌<◌, ◌≤◌, not, List, [], ◌∷◌, length, get_or, take, drop, Some, None, Ok, Err, Option, Result, sym, refl, ap, ◌∙◌, ap₂, arith}
use Rattle.std.specs.List.{position, position_from, enumerate_from}
use Rattle.std.specs.Option.{MatchOption, option_map}
use Rattle.std.proofs.lemmas.List.{at_drop_more, at_drop_all, length-take-le, take_more}
use Rattle.std.proofs.lemmas.Iterator.Adapters.{position_from-zero}
use Rattle.refusal.specs.declared.table.Refusal.{Refusal}
use Rattle.refusal.specs.declared.table.Refusal.TheVariants.{BadCube, CubesMeet}
use Rattle.design.specs.Search.{first_place}
use Rattle.cover.specs.declared.cube.Cube.{Cube}
use Rattle.cover.specs.Cubes.{good, meet}
use Rattle.cover.specs.Tables.{all_good, met, apart}
use Rattle.cover.proofs.FirstGiven.{or, first_given}

-- what stands past the end of a table
abbrev pub no_cube : Cube
no_cube = record { output = 0; kind = 0; fixed = 0; value = 0 }

-- what is answered for the place of a bad cube
abbrev pub refused : Option ℕ → Result (Unit {0}) Refusal
refused (Some place) = Err (BadCube place)
refused None = Ok tt

good_from : (n m i : ℕ) (cs : List Cube) → all_good n m i cs ≡ refused (position_from (λ c. not (good n m c)) i cs)
unfolding all_good
good_from n m i [] = refl
good_from n m i (c ∷ cs) = grind (arith, good_from n m (i + 1) cs)

-- the lowest bad cube is the first that is not good
pub lowest_bad : (n m : ℕ) (cs : List Cube) (found : Option ℕ) (answer : Result (Unit {0}) Refusal)
    → found ≡ position (λ c. not (good n m c)) cs → MatchOption found (answer ≡ Ok tt) (λ place. answer ≡ Err (BadCube place))
    → answer ≡ all_good n m 0 cs
lowest_bad n m cs found answer e says = grind (arith, position_from-zero (λ c. not (good n m c)) cs, good_from n m 0 cs)

-- what the search among the cubes before place i answered
pub apart_step : (cs : List Cube) (i : ℕ) (found : Option ℕ) → i < length cs
    → found ≡ first_place (λ x. meet x (get_or cs i no_cube)) (take i cs)
    → apart (take i cs) (drop i cs) ≡ met i found (apart (take (i + 1) cs) (drop (i + 1) cs))
unfolding apart
apart_step cs i found h e =
    let c : Cube = get_or cs i no_cube in
    at_drop_more (apart (take i cs)) cs i no_cube h
    ∙ ap₂ (λ place before. met place (first_place (λ x. meet x c) (take i cs)) (apart before (drop (i + 1) cs)))
    (length-take-le i cs (omega arith)) (sym (take_more cs i no_cube h))
    ∙ ap (λ o. met i o (apart (take (i + 1) cs) (drop (i + 1) cs))) (sym e)

pub apart_end : (cs : List Cube) (i : ℕ) → length cs ≤ i → apart (take i cs) (drop i cs) ≡ Ok tt
unfolding apart
apart_end cs i h = at_drop_all (apart (take i cs)) cs i h

-- the refusal of the cube at a place, if it meets an earlier one
abbrev pub meeting : List Cube → ℕ × Cube → Option Refusal
meeting cs p = option_map (λ earlier. CubesMeet p.0 earlier) (first_place (λ x. meet x p.1) (take p.0 cs))

-- what is answered for the refusal that was found
abbrev pub answered : Option Refusal → Result (Unit {0}) Refusal
answered (Some why) = Err why
answered None = Ok tt

met_given : (place : ℕ) (earlier : Option ℕ) (rest : Result (Unit {0}) Refusal) (later : Option Refusal) → rest ≡ answered later
    → met place earlier rest ≡ answered (or (option_map (λ e. CubesMeet place e) earlier) later)
met_given place (Some e) rest later same = refl
met_given place None rest later same = same

apart_given : (cs : List Cube) (left i : ℕ) → i + left ≡ length cs → apart (take i cs) (drop i cs) ≡ answered (first_given (meeting cs) (enumerate_from i (drop i cs)))
apart_given cs zero i all =
    apart_end cs i (omega arith) ∙ sym (at_drop_all (λ rest. answered (first_given (meeting cs) (enumerate_from i rest))) cs i (omega arith))
apart_given cs (suc left) i all =
    let found = first_place (λ x. meet x (get_or cs i no_cube)) (take i cs) in
    apart_step cs i found (omega arith) refl
    ∙ met_given i found _ _ (apart_given cs left (i + 1) (omega arith))
    ∙ sym (at_drop_more (λ rest. answered (first_given (meeting cs) (enumerate_from i rest))) cs i no_cube (omega arith))

-- the first refusal of a cube that meets an earlier one is the answer
pub first_meets : (cs : List Cube) (found : Option Refusal) (answer : Result (Unit {0}) Refusal)
    → found ≡ first_given (meeting cs) (enumerate_from 0 cs) → MatchOption found (answer ≡ Ok tt) (λ why. answer ≡ Err why) → answer ≡ apart [] cs
first_meets cs None answer e says = says ∙ ap answered e ∙ sym (apart_given cs (length cs) 0 (omega arith))
first_meets cs (Some why) answer e says = says ∙ ap answered e ∙ sym (apart_given cs (length cs) 0 (omega arith))
