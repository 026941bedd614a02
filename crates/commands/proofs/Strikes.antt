-- Elements that change nothing, struck out of a run.
use Rattle.std.proofs.Common.{arith, ◌≡◌, Bool, true, List, [], ◌∷◌, map, refl}
use Rattle.std.specs.List.{fold, scan}
use Rattle.commands.specs.Strikes.{Left, Left.ends, Left.keeps, Left.strikes}

-- what is heard of a step tells which it was, and a step that passes the test changes nothing
pub record Idle {S X H : Type 0} (next : S → X → S) (hears : S → X → H) (made : H → X) (passes : H → Bool) : Type 0 where
  pub tells : (s : S) (x : X) → made (hears s x) ≡ x
  pub stays : (s : S) (x : X) → passes (hears s x) ≡ true → next s x ≡ s

-- what is left is heard as before, and leads where the whole led
abbrev pub SameRun : {S X H : Type 0} → (S → X → S) → (S → X → H) → (H → X) → S → List X → List H → Type 0
SameRun next hears made s xs left = (scan next hears s (map made left) ≡ left) × (fold next s (map made left) ≡ fold next s xs)

pub left_over : {S X H : Type 0} {next : S → X → S} {hears : S → X → H} {made : H → X} {passes : H → Bool} → Idle next hears made passes
    → {all left : List H} → Left passes all left → (s : S) (xs : List X) → all ≡ scan next hears s xs → SameRun next hears made s xs left
left_over idle ends s [] e = (refl, refl)
left_over idle ends s (x ∷ xs) e = cc
left_over idle (keeps h all left t) s [] e = cc
left_over {next = next} idle (keeps h all left t) s (x ∷ xs) e =
    let told = idle.tells s x in
    let rest = left_over idle t (next s x) xs cc in
    grind arith
left_over idle (strikes h all left r t) s [] e = cc
left_over idle (strikes h all left r t) s (x ∷ xs) e =
    let stays = idle.stays s x cc in
    let rest = left_over idle t s xs cc in
    grind arith
