-- Elements struck out of a list: for whoever leaves repeats out of a transcript.
-- Assumes nothing.
use Rattle.std.specs.Prelude.{◌≡◌, Bool, true, List, [], ◌∷◌}

-- what is left of a list where some of the elements that pass a test are struck out
pub data Left {X : Type 0} (passes : X → Bool) : List X → List X → Type 0 where
  ends : Left passes [] []
  keeps : (x : X) (all left : List X) → Left passes all left → Left passes (x ∷ all) (x ∷ left)
  strikes : (x : X) (all left : List X) → passes x ≡ true → Left passes all left → Left passes (x ∷ all) left
