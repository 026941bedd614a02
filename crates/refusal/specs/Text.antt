-- Numbers as text, blanks between, for what a program prints of a refusal.
-- Assumes nothing.
use Rattle.std.specs.Prelude.{ℕ, List, [], ◌∷◌, ◌++◌, decimal}

-- each number in decimal behind a blank
abbrev pub blanked : List ℕ → List ℕ
blanked [] = []
blanked (x ∷ xs) = 32 ∷ (decimal x ++ blanked xs)

-- numbers in decimal with one blank between
abbrev pub text : List ℕ → List ℕ
text [] = []
text (x ∷ xs) = decimal x ++ blanked xs
