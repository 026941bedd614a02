-- The words for the marks, for whoever prints or reads them.
use Rattle.std.specs.Prelude.{ℕ, List, codes}
use Rattle.design.specs.declared.mark.Mark.{Mark}
use Rattle.design.specs.declared.mark.Mark.TheVariants.{Zero, One, DontCare}

-- the word that is printed of a mark
abbrev pub mark_word : Mark → List ℕ
mark_word Zero = codes "zero"
mark_word One = codes "one"
mark_word DontCare = codes "don't-care"
