-- Kinds of cubes: their numbers in a camera's table, and the marks that they ask for.
-- For the cubes that are of them.
use Rattle.std.specs.Prelude.{ℕ, cond, Ok, Err, Result, ◌==◌}
use Rattle.design.specs.declared.mark.Mark.{Mark}
use Rattle.design.specs.declared.mark.Mark.TheVariants as mark
use Rattle.cover.specs.declared.kind.Kind.{Kind}
use Rattle.cover.specs.declared.kind.Kind.TheVariants.{On, DontCare}
use Rattle.cover.specs.declared.kind.NoKind.{NoKind}

-- the number of a kind
abbrev pub number : Kind → ℕ
number On = 1
number DontCare = 2

-- the kind that has the number
abbrev pub kind_of : ℕ → Result Kind NoKind
kind_of k = cond (k == 1) (Ok On) (cond (k == 2) (Ok DontCare) (Err (record {})))

-- the mark of the rows that a cube of a kind holds
abbrev pub mark_of : Kind → Mark
mark_of On = mark.One
mark_of DontCare = mark.DontCare
