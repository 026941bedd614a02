use Rattle.std.proofs.Common.{◌≡◌, ◌-◌}
use Rattle.drawing.specs.Page.{draft}
use Rattle.drawing.specs.Pieces.{with_levels}
use Rattle.drawing.proofs.page.Page.filled.Given as goal

abbrev pub invariant-loop-level : goal.invariant-loop-level
invariant-loop-level l = draft l.page ≡ with_levels l.vector.inputs l.vector.bits (l.vector.inputs - l.level)
