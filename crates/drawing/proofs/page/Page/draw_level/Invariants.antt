use Rattle.std.proofs.Common.{◌≡◌}
use Rattle.drawing.specs.Page.{draft}
use Rattle.drawing.specs.Pieces.{with_pieces}
use Rattle.drawing.proofs.page.Page.draw_level.Given as goal

abbrev pub invariant-loop-k : goal.invariant-loop-k
invariant-loop-k l = draft l.self ≡ with_pieces l.vector.inputs l.vector.bits l.level l.k (draft l.initial.self)
