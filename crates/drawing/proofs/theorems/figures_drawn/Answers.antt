use Rattle.std.proofs.Common.{refl}
use Rattle.design.specs.Search.{first_place}
use Rattle.drawing.specs.Pieces.{with_pieces, with_levels}
use Rattle.drawing.proofs.theorems.figures_drawn.Goals as goal

pub returns : goal.returns
unfolding first_place with_pieces with_levels
returns c = record { majority = refl; single = refl; nothing = refl }
