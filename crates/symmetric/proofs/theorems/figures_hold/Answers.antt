use Rattle.std.proofs.Common.{refl}
use lib.Count.{ones}
use Rattle.rows.specs.Rows.{sum_below, choose}
use Rattle.design.specs.Meaning.{rows_marked}
use Rattle.symmetric.specs.Nearest.{bits_below, wrong_below}
use Rattle.symmetric.proofs.theorems.figures_hold.Goals as goal

pub returns : goal.returns
unfolding ones sum_below choose rows_marked bits_below wrong_below
returns c = record { odd = refl; tie = refl; free = refl }
