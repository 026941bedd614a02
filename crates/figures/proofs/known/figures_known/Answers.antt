use Rattle.std.proofs.Common.{◌≡◌, refl, ap}
use lib.Count.{ones}
use Rattle.rows.specs.Rows.{sum_below, choose}
use Rattle.rows.specs.Products.{reading}
use Rattle.diagram.specs.Rules.{each}
use Rattle.design.specs.Meaning.{rows_marked, marked}
use Rattle.design.specs.Search.{first_place}
use Rattle.cover.specs.Cubes.{at_output}
use Rattle.cover.specs.Tables.{all_good, apart}
use Rattle.diagram.specs.Walk.{read}
use Rattle.symmetric.specs.Nearest.{bits_below, wrong_below}
use Rattle.drawing.specs.Pieces.{with_pieces, with_levels}
use Rattle.commands.specs.Rules.{taken, spent}
use Rattle.rules.specs.Rules.{lines_from, replies_from}
use Rattle.service.specs.Opening.{priced_from, costs_below}
use Rattle.service.specs.Sheets.{entries_below}
use Rattle.report.specs.Listing.{digits, entry_lines, reported}
use Rattle.std.specs.Fmt.{digits as figures}
use Rattle.figures.specs.Cases.{A, B}
use Rattle.figures.proofs.Burnt as burnt
use Rattle.figures.proofs.Eight.{below_8}
use Rattle.figures.proofs.known.figures_known.Goals as goal

pub returns : goal.returns
unfolding ones sum_below choose reading rows_marked first_place at_output apart read each all_good bits_below wrong_below with_pieces with_levels taken spent lines_from replies_from priced_from costs_below entries_below digits entry_lines figures
returns c = record {
  a_opens = refl;
  a_marks = refl;
  a_ones = refl;
  a_frees = refl;
  a_tallies = refl;
  a_nearest = refl;
  a_wrong = refl;
  b_built = refl;
  b_size = refl;
  b_marks = below_8 (λ r. marked B 0 r ≡ marked A 0 r) refl refl refl refl refl refl refl refl;
  b_ones = refl;
  b_frees = refl;
  b_tallies = refl;
  b_nearest = refl;
  majority_drawn = refl;
  single_drawn = refl;
  tie_opens = refl;
  tie_nearest = refl;
  loose_opens = refl;
  loose_nearest = refl;
  loose_drawn = refl;
  single_opens = refl;
  whole_limit = refl;
  tight_opens = refl;
  over_limit = refl;
  sent_again = refl;
  number_used = refl;
  gap = refl;
  no_output = refl;
  line_three = refl;
  joins = refl;
  double_opens = refl;
  double_costs = refl;
  together = refl;
  numbers = refl;
  sheet_values = refl;
  file_length = burnt.file_length;
  head_sum = burnt.head_sum;
  entry_sum = burnt.entry_sum;
  printed = ap reported burnt.loads;
}
