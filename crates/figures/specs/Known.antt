-- The known figures, in one statement: for whoever wants to see the definitions that the code answers by compute.
-- Each field is a small case with what is told of it, from the opening of a cover to the text of its burn file.
use Rattle.std.specs.Prelude.{◌≡◌, ℕ, ◌<◌, true, false, [], ◌∷◌, map, length, Ok, codes, count_ones}
use Rattle.refusal.specs.declared.table.Refusal.TheVariants.{NoOutput, Gap, NumberUsed, OverLimit}
use Rattle.refusal.specs.Table.{told}
use Rattle.design.specs.declared.mark.Mark.TheVariants.{Zero, One, DontCare}
use Rattle.design.specs.Meaning.{on, free, sized, marked, tallied}
use Rattle.design.specs.Pairs.{joining, paired}
use Rattle.cover.specs.Tables as cover
use Rattle.diagram.specs.Meaning as diagram
use Rattle.symmetric.specs.Vectors.{value}
use Rattle.symmetric.specs.Nearest.{nearest_to}
use Rattle.symmetric.specs.Closest.{differ}
use Rattle.drawing.specs.Pieces.{drawn}
use Rattle.commands.specs.declared.command.Command.TheVariants as command
use Rattle.commands.specs.declared.command.Answer.TheVariants.{Taken, PutBack, Refused}
use Rattle.rules.specs.declared.call.Call.TheVariants.{Take, Back, Ask}
use Rattle.rules.specs.Rules.{answered, asked, account, replies, lines}
use Rattle.service.specs.Opening.{opened}
use Rattle.burn.specs.Blocks.{little, block}
use Rattle.burn.specs.Files.{loaded}
use Rattle.report.specs.Listing.{reported}
use Rattle.figures.specs.Cases.{one_output, node, draws, found, weights, rows, cubes_a, A, nodes_b, table_b, B, cubes_tie, tie, cubes_loose, loose, single, double, sheet, file}

-- all of them together
pub record KnownFigures : Type 0 where
  -- cover A opens as its table
  pub a_opens : cover.opened 3 1 cubes_a ≡ Ok (one_output 3 cubes_a)
  pub a_marks : map (A.mark 0) rows ≡ Zero ∷ One ∷ Zero ∷ One ∷ Zero ∷ One ∷ DontCare ∷ One ∷ []
  -- T and D at the weights 0 to 3, and as its tally answers them
  pub a_ones : map (on A 0) weights ≡ 0 ∷ 1 ∷ 2 ∷ 1 ∷ []
  pub a_frees : map (free A 0) weights ≡ 0 ∷ 0 ∷ 1 ∷ 0 ∷ []
  pub a_tallies :
      map (tallied A 0) weights
      ≡ Ok (record { on = 0; free = 0 }) ∷ Ok (record { on = 1; free = 0 }) ∷ Ok (record { on = 2; free = 1 }) ∷ Ok (record { on = 1; free = 0 }) ∷ []
  -- one at the weights 2 and 3, and wrong at row 1 alone
  pub a_nearest : nearest_to A 0 ≡ Ok (found 3 12 1)
  pub a_wrong : map (λ r. differ (A.mark 0 r) (value 12 (count_ones r))) rows ≡ false ∷ true ∷ false ∷ false ∷ false ∷ false ∷ false ∷ false ∷ []
  -- diagram B is built as its table, and answers as A
  pub b_built : diagram.built 3 1 nodes_b (5 ∷ []) ≡ Ok table_b
  pub b_size : sized B ≡ sized A
  pub b_marks : (r : ℕ) → r < 8 → marked B 0 r ≡ marked A 0 r
  pub b_ones : map (on B 0) weights ≡ 0 ∷ 1 ∷ 2 ∷ 1 ∷ []
  pub b_frees : map (free B 0) weights ≡ 0 ∷ 0 ∷ 1 ∷ 0 ∷ []
  pub b_tallies : map (tallied B 0) weights ≡ map (tallied A 0) weights
  pub b_nearest : nearest_to B 0 ≡ nearest_to A 0
  -- drawings: at least two of three inputs are one; just one of two is
  pub majority_drawn : drawn 3 12 ≡ draws (node 2 0 1 ∷ node 1 0 3 ∷ node 1 3 1 ∷ node 0 4 5 ∷ []) 6
  pub single_drawn : drawn 2 2 ≡ draws (node 1 0 1 ∷ node 1 1 0 ∷ node 0 3 4 ∷ []) 5
  -- a tie makes the value zero
  pub tie_opens : cover.opened 2 1 cubes_tie ≡ Ok (one_output 2 cubes_tie)
  pub tie_nearest : nearest_to tie 0 ≡ Ok (found 2 0 1)
  -- where every row is a don't-care nothing is wrong, and the drawing is a mark alone
  pub loose_opens : cover.opened 1 1 cubes_loose ≡ Ok (one_output 1 cubes_loose)
  pub loose_nearest : nearest_to loose 0 ≡ Ok (found 1 0 0)
  pub loose_drawn : drawn 1 0 ≡ draws [] 0
  -- A at price 3: under the limit 3 it is taken for 3, under the limit 2 it is over by 1
  pub single_opens : opened (single 3) ≡ Ok tt
  pub whole_limit : replies (single 3) (Take 1 0 ∷ []) ≡ answered (Taken 3) ∷ []
  pub tight_opens : opened (single 2) ≡ Ok tt
  pub over_limit : replies (single 2) (Take 1 0 ∷ []) ≡ answered (Refused (OverLimit 1)) ∷ []
  -- taken and put back: the old take is answered again, and not obeyed
  pub sent_again :
      replies (single 3) (Take 1 0 ∷ Back 2 0 ∷ Take 1 0 ∷ Ask ∷ [])
      ≡ answered (Taken 3) ∷ answered (PutBack 0) ∷ answered (Taken 3) ∷ asked 3 0 2 0 ∷ []
  pub number_used :
      replies (single 3) (Take 1 0 ∷ Back 2 0 ∷ Back 1 0 ∷ [])
      ≡ answered (Taken 3) ∷ answered (PutBack 0) ∷ answered (Refused (NumberUsed 1)) ∷ []
  pub gap :
      replies (single 3) (Take 1 0 ∷ Back 2 0 ∷ Take 4 0 ∷ [])
      ≡ answered (Taken 3) ∷ answered (PutBack 0) ∷ answered (Refused (Gap 3)) ∷ []
  pub no_output :
      replies (single 3) (Take 1 0 ∷ Back 2 0 ∷ Take 3 1 ∷ [])
      ≡ answered (Taken 3) ∷ answered (PutBack 0) ∷ answered (Refused NoOutput) ∷ []
  -- a refusal is a line too
  pub line_three :
      lines (single 3) (Take 1 0 ∷ Back 2 0 ∷ Take 3 1 ∷ [])
      ≡ record { command = command.Take 0; answer = Taken 3 }
      ∷ record { command = command.Back 0; answer = PutBack 0 }
      ∷ record { command = command.Take 1; answer = Refused NoOutput } ∷ []
  -- A and B joined, at prices 3 and 5 under the limit 7: both together are over by 1
  pub joins : joining A B (paired A B) ≡ Ok (paired A B)
  pub double_opens : opened double ≡ Ok tt
  pub double_costs : map (account double).cost (0 ∷ 1 ∷ []) ≡ 3 ∷ 5 ∷ []
  pub together : replies double (Take 1 0 ∷ Take 2 1 ∷ []) ≡ answered (Taken 3) ∷ answered (Refused (OverLimit 1)) ∷ []
  -- the refusals above by their numbers
  pub numbers : map told (NoOutput ∷ Gap 3 ∷ NumberUsed 1 ∷ OverLimit 1 ∷ []) ≡ (7 ∷ []) ∷ (14 ∷ 3 ∷ []) ∷ (15 ∷ 1 ∷ []) ∷ (20 ∷ 1 ∷ []) ∷ []
  -- the sheet of A taken under the limit 3; its file, with the sums of its two blocks; and what is printed of the file
  pub sheet_values : sheet ≡ record { inputs = 3; limit = 3; spent = 3; entries = record { price = 3; taken = true; vector = 12; wrong = 1 } ∷ [] }
  pub file_length : length file ≡ 1024
  pub head_sum : little (block file 0) 508 ≡ 56
  pub entry_sum : little (block file 1) 508 ≡ 86
  pub printed : reported (loaded file) ≡ codes "n 3 m 1 limit 3 spent 3\n0 price 3 taken 1 vector 0011 wrong 1\n"
