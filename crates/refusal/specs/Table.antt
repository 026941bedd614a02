-- Each refusal's number and values, for every contract that names one.
-- The numbers and the order of the values are those that programs print.
use Rattle.std.specs.Prelude.{ℕ, List, [], ◌∷◌}
use Rattle.refusal.specs.declared.table.Cause.{Cause}
use Rattle.refusal.specs.declared.table.Cause.TheVariants.{Blocks, Spent, Limit}
use Rattle.refusal.specs.declared.table.Refusal.{Refusal}
use Rattle.refusal.specs.declared.table.Refusal.TheVariants.{Inputs, Outputs, TooMany, BadCube, CubesMeet, BadNode, NoOutput, NoRow, NoWeight, RootCount, BadRoot, InputsDiffer, CostTooLarge, Gap, NumberUsed, LogFull, BadPrice, AlreadyTaken, NotTaken, OverLimit, NodesShort, FileLength, BlockSum, BadField, BadCause, BufferShort, NoMemory}

-- the number in the table; want of memory stands outside it, as 0
abbrev pub number : Refusal → ℕ
number Inputs = 1
number Outputs = 2
number (TooMany count) = 3
number (BadCube place) = 4
number (CubesMeet place earlier) = 5
number (BadNode place) = 6
number NoOutput = 7
number NoRow = 8
number NoWeight = 9
number (RootCount len) = 10
number (BadRoot output) = 11
number (InputsDiffer first second) = 12
number CostTooLarge = 13
number (Gap next) = 14
number (NumberUsed used) = 15
number LogFull = 16
number (BadPrice position) = 17
number AlreadyTaken = 18
number NotTaken = 19
number (OverLimit excess) = 20
number (NodesShort count) = 21
number FileLength = 22
number (BlockSum block) = 23
number (BadField block byte) = 24
number (BadCause cause) = 25
number (BufferShort len) = 26
number NoMemory = 0

-- the number of a rule that the fields of a file break together
abbrev pub cause_number : Cause → ℕ
cause_number Blocks = 1
cause_number Spent = 2
cause_number Limit = 3

-- the values that come with the number, in their order
abbrev pub values : Refusal → List ℕ
values Inputs = []
values Outputs = []
values (TooMany count) = count ∷ []
values (BadCube place) = place ∷ []
values (CubesMeet place earlier) = place ∷ earlier ∷ []
values (BadNode place) = place ∷ []
values NoOutput = []
values NoRow = []
values NoWeight = []
values (RootCount len) = len ∷ []
values (BadRoot output) = output ∷ []
values (InputsDiffer first second) = first ∷ second ∷ []
values CostTooLarge = []
values (Gap next) = next ∷ []
values (NumberUsed used) = used ∷ []
values LogFull = []
values (BadPrice position) = position ∷ []
values AlreadyTaken = []
values NotTaken = []
values (OverLimit excess) = excess ∷ []
values (NodesShort count) = count ∷ []
values FileLength = []
values (BlockSum block) = block ∷ []
values (BadField block byte) = block ∷ byte ∷ []
values (BadCause cause) = cause ∷ []
values (BufferShort len) = len ∷ []
values NoMemory = []

-- what a refusal tells: its number, then its values
abbrev pub told : Refusal → List ℕ
told r = number r ∷ values r
