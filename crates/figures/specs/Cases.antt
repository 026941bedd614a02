-- Small designs, the terms that services are opened with on them, and a burn file: for the known figures.
-- Nothing is defined here but these cases; what they mean and answer is said by the definitions that the code's contracts cite.
use Rattle.std.specs.Prelude.{ℕ, List, [], ◌∷◌}
use Rattle.design.specs.Meaning.{Meaning}
use Rattle.design.specs.Pairs.{paired}
use Rattle.cover.specs.declared.cube.Cube.{Cube}
use Rattle.cover.specs.Tables as cover
use Rattle.diagram.specs.declared.node.Node.{Node}
use Rattle.diagram.specs.Meaning as diagram
use Rattle.drawing.specs.Pieces.{Drawing}
use Rattle.symmetric.specs.Nearest.{Found}
use Rattle.burn.specs.Files.{Contents, written}
use Rattle.rules.specs.declared.call.Call.TheVariants.{Take}
use Rattle.rules.specs.Rules.{Terms, lines}
use Rattle.service.specs.Opening.{terms}
use Rattle.service.specs.Sheets.{sheet_of}

-- a cube of output 0: kind 1 on, kind 2 don't-care
abbrev pub cube : ℕ → ℕ → ℕ → Cube
cube kind fixed value = record { output = 0; kind = kind; fixed = fixed; value = value }

-- a cover with one output
abbrev pub one_output : ℕ → List Cube → cover.Table
one_output n cubes = record { inputs = n; outputs = 1; cubes = cubes }

-- a node of a decision diagram
abbrev pub node : ℕ → ℕ → ℕ → Node
node level low high = record { level = level; low = low; high = high }

-- a drawing by its nodes and root
abbrev pub draws : List Node → ℕ → Drawing
draws nodes root = record { nodes = nodes; root = root }

-- a value vector of n inputs, and its wrong count
abbrev pub found : ℕ → ℕ → ℕ → Found
found n vector wrong = record { vector = record { inputs = n; bits = vector }; wrong = wrong }

-- the weights of three inputs
abbrev pub weights : List ℕ
weights = 0 ∷ 1 ∷ 2 ∷ 3 ∷ []

-- and their rows
abbrev pub rows : List ℕ
rows = 0 ∷ 1 ∷ 2 ∷ 3 ∷ 4 ∷ 5 ∷ 6 ∷ 7 ∷ []

-- cover A: three inputs, the rows that have input 0 are on, and of the others row 6 is a don't-care
abbrev pub cubes_a : List Cube
cubes_a = cube 1 1 1 ∷ cube 2 7 6 ∷ []

-- what A means
abbrev pub A : Meaning
A = cover.table_meaning (one_output 3 cubes_a)

-- diagram B: input 0 decides for one, else inputs 1 and 2 together for don't-care
abbrev pub nodes_b : List Node
nodes_b = node 2 0 2 ∷ node 1 0 3 ∷ node 0 4 1 ∷ []

-- its table
abbrev pub table_b : diagram.Table
table_b = record { inputs = 3; nodes = nodes_b; roots = 5 ∷ [] }

-- what B means
abbrev pub B : Meaning
B = diagram.meaning_of table_b

-- two inputs, row 1 alone is on: at weight 1 as many rows are on as off
abbrev pub cubes_tie : List Cube
cubes_tie = cube 1 3 1 ∷ []

-- what they mean as a cover
abbrev pub tie : Meaning
tie = cover.table_meaning (one_output 2 cubes_tie)

-- one input, every row a don't-care
abbrev pub cubes_loose : List Cube
cubes_loose = cube 2 0 0 ∷ []

-- what it means as a cover
abbrev pub loose : Meaning
loose = cover.table_meaning (one_output 1 cubes_loose)

-- A at price 3 under a limit
abbrev pub single : ℕ → Terms
single limit = terms A limit (3 ∷ [])

-- A and B side by side at prices 3 and 5 under the limit 7
abbrev pub double : Terms
double = terms (paired A B) 7 (3 ∷ 5 ∷ [])

-- the sheet of A once it is taken under the limit 3
abbrev pub sheet : Contents
sheet = sheet_of (single 3) (lines (single 3) (Take 1 0 ∷ []))

-- the file written of it
abbrev pub file : List ℕ
file = written sheet
