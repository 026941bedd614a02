-- The answer of a drawing as text, for whatever prints one.
use Rattle.std.specs.Prelude.{ℕ, List, ◌++◌, codes, decimal}
use Rattle.drawing.specs.declared.drawn.Drawn.{Drawn}

-- the number of nodes and the root, as "4 nodes, root 6"
abbrev pub text : Drawn → List ℕ
text d = decimal d.count ++ codes " nodes, root " ++ decimal d.root
