-- The rule by which a symmetric function is drawn, piece by piece: for whoever draws one.
-- The piece (level, k) is the values at the weights k to k + inputs - level: those still possible once k of the inputs before the level are one.
use Rattle.std.specs.Prelude.{ℕ, zero, suc, ◌+◌, ◌-◌, ◌/◌, ◌%◌, ◌^◌, cond, List, [], ◌∷◌, ◌++◌, length, drop, Some, None, Ok, Err, Option, Result, ◌==◌, nat_lt}
use Rattle.refusal.specs.declared.table.Refusal.{Refusal}
use Rattle.refusal.specs.declared.table.Refusal.TheVariants.{NodesShort}
use Rattle.design.specs.Search.{first_place}
use Rattle.diagram.specs.declared.node.Node.{Node}
use Rattle.diagram.specs.Same.{same_node}
use Rattle.symmetric.specs.Vectors.{Values}
use Rattle.drawing.specs.declared.drawn.Drawn.{Drawn}

-- a piece as a number, its lowest bit the value at weight k
abbrev pub piece : ℕ → ℕ → ℕ → ℕ → ℕ
piece inputs bits level k = bits / 2 ^ k % 2 ^ (inputs - level + 1)

-- the piece of a level whose values are all one
abbrev pub all_ones : ℕ → ℕ → ℕ
all_ones inputs level = 2 ^ (inputs - level + 1) - 1

-- a drawing under way: the nodes placed, and for each k the reference of a piece;
-- while a level is drawn, those before k are its own and the others still those of the level after it
pub record Draft : Type 0 where
  pub nodes : List Node
  pub refers : ℕ → ℕ

-- the references with another at k
abbrev pub put : (ℕ → ℕ) → ℕ → ℕ → ℕ → ℕ
put refers k reference i = cond (i == k) reference (refers i)

-- the same nodes, and another reference at k
abbrev pub referred : ℕ → ℕ → Draft → Draft
referred k reference d = record { nodes = d.nodes; refers = put d.refers k reference }

-- a node that stands already is referred to where it stands, any other is placed after the last
abbrev pub settled : ℕ → Node → Option ℕ → Draft → Draft
settled k node (Some place) d = referred k (3 + place) d
settled k node None d = record { nodes = d.nodes ++ node ∷ []; refers = put d.refers k (3 + length d.nodes) }

-- the first place at which an equal node stands
abbrev pub place_of : Node → List Node → Option ℕ
place_of node nodes = first_place (λ x. same_node x node) nodes

-- the node of a piece: low to the piece (level + 1, k), high to (level + 1, k + 1)
abbrev pub node_of : ℕ → ℕ → Draft → Node
node_of level k d = record { level = level; low = d.refers k; high = d.refers (k + 1) }

-- one piece drawn: a constant piece refers to its mark, any other to its node
abbrev pub with_piece : ℕ → ℕ → ℕ → ℕ → Draft → Draft
with_piece inputs bits level k d =
    cond (piece inputs bits level k == 0) (referred k 0 d)
    (cond (piece inputs bits level k == all_ones inputs level) (referred k 1 d)
    (settled k (node_of level k d) (place_of (node_of level k d) d.nodes) d))

-- so many pieces of a level drawn, from k = 0 on
unfoldable pub with_pieces : ℕ → ℕ → ℕ → ℕ → Draft → Draft
with_pieces inputs bits level zero d = d
with_pieces inputs bits level (suc k) d = with_piece inputs bits level k (with_pieces inputs bits level k d)

-- after the last level each piece is one value, and no node is placed
abbrev pub blank : ℕ → Draft
blank bits = record { nodes = []; refers = λ k. bits / 2 ^ k % 2 }

-- so many levels drawn, from the last one on; at level j there are the pieces k = 0 to j
unfoldable pub with_levels : ℕ → ℕ → ℕ → Draft
with_levels inputs bits zero = blank bits
with_levels inputs bits (suc done) = with_pieces inputs bits (inputs - suc done) (inputs - suc done + 1) (with_levels inputs bits done)

-- a finished drawing
pub record Drawing : Type 0 where
  pub nodes : List Node
  pub root : ℕ

-- the root is the piece (0, 0)
abbrev pub finished : Draft → Drawing
finished d = record { nodes = d.nodes; root = d.refers 0 }

-- the drawing of these values
abbrev pub drawn : ℕ → ℕ → Drawing
drawn inputs bits = finished (with_levels inputs bits inputs)

-- the drawing of a vector
abbrev pub drawing_of : Values → Drawing
drawing_of v = drawn v.inputs v.bits

-- what drawing into a buffer of so many places answers
abbrev pub draw_answer : Drawing → ℕ → Result Drawn Refusal
draw_answer d room = cond (nat_lt room (length d.nodes)) (Err (NodesShort (length d.nodes))) (Ok (record { count = length d.nodes; root = d.root }))

-- the buffer after it: the nodes in front and the rest as before, or all as before where it is too short
abbrev pub drawn_over : Drawing → List Node → List Node
drawn_over d buffer = cond (nat_lt (length buffer) (length d.nodes)) buffer (d.nodes ++ drop (length d.nodes) buffer)
