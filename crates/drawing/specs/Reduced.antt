-- What makes a drawing the reduced ordered diagram of a symmetric function: for whoever trusts one.
-- It reads every row as the function's value at the row's weight, its levels rise along every branch, and nothing in it could be left out.
use Rattle.std.specs.Prelude.{◌≡◌, ℕ, ◌+◌, ◌^◌, ◌<◌, ◌≤◌, Bool, true, cond, ◌≢◌, List, length, get_or, count_ones, slice_index_or}
use Rattle.design.specs.declared.mark.Mark.{Mark}
use Rattle.design.specs.declared.mark.Mark.TheVariants.{Zero, One}
use Rattle.symmetric.specs.Vectors.{value, Values}
use Rattle.diagram.specs.declared.node.Node.{Node}
use Rattle.diagram.specs.Walk.{no_node, node_at, read}
use Rattle.diagram.specs.Rules.{fit_node}
use Rattle.drawing.specs.Pieces.{Drawing, drawing_of}

-- the mark of a value
abbrev pub marked : Bool → Mark
marked passes = cond passes One Zero

-- a reference leads to another: it is the same, or it is a node one of whose branches leads there
pub data Leads (nodes : List Node) : ℕ → ℕ → Type 0 where
  here : {reference : ℕ} → Leads nodes reference reference
  by_low : {reference target : ℕ} → 3 ≤ reference → Leads nodes (node_at nodes reference).low target → Leads nodes reference target
  by_high : {reference target : ℕ} → 3 ≤ reference → Leads nodes (node_at nodes reference).high target → Leads nodes reference target

-- the reduced ordered diagram of the values of bits
pub record Reduced (inputs bits : ℕ) (d : Drawing) : Type 0 where
  -- each row is led from the root to the value at its weight
  pub computes : (row : ℕ) → row < 2 ^ inputs → read d.nodes row inputs d.root ≡ marked (value bits (count_ones row))
  -- the root is a mark or a node
  pub rooted : d.root < 3 + length d.nodes
  -- a level is an input's, and each branch is a mark or an earlier node with a greater level
  pub ordered : (place : ℕ) → place < length d.nodes → fit_node inputs d.nodes place (slice_index_or d.nodes place no_node) ≡ true
  -- each node decides something: its branches differ
  pub decides : (place : ℕ) → place < length d.nodes → (get_or d.nodes place no_node).low ≢ (get_or d.nodes place no_node).high
  -- no two nodes are equal
  pub once : (place other : ℕ) → place < length d.nodes → other < length d.nodes → slice_index_or d.nodes place no_node ≡ slice_index_or d.nodes other no_node → place ≡ other
  -- the root leads to each node
  pub reached : (place : ℕ) → place < length d.nodes → Leads d.nodes d.root (3 + place)

-- the drawing of a vector is the reduced ordered diagram of its function
abbrev pub DrawnReduced : Values → Type 0
DrawnReduced v = Reduced v.inputs v.bits (drawing_of v)
