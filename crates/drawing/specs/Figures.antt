-- Small drawings, written out: for a reader who wants to see the rule of pieces compute.
-- A node is (level, low, high); references from 3 up are nodes, in their order.
use Rattle.std.specs.Prelude.{◌≡◌, ℕ, [], ◌∷◌}
use Rattle.diagram.specs.declared.node.Node.{Node}
use Rattle.drawing.specs.Pieces.{drawn}

-- a node
abbrev node : ℕ → ℕ → ℕ → Node
node level low high = record { level = level; low = low; high = high }

-- the drawings of three vectors
pub record FiguresDrawn : Type 0 where
  -- three inputs, one where at least two are one
  pub majority : drawn 3 12 ≡ record { nodes = node 2 0 1 ∷ node 1 0 3 ∷ node 1 3 1 ∷ node 0 4 5 ∷ []; root = 6 }
  -- two inputs, one where just one is one
  pub single : drawn 2 2 ≡ record { nodes = node 1 0 1 ∷ node 1 1 0 ∷ node 0 3 4 ∷ []; root = 5 }
  -- one input, never one
  pub nothing : drawn 1 0 ≡ record { nodes = []; root = 0 }
