-- What holds of a drawing under way: after each level, and after each piece of a level.
use Rattle.std.proofs.Common.{◌≡◌, ℕ, ◌+◌, ◌-◌, ◌/◌, ◌^◌, ◌<◌, ◌≤◌, ◌≢◌, ◌⊎◌, List, length, get_or}
use lib.Count.{ones}
use Rattle.std.specs.Int.{bit_at}
use Rattle.diagram.specs.declared.node.Node.{Node}
use Rattle.diagram.specs.Walk.{mark_of, no_node, read}
use Rattle.diagram.specs.Counting.{level_of}
use Rattle.diagram.proofs.Kept.{Fit}
use Rattle.drawing.specs.Pieces.{Draft}
use Rattle.drawing.specs.Reduced.{Leads}

-- every value of the piece (level, i) is c
abbrev pub Holds : ℕ → ℕ → ℕ → ℕ → ℕ → Type 0
Holds inputs bits level i c = (w : ℕ) → w ≤ inputs - level → bit_at bits (i + w) ≡ c

-- the piece (level, i) is constant
abbrev pub Alike : ℕ → ℕ → ℕ → ℕ → Type 0
Alike inputs bits level i = Holds inputs bits level i (bit_at bits i)

-- what holds of the nodes by themselves
pub record Table (inputs : ℕ) (nodes : List Node) : Type 0 where
  pub fit : Fit inputs nodes
  pub decides : (place : ℕ) → place < length nodes → (get_or nodes place no_node).low ≢ (get_or nodes place no_node).high
  pub once : (place other : ℕ) → place < length nodes → other < length nodes → get_or nodes place no_node ≡ get_or nodes other no_node → place ≡ other

-- r is a reference for the piece (level, i)
pub record Refers (inputs bits level : ℕ) (nodes : List Node) (i r : ℕ) : Type 0 where
  pub valid : r < 3 + length nodes
  pub deep : level ≤ level_of inputs nodes r
  pub reads : (row : ℕ) → row < 2 ^ inputs → read nodes row inputs r ≡ mark_of (bit_at bits (i + ones (row / 2 ^ level)))
  pub flat : Alike inputs bits level i → r < 3

-- a level is drawn
pub record Whole (inputs bits level : ℕ) (d : Draft) : Type 0 where
  pub table : Table inputs d.nodes
  pub own : (i : ℕ) → i ≤ level → Refers inputs bits level d.nodes i (d.refers i)
  pub led : (place : ℕ) → place < length d.nodes → (i : ℕ) × (i ≤ level) × Leads d.nodes (d.refers i) (3 + place)

-- the node of a piece, over the references of the level after it
abbrev pub over : ℕ → (ℕ → ℕ) → ℕ → Node
over level old i = record { level = level; low = old i; high = old (i + 1) }

-- how the piece (level, i) came to its reference: the mark of its one value, or its node
pub data Own (inputs bits level : ℕ) (old : ℕ → ℕ) (nodes : List Node) (i r : ℕ) : Type 0 where
  as_mark : (c : ℕ) → c < 2 → Holds inputs bits level i c → r ≡ c → Own inputs bits level old nodes i r
  as_node : (place : ℕ) → place < length nodes → r ≡ 3 + place → get_or nodes place no_node ≡ over level old i → (Alike inputs bits level i → ⊥) → Own inputs bits level old nodes i r

-- a node is led to from the level after, or is one of the level's own
abbrev pub Led : ℕ → ℕ → (ℕ → ℕ) → Draft → ℕ → Type 0
Led level k old d place = ((i : ℕ) × (i ≤ level + 1) × Leads d.nodes (old i) (3 + place)) ⊎ ((i : ℕ) × (i < k) × (d.refers i ≡ 3 + place))

-- k pieces of a level are drawn, over the references of the level after it
pub record Midway (inputs bits level : ℕ) (old : ℕ → ℕ) (k : ℕ) (d : Draft) : Type 0 where
  pub table : Table inputs d.nodes
  pub after : (i : ℕ) → i ≤ level + 1 → Refers inputs bits (level + 1) d.nodes i (old i)
  pub own : (i : ℕ) → i < k → Own inputs bits level old d.nodes i (d.refers i)
  pub kept : (i : ℕ) → k ≤ i → d.refers i ≡ old i
  pub led : (place : ℕ) → place < length d.nodes → Led level k old d place
