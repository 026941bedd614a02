-- What the answer to a building says of the table, for whoever is refused and wants to know what is wrong.
-- Every refusal has its case, and in each the rules before it are kept.
use Rattle.std.specs.Prelude.{◌≡◌, ℕ, ◌≢◌, List, length, Ok, Err, Result}
use Rattle.refusal.specs.declared.table.Refusal.{Refusal}
use Rattle.refusal.specs.declared.table.Refusal.TheVariants.{BadNode, RootCount, BadRoot}
use Rattle.design.specs.Checks.{Every, Lowest, Sizes, BadSize}
use Rattle.diagram.specs.declared.node.Node.{Node}
use Rattle.diagram.specs.Rules.{fit_node, fit_root}
use Rattle.diagram.specs.Meaning.{Table, built}

-- the sizes are within their bounds, and every node keeps its rules
pub record NodesFit (inputs outputs : ℕ) (nodes : List Node) : Type 0 where
  pub sizes : Sizes inputs outputs (length nodes)
  pub fit : Every (fit_node inputs nodes) nodes

-- what an answer says of a table of nodes and roots
pub data Reason (inputs outputs : ℕ) (nodes : List Node) (roots : List ℕ) : Result Table Refusal → Type 0 where
  bad_size : (why : Refusal) → BadSize inputs outputs (length nodes) why → Reason inputs outputs nodes roots (Err why)
  bad_node : (p : ℕ) → Sizes inputs outputs (length nodes) → Lowest (fit_node inputs nodes) nodes p → Reason inputs outputs nodes roots (Err (BadNode p))
  other_count : NodesFit inputs outputs nodes → length roots ≢ outputs → Reason inputs outputs nodes roots (Err (RootCount (length roots)))
  bad_root :
      (o : ℕ) → NodesFit inputs outputs nodes → length roots ≡ outputs → Lowest (fit_root (length nodes)) roots o
      → Reason inputs outputs nodes roots (Err (BadRoot o))
  no_refusal :
      NodesFit inputs outputs nodes → length roots ≡ outputs → Every (fit_root (length nodes)) roots
      → Reason inputs outputs nodes roots (Ok (record { inputs = inputs; nodes = nodes; roots = roots }))

-- for every table of nodes and roots, the answer to its building has its reason
abbrev pub BuildingsHaveReasons : Type 0
BuildingsHaveReasons = (inputs outputs : ℕ) (nodes : List Node) (roots : List ℕ) → Reason inputs outputs nodes roots (built inputs outputs nodes roots)
