-- What a decision diagram means: for whoever asks one, or trusts its counts.
-- An output's mark at a row is where the walk from its root ends.
use Rattle.std.specs.Prelude.{ℕ, List, length, Ok, Err, vec_items, Result, slice_index}
use Rattle.refusal.specs.declared.table.Refusal.{Refusal}
use Rattle.design.specs.Meaning.{Meaning}
use Rattle.diagram.specs.declared.node.Node.{Node}
use Rattle.diagram.specs.declared.table.Diagram.{Diagram}
use Rattle.diagram.specs.Walk.{read}
use Rattle.diagram.specs.Rules.{then, checked}

-- a table: how many inputs, the nodes, and a root for each output
pub record Table : Type 0 where
  pub inputs : ℕ
  pub nodes : List Node
  pub roots : List ℕ

-- the table in a diagram
abbrev pub table : Diagram → Table
table d = record { inputs = d.inputs; nodes = vec_items d.nodes; roots = vec_items d.roots }

-- what building answers, with the table for the diagram
abbrev pub tabled : Result Diagram Refusal → Result Table Refusal
tabled (Ok d) = Ok (table d)
tabled (Err why) = Err why

-- the table as given if it keeps every rule, else the first refusal
abbrev pub built : ℕ → ℕ → List Node → List ℕ → Result Table Refusal
built inputs outputs nodes roots = then (checked inputs outputs nodes roots) (Ok (record { inputs = inputs; nodes = nodes; roots = roots }))

-- the marks of a table
abbrev pub meaning_of : Table → Meaning
meaning_of t = record { inputs = t.inputs; outputs = length t.roots; mark = λ o r. read t.nodes r t.inputs (slice_index t.roots o) }

-- what a diagram means
abbrev pub diagram_meaning : Diagram → Meaning
diagram_meaning d = meaning_of (table d)
