-- References, and how a row is read from one: for whoever builds, reads or draws a diagram.
-- A reference 0, 1 or 2 is that mark; 3 + p is the node at place p.
use Rattle.std.specs.Prelude.{ℕ, zero, suc, ◌-◌, ◌/◌, ◌%◌, ◌^◌, Bool, cond, List, Some, None, Option, ◌==◌, nat_lt, slice_index_or}
use Rattle.design.specs.declared.mark.Mark.{Mark}
use Rattle.design.specs.declared.mark.Mark.TheVariants.{Zero, One, DontCare}
use Rattle.diagram.specs.declared.node.Node.{Node}
use Rattle.diagram.specs.declared.target.Target.{Target}
use Rattle.diagram.specs.declared.target.Target.TheVariants as to

-- the reference is a mark
abbrev pub is_mark : ℕ → Bool
is_mark reference = nat_lt reference 3

-- the mark that a reference below 3 is
abbrev pub mark_of : ℕ → Mark
mark_of reference = cond (reference == 0) Zero (cond (reference == 1) One DontCare)

-- where a reference leads: to a mark, or to the node at a place
abbrev pub target : ℕ → Target
target reference = cond (is_mark reference) (to.Mark (mark_of reference)) (to.Node (reference - 3))

-- stands for a node where there is none
abbrev pub no_node : Node
no_node = record { level = 0; low = 0; high = 0 }

-- the node that a reference from 3 up is
abbrev pub node_at : List Node → ℕ → Node
node_at nodes reference = slice_index_or nodes (reference - 3) no_node

-- the node behind a reference, unless that is a mark
abbrev pub node_behind : List Node → ℕ → Option Node
node_behind nodes reference = cond (is_mark reference) None (Some (node_at nodes reference))

-- where a row goes on: high if the input that the node tests is 1, else low
abbrev pub branch : Node → ℕ → ℕ
branch node row = cond (row / 2 ^ node.level % 2 == 1) node.high node.low

-- the mark that a row is led to from a reference, in so many steps
unfoldable pub read : List Node → ℕ → ℕ → ℕ → Mark
read nodes row zero reference = mark_of reference
read nodes row (suc steps) reference = cond (is_mark reference) (mark_of reference) (read nodes row steps (branch (node_at nodes reference) row))
