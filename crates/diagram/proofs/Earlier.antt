-- A node's test reads only the nodes before its place.
use Rattle.std.proofs.Common.{◌≡◌, ℕ, List, length, take, refl, arith}
use Rattle.std.proofs.lemmas.List.{get_or-take, get_or_past, length-take}
use Rattle.std.proofs.lemmas.Bool.Decides.{nat_tests}
use Rattle.diagram.specs.declared.node.Node.{Node}
use Rattle.diagram.specs.Rules.{fit_branch, fit_node}

branch_earlier : (nodes : List Node) (place level reference : ℕ) → fit_branch (take place nodes) (length (take place nodes)) level reference ≡ fit_branch nodes place level reference
branch_earlier nodes place level reference = grind (arith, nat_tests, get_or-take, get_or_past, length-take)

pub node_earlier : (inputs : ℕ) (nodes : List Node) (place : ℕ) (node : Node) → fit_node inputs (take place nodes) (length (take place nodes)) node ≡ fit_node inputs nodes place node
node_earlier inputs nodes place node =
    rw (branch_earlier nodes place node.level node.low, branch_earlier nodes place node.level node.high) refl
