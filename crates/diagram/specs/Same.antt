-- When two nodes are the same: for whoever searches for one.
use Rattle.std.specs.Prelude.{Bool, ◌&&◌, ◌==◌}
use Rattle.diagram.specs.declared.node.Node.{Node}

-- two nodes meet if they are equal
abbrev pub same_node : Node → Node → Bool
same_node a b = a.level == b.level && (a.low == b.low && a.high == b.high)
