-- The rules of a diagram's table, and the refusal where one is broken: for whoever builds a diagram.
-- A level is an input's number, and places count from 0.
use Rattle.std.specs.Prelude.{ℕ, ◌+◌, ◌-◌, Bool, cond, ◌&&◌, ◌||◌, List, [], ◌∷◌, length, is_ok, Ok, Err, Result, ◌==◌, nat_lt}
use Rattle.refusal.specs.declared.table.Refusal.{Refusal}
use Rattle.refusal.specs.declared.table.Refusal.TheVariants.{BadNode, RootCount, BadRoot}
use Rattle.design.specs.Checks.{sizes}
use Rattle.diagram.specs.declared.node.Node.{Node}
use Rattle.diagram.specs.Walk.{is_mark, node_at}

-- a branch of a node at this place with this level: a mark, or a node at an earlier place with a greater level
abbrev pub fit_branch : List Node → ℕ → ℕ → ℕ → Bool
fit_branch nodes place level reference = is_mark reference || (nat_lt (reference - 3) place && nat_lt level (node_at nodes reference).level)

-- a node at this place: its level is below the inputs, and both branches are fit
abbrev pub fit_node : ℕ → List Node → ℕ → Node → Bool
fit_node inputs nodes place node = nat_lt node.level inputs && (fit_branch nodes place node.level node.low && fit_branch nodes place node.level node.high)

-- an output's root, where there are so many nodes: a mark or a node
abbrev pub fit_root : ℕ → ℕ → ℕ → Bool
fit_root nodes output reference = is_mark reference || nat_lt (reference - 3) nodes

-- each element passes the test at its place, or the refusal names the lowest place where one does not
unfoldable pub each : {X : Type 0} → (ℕ → X → Bool) → (ℕ → Refusal) → ℕ → List X → Result (Unit {0}) Refusal
each fit refuse place [] = Ok tt
each fit refuse place (x ∷ xs) = cond (fit place x) (each fit refuse (place + 1) xs) (Err (refuse place))

-- one root for each output
abbrev pub root_count : ℕ → ℕ → Result (Unit {0}) Refusal
root_count outputs count = cond (count == outputs) (Ok tt) (Err (RootCount count))

-- what comes next where a check passes, else its refusal
abbrev pub then : {X : Type 0} → Result (Unit {0}) Refusal → Result X Refusal → Result X Refusal
then (Ok passed) next = next
then (Err why) next = Err why

-- all rules, in the order in which they are tried
abbrev pub checked : ℕ → ℕ → List Node → List ℕ → Result (Unit {0}) Refusal
checked inputs outputs nodes roots =
    then (sizes inputs outputs (length nodes))
    (then (each (fit_node inputs nodes) BadNode 0 nodes)
    (then (root_count outputs (length roots))
    (each (fit_root (length nodes)) BadRoot 0 roots)))

-- a table with one output for each root that breaks no rule
abbrev pub kept : ℕ → List Node → List ℕ → Bool
kept inputs nodes roots = is_ok (checked inputs (length roots) nodes roots)
