-- What the search for an equal node tells.
use Rattle.std.proofs.Common.{◌≡◌, ℕ, ◌<◌, true, List, length, get_or, Some, None, Option, sym, subst, arith}
use Rattle.std.proofs.lemmas.Bool.{both_ways}
use Rattle.std.proofs.lemmas.Bool.Decides.{nat_tests}
use Rattle.design.specs.Search.{Says}
use Rattle.design.proofs.First.{first_place_says}
use Rattle.diagram.specs.declared.node.Node.{Node}
use Rattle.diagram.specs.Walk.{no_node}
use Rattle.diagram.specs.Same.{same_node}
use Rattle.drawing.specs.Pieces.{place_of}

same_is : (a b : Node) → same_node a b ≡ true → a ≡ b
same_is a b e =
    let l : a.level ≡ b.level = grind (arith, nat_tests) in
    let lo : a.low ≡ b.low = grind (arith, nat_tests) in
    let hi : a.high ≡ b.high = grind (arith, nat_tests) in
    λ i. record { level = l i; low = lo i; high = hi i }

same_self : (a : Node) → same_node a a ≡ true
same_self a = grind (arith, nat_tests)

-- what the answer says: the node stands at that place, or nowhere
abbrev pub Stands : Node → List Node → Option ℕ → Type 0
Stands node nodes (Some place) = (place < length nodes) × (get_or nodes place no_node ≡ node)
Stands node nodes None = (place : ℕ) → place < length nodes → get_or nodes place no_node ≡ node → ⊥

said : (node : Node) (nodes : List Node) (o : Option ℕ) → Says (λ x. same_node x node) nodes o → Stands node nodes o
said node nodes (Some place) s = (s.within, same_is _ node (s.here no_node))
said node nodes None s = λ place h e. both_ways _ (s no_node place h) (subst (λ (y : Node). same_node y node ≡ true) (sym e) (same_self node))

pub stands : (node : Node) (nodes : List Node) → Stands node nodes (place_of node nodes)
stands node nodes = said node nodes (place_of node nodes) (first_place_says (λ x. same_node x node) nodes)
