use Rattle.std.proofs.Common.{◌≡◌, ℕ, not, sym, ap, ◌∙◌, rules, tests}
use Rattle.std.specs.List.{position_from, enumerate_from}
use Rattle.std.proofs.lemmas.Iterator.{YieldsList-from_slice}
use Rattle.std.proofs.lemmas.Iterator.Consumers.{YieldsList-from_enumerate}
use Rattle.std.proofs.lemmas.Iterator.Search.{position_from_yields_List}
use Rattle.std.proofs.lemmas.Iterator.Adapters.{position_from-zero}
use Rattle.refusal.specs.declared.table.Refusal.TheVariants.{BadNode}
use Rattle.diagram.specs.declared.node.Node.{Node}
use Rattle.diagram.specs.Rules.{fit_node}
use Rattle.diagram.proofs.Earlier.{node_earlier}
use Rattle.diagram.proofs.Each.{refused, each_first_placed}
use Rattle.diagram.proofs.table.build.check_nodes.Goals.{After-position-bad}
use Rattle.diagram.proofs.table.build.check_nodes.Goals as goal

found : (c : After-position-bad) → c.position-bad.result ≡ position_from (λ (p : ℕ × Node). not (fit_node c.args.inputs c.args.nodes.now p.0 p.1)) 0 (enumerate_from 0 c.args.nodes.now)
found c =
    position_from_yields_List (λ (p : ℕ × Node). not (fit_node c.args.inputs c.args.nodes.now p.0 p.1)) _ _ c.position-bad.result c.position-bad.ensures.ran (YieldsList-from_enumerate (YieldsList-from_slice c.args.nodes.now cc) (cc)) (λ x b q k. search (rules, tests, node_earlier))
    ∙ position_from-zero (λ (p : ℕ × Node). not (fit_node c.args.inputs c.args.nodes.now p.0 p.1)) (enumerate_from 0 c.args.nodes.now)

pub returns-in-Some : goal.returns-in-Some
returns-in-Some c =
    ap (refused BadNode) (sym c.in-Some.is ∙ found (goal.at.returns-in-Some c).After-position-bad) ∙ sym (each_first_placed (fit_node c.args.inputs c.args.nodes.now) BadNode 0 c.args.nodes.now)

pub returns-in-None : goal.returns-in-None
returns-in-None c =
    ap (refused BadNode) (sym c.in-None.is ∙ found (goal.at.returns-in-None c).After-position-bad) ∙ sym (each_first_placed (fit_node c.args.inputs c.args.nodes.now) BadNode 0 c.args.nodes.now)
