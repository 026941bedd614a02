use Rattle.std.proofs.Common.{◌≡◌, not, sym, ap, ◌∙◌, rules, tests}
use Rattle.std.specs.List.{position_from}
use Rattle.std.proofs.lemmas.Iterator.{YieldsList-from_slice}
use Rattle.std.proofs.lemmas.Iterator.Search.{position_from_yields_List}
use Rattle.std.proofs.lemmas.Iterator.Adapters.{position_from-zero}
use Rattle.refusal.specs.declared.table.Refusal.TheVariants.{BadRoot}
use Rattle.diagram.specs.Rules.{fit_root}
use Rattle.diagram.proofs.Each.{refused, each_first}
use Rattle.diagram.proofs.table.build.check_roots.Goals.{After-position}
use Rattle.diagram.proofs.table.build.check_roots.Goals as goal

found : (c : After-position) → c.position.result ≡ position_from (λ x. not (fit_root c.args.nodes 0 x)) 0 c.args.roots.now
found c =
    position_from_yields_List (λ x. not (fit_root c.args.nodes 0 x)) _ _ _ c.position.ensures.ran (YieldsList-from_slice c.args.roots.now cc) (λ x b q k. search (rules, tests))
    ∙ position_from-zero (λ x. not (fit_root c.args.nodes 0 x)) c.args.roots.now

pub returns-in-Some : goal.returns-in-Some
returns-in-Some c =
    ap (refused BadRoot) (sym c.in-Some.is ∙ found (goal.at.returns-in-Some c).After-position) ∙ sym (each_first (fit_root c.args.nodes 0) BadRoot 0 c.args.roots.now)

pub returns-in-None : goal.returns-in-None
returns-in-None c =
    ap (refused BadRoot) (sym c.in-None.is ∙ found (goal.at.returns-in-None c).After-position) ∙ sym (each_first (fit_root c.args.nodes 0) BadRoot 0 c.args.roots.now)
