use Rattle.std.proofs.Common.{not, rules, tests}
use Rattle.std.proofs.lemmas.Iterator.{YieldsList-from_slice}
use Rattle.std.proofs.lemmas.Iterator.Search.{position_from_yields_List}
use Rattle.cover.specs.Cubes.{good}
use Rattle.cover.proofs.Checks.{lowest_bad}
use Rattle.cover.proofs.cover.build.check_each.Goals as goal

pub returns : goal.returns
returns c =
    let size = c.args.size in
    let cubes = c.args.cubes.now in
    lowest_bad size.inputs size.outputs cubes c.position-bad.result c.map_or.result
    (position_from_yields_List (λ cube. not (good size.inputs size.outputs cube)) _ _ _ c.position-bad.ensures.ran
    (YieldsList-from_slice cubes cc) (λ x b q k. search (rules, tests)))
    (search rules)
