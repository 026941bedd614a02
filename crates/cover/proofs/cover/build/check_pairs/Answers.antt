use Rattle.std.proofs.Common.{rules, tests}
use Rattle.std.proofs.lemmas.Iterator.{YieldsList-from_slice}
use Rattle.std.proofs.lemmas.Iterator.Consumers.{YieldsList-from_enumerate}
use Rattle.cover.proofs.FirstGiven.{find_map_gives}
use Rattle.cover.proofs.Checks.{meeting, first_meets}
use Rattle.cover.proofs.cover.build.check_pairs.Goals as goal

pub returns : goal.returns
returns c =
    let cubes = c.args.cubes.now in
    first_meets cubes c.find_map-meeting.result c.map_or.result
    (find_map_gives (meeting cubes) _ c.find_map-meeting.result c.find_map-meeting.ensures.runs
    (YieldsList-from_enumerate (YieldsList-from_slice cubes cc) cc) (λ x b q k. search (rules, tests)))
    (search rules)
