use Rattle.std.proofs.Common.{◌≡◌, arith, rules, tests, ◌∙◌}
use Rattle.std.proofs.lemmas.Iterator.{YieldsList-from_slice}
use Rattle.std.proofs.lemmas.Iterator.Adapters.{position_from-zero}
use Rattle.std.proofs.lemmas.Iterator.Search.{position_from_yields_List}
use Rattle.design.specs.Search.{first_place}
use Rattle.design.proofs.First.{found_first}
use Rattle.design.proofs.search.first_meeting.Goals as goal

pub returns-clause-answer : goal.returns-clause-answer
returns-clause-answer g c =
    let records = c.args.records.now in
    let wanted = λ (x : g.row.R.Denot). g.R.Record.meets x c.args.wanted.now in
    let found : c.position.result ≡ first_place wanted records =
    position_from_yields_List wanted _ _ c.position.result c.position.ensures.ran
    (YieldsList-from_slice records cc) (λ x b q k. search (rules, tests))
    ∙ position_from-zero wanted records
    ∙ found_first wanted records
    in
    grind (arith, found)
