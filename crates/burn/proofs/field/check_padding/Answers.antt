use Rattle.std.proofs.Common.{◌∙◌, sym, take, drop, rules, tests}
use Rattle.std.proofs.lemmas.Iterator.{YieldsList-from_slice}
use Rattle.std.proofs.lemmas.Iterator.Search.{position_from_yields_List}
use Rattle.burn.proofs.Fields.{not_zero, padding_stops, padding_passes}
use Rattle.burn.proofs.field.check_padding.Goals as goal

pub returns-in-Some : goal.returns-in-Some
returns-in-Some c =
    padding_stops c.args.block c.args.bytes.now c.in-Some.place (search rules)
    (sym (position_from_yields_List not_zero _ _ _ c.position.ensures.ran (YieldsList-from_slice (take 496 (drop 12 c.args.bytes.now)) cc) (λ x b q k. search (rules, tests))) ∙ c.in-Some.is)

pub returns-in-None : goal.returns-in-None
returns-in-None c =
    padding_passes c.args.block c.args.bytes.now (search rules)
    (sym (position_from_yields_List not_zero _ _ _ c.position.ensures.ran (YieldsList-from_slice (take 496 (drop 12 c.args.bytes.now)) cc) (λ x b q k. search (rules, tests))) ∙ c.in-None.is)
