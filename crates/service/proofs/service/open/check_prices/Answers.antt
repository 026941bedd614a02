use Rattle.std.proofs.Common.{length, sym, ap, ◌∙◌}
use Rattle.std.proofs.lemmas.Bool.{cond-true, cond-false, lt-ltb, le-ltb}
use Rattle.service.proofs.Prices.{judged, judged_whole}
use Rattle.service.proofs.service.open.check_prices.Goals as goal

pub returns-in-Some : goal.returns-in-Some
returns-in-Some c = sym (judged_whole c.args.outputs c.args.prices.now ∙ ap (judged c.args.outputs (length c.args.prices.now)) (sym c.in-Some.ensures))

pub returns-in-None : goal.returns-in-None
returns-in-None c =
    sym (judged_whole c.args.outputs c.args.prices.now ∙ ap (judged c.args.outputs (length c.args.prices.now)) (sym c.in-None.ensures) ∙ cond-true _ _ _ (lt-ltb _ _ c.if-prices-outputs.true))

pub returns-in-None-2 : goal.returns-in-None-2
returns-in-None-2 c =
    sym (judged_whole c.args.outputs c.args.prices.now ∙ ap (judged c.args.outputs (length c.args.prices.now)) (sym c.in-None.ensures) ∙ cond-false _ _ _ (le-ltb _ _ c.if-prices-outputs.false))
