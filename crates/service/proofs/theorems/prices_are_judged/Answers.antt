use Rattle.service.proofs.Prices.{priced_says}
use Rattle.service.proofs.Opening.{costs_sayable}
use Rattle.service.proofs.theorems.prices_are_judged.Goals as goal

pub returns : goal.returns
returns c = record { says = priced_says; costs = costs_sayable }
