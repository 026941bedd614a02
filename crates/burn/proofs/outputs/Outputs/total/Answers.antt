use Rattle.std.proofs.Common.{◌∙◌, sym, rules}
use Rattle.std.proofs.lemmas.Iterator.{YieldsList-from_slice, YieldsList-from_map}
use Rattle.std.proofs.lemmas.Iterator.Consumers.{sum_by_from_yields_List}
use Rattle.burn.specs.Rules.{cost}
use Rattle.burn.proofs.Fields.{costs_summed}
use Rattle.burn.proofs.outputs.Outputs.total.Goals as goal

pub returns : goal.returns
returns c =
    let es = c.args.self.now.entries.now in
    sum_by_from_yields_List cost es c.map.result _ c.sum.ensures.ran (YieldsList-from_map _ cost (YieldsList-from_slice es cc) c.map.ensures.closure (λ x r q k. search rules)) ∙ sym (costs_summed es)
