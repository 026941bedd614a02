use Rattle.std.proofs.Common.{ℕ, ◌+◌, ◌/◌, ◌%◌, ◌^◌, ap, ◌∙◌, rules, arith, pow_mono}
use Rattle.drawing.specs.Pieces.{blank}
use Rattle.drawing.proofs.Pages.{made, blank_page}
use Rattle.drawing.proofs.page.Page.blank.Goals as goal

pub returns : goal.returns
returns c =
    let few = c.args.vector.now.few in
    let p = pow_mono {i = c.args.vector.now.inputs + 1} {j = 17} (omega arith) in
    let fits = c.args.vector.now.fits in
    let answers : ℕ → ℕ = λ k. c.bits-bits.result / 2 ^ k % 2 in
    blank_page _ c.bits-bits.result (omega arith) c.new.ensures c.from_fn.ensures.items.long
    (made answers (λ i y q k. search rules) 17 c.from_fn.ensures.items)
    ∙ ap blank c.bits-bits.ensures
