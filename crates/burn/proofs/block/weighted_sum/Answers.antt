use Rattle.std.proofs.Common.{take, ◌≤◌, length, ◌*◌, sym, ◌∙◌, arith, rules}
use Rattle.std.specs.List.{enumerate_from}
use Rattle.std.proofs.lemmas.List.{length-take}
use Rattle.std.proofs.lemmas.Iterator.{YieldsList-from_slice, YieldsList-from_map}
use Rattle.std.proofs.lemmas.Iterator.Consumers.{YieldsList-from_enumerate, YieldsList-at, sum_by_from_yields_List, fits_by_from_yields_list}
use Rattle.burn.specs.Blocks.{weighed}
use Rattle.burn.proofs.Sums.{added, weighed_added, weighed_le, bytes_take}
use Rattle.burn.proofs.block.weighted_sum.Goals as goal

pub sum-requires-clause-fits : goal.sum-requires-clause-fits
sum-requires-clause-fits c =
    let xs = take 508 c.args.block.now in
    let small : weighed 1 xs ≤ 129795 * length xs = weighed_le 1 xs (bytes_take 508 c.args.block.now c.fits-block) (omega (arith, length-take 508 c.args.block.now)) in
    fits_by_from_yields_list added (enumerate_from 0 xs) c.map.result _
    (YieldsList-from_map _ added (YieldsList-at c.map.ensures.source (YieldsList-from_enumerate (YieldsList-at c.enumerate.ensures.source (YieldsList-from_slice xs cc)) cc)) c.map.ensures.closure (λ x r q k. search rules))
    (omega (arith, weighed_added 0 xs, length-take 508 c.args.block.now))

pub returns : goal.returns
returns c =
    let xs = take 508 c.args.block.now in
    sum_by_from_yields_List added (enumerate_from 0 xs) c.map.result _ c.sum.ensures.ran
    (YieldsList-from_map _ added (YieldsList-at c.map.ensures.source (YieldsList-from_enumerate (YieldsList-at c.enumerate.ensures.source (YieldsList-from_slice xs cc)) cc)) c.map.ensures.closure (λ x r q k. search rules))
    ∙ sym (weighed_added 0 xs)
