use Rattle.std.proofs.Common.{length, sym, ◌∙◌}
use Rattle.std.proofs.lemmas.Result.{err_from_is_err_and}
use Rattle.burn.proofs.Sums.{sums_by, sums_all}
use Rattle.burn.proofs.block.Blocks.check_sums.Goals as goal

pub returns-in_err-check_sum : goal.returns-in_err-check_sum
returns-in_err-check_sum c =
    let p = err_from_is_err_and c.from_residual.result c.from_residual.ensures.1 in
    rw (p.1, p.2) (sym (sums_by c.args.self.now.all.now c.loop-number.number _ _ c.loop-number-test.true c.args.self.now.whole c.in_err-check_sum.ensures) ∙ c.loop-number.invariant)

pub loop-number-preserved : goal.loop-number-preserved
loop-number-preserved c = sym (sums_by c.args.self.now.all.now c.loop-number.number _ _ c.loop-number-test.true c.args.self.now.whole c.in_ok-check_sum.ensures) ∙ c.loop-number.invariant

pub returns : goal.returns
returns c = sym (sums_all _ c.loop-number.number (length c.args.self.now.all.now) c.loop-number-test.false) ∙ c.loop-number.invariant
