use Rattle.std.proofs.Common.{length, sym, ap, ◌∙◌, arith, ⊎_elim}
use Rattle.std.proofs.lemmas.Result.{err_from_is_err_and}
use Rattle.burn.proofs.Checks.{checks_by, checks_all}
use Rattle.burn.proofs.outputs.Outputs.check.Goals as goal

pub loop-block-preserved : goal.loop-block-preserved
loop-block-preserved c =
    let s = c.in-Some.ensures.steps in
    let n = ap length s.1 in
    (omega (arith, s.0.0, s.0.1, n, c.loop-block.invariant.0), sym (checks_by c.args.inputs _ _ _ _ _ _ _ s.0.0 s.0.1 s.1 c.in_ok-check_entry.ensures) ∙ c.loop-block.invariant.1)

pub returns-in_err-check_entry : goal.returns-in_err-check_entry
returns-in_err-check_entry c =
    let s = c.in-Some.ensures.steps in
    let p = err_from_is_err_and c.from_residual.result c.from_residual.ensures.1 in
    rw (p.1, p.2) (sym (checks_by c.args.inputs _ _ _ _ _ _ _ s.0.0 s.0.1 s.1 c.in_err-check_entry.ensures) ∙ c.loop-block.invariant.1)

pub returns : goal.returns
returns c =
    let i = c.loop-block.invariant in
    sym (checks_all c.args.inputs _ _ (⊎_elim (λ a. absurd (omega (arith, a.1.0, i.0))) (λ b. b.1.0) c.in-None.ensures.steps)) ∙ i.1
