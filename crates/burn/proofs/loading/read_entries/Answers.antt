use Rattle.std.proofs.Common.{sym, ◌∙◌, ⊎_elim, arith}
use Rattle.std.proofs.lemmas.Result.{err_from_is_err_and}
use Rattle.burn.proofs.Entries.{next_block, entries_goes, entries_stop, entries_end}
use Rattle.burn.proofs.loading.read_entries.Goals as goal

pub returns-in_err-read_entry : goal.returns-in_err-read_entry
returns-in_err-read_entry c =
    let i = c.loop-number.invariant in
    let s = c.in-Some.ensures.steps in
    let p = err_from_is_err_and c.from_residual.result c.from_residual.ensures.1 in
    rw (p.1, p.2) (entries_stop c.args.blocks.now.all.now _ _ _ _ _ _ c.args.inputs _ _ c.args.blocks.now.whole s.0.0 s.0.1 (sym s.1 ∙ i.2) c.in_err-read_entry.ensures i.3)

pub loop-number-preserved : goal.loop-number-preserved
loop-number-preserved c =
    let bs = c.args.blocks.now in
    let i = c.loop-number.invariant in
    let s = c.in-Some.ensures.steps in
    let q = sym s.1 ∙ i.2 in
    let goes = entries_goes bs.all.now _ _ _ _ _ _ c.args.inputs c.loop-number.entries.items c.in_ok-read_entry.field-0 bs.whole s.0.0 s.0.1 q c.in_ok-read_entry.ensures i.3 in
    let t = next_block bs.all.now _ _ _ _ _ s.0.0 s.0.1 q in
    (omega (arith, c.push.ensures.len, i.0, s.0.0, s.0.1), omega (arith, t.0, s.0.0, s.0.1), t.2, rw c.push.ensures.items goes)

pub returns : goal.returns
returns c =
    let bs = c.args.blocks.now in
    let i = c.loop-number.invariant in
    entries_end _ c.args.inputs bs.all.now _ _ c.loop-number.entries.items i.2 (⊎_elim (λ a. absurd (omega (arith, a.1.0, i.1, bs.few.1))) (λ b. b.1.0) c.in-None.ensures.steps) i.3
