use Rattle.std.proofs.Common.{refl, ap, ◌∙◌, inr}
use Rattle.std.proofs.lemmas.Result.{err_from_is_err_and}
use Rattle.rules.proofs.Promise.{promised}
use Rattle.rules.specs.Rules.{replies}
use Rattle.service.proofs.Gone.{gone_none, gone_more, gone_all}
use Rattle.service.proofs.running.run.Goals as goal

pub returns-in_err-service : goal.returns-in_err-service
returns-in_err-service g c =
    let p = err_from_is_err_and c.from_residual.result c.from_residual.ensures.1 in
    rw (p.1, p.2) (record { answer = c.in_err-service.ensures.opened; promised = promised _ })

pub loop-call-init : goal.loop-call-init
loop-call-init g c = gone_none _ c.args.calls.now _ _ _ refl c.in_ok-service.ensures.lines c.new-replies.ensures.items

pub returns-in_err-reply_to : goal.returns-in_err-reply_to
returns-in_err-reply_to g c =
    let p = err_from_is_err_and c.from_residual-in_err-reply_to.result c.from_residual-in_err-reply_to.ensures.1 in
    rw (p.1, p.2) (record { answer = inr (refl, c.in_ok-service.ensures.opened.0); promised = promised _ })

pub returns-in_err-push : goal.returns-in_err-push
returns-in_err-push g c =
    let p = err_from_is_err_and c.from_residual-in_err-push.result c.from_residual-in_err-push.ensures.1 in
    rw (p.1, p.2) (record { answer = inr (refl, c.in_ok-service.ensures.opened.0); promised = promised _ })

pub loop-call-preserved : goal.loop-call-preserved
loop-call-preserved g c =
    let e = c.in_ok-reply_to.ensures in
    gone_more _ c.args.calls.now c.loop-call.call-index _ _ _ _ _ _ _ _ c.loop-call-test.true c.loop-call.invariant e.answer e.lines e.terms c.in_ok-push.ensures.items

pub returns : goal.returns
returns g c =
    let e = c.in_ok-service.ensures in
    record {
      answer = (
        e.opened.0,
        gone_all _ c.args.calls.now c.loop-call.call-index _ _ _ c.loop-call-test.false c.loop-call.invariant ∙ ap (λ t. replies t c.args.calls.now) e.terms,
      );
      promised = promised _;
    }
