use Rattle.std.proofs.Common.{sym, ◌∙◌}
use Rattle.commands.proofs.Logs.{no_line_more, fresh_answer}
use Rattle.rules.specs.Rules.{account}
use Rattle.service.specs.Holds.{terms_of, lines_of}
use Rattle.service.proofs.Obeying.{fresh_open, settled_numbered, settled_stale, open_logged, open_keeps}
use Rattle.service.proofs.Own.{terms_told, stands_told, many_prices}
use Rattle.service.proofs.service.Service.obey.Goals as goal

pub returns-in-Some-clause-answer : goal.returns-in-Some-clause-answer
returns-in-Some-clause-answer g c = sym (settled_numbered _ _ c.args.number c.args.command _ c.in-Some.ensures)

pub returns-in-Some-clause-lines : goal.returns-in-Some-clause-lines
returns-in-Some-clause-lines g c =
    let s = c.args.self.now in
    sym (no_line_more (account (terms_of s)) (lines_of s) c.args.number c.args.command (settled_stale (lines_of s) _ c.args.command _ c.in-Some.ensures))

pub invariant_of-self : goal.invariant_of-self
invariant_of-self g c =
    let s = c.args.self.now in
    let d = c.decide-answer.ensures _ _ s.stands.books s.stands.kept in
    let kept = open_keeps (account (terms_of s)) (lines_of s) c.args.number c.args.command _ (sym c.in_default.ensures) d.answers s.stands.kept in
    rw c.add.ensures (record { stands = stands_told (terms_of s) _ _ (many_prices s.stands) s.stands.opens d.ledger kept })

pub returns : goal.returns
returns g c =
    let s = c.args.self.now in
    let t = terms_of s in
    let e = sym c.in_default.ensures in
    let d = c.decide-answer.ensures _ _ s.stands.books s.stands.kept in
    record {
      answer = d.answers ∙ sym (fresh_answer (account t) (lines_of s) c.args.number c.args.command (fresh_open (lines_of s) c.args.number c.args.command e));
      lines = c.add.ensures ∙ sym (open_logged (account t) (lines_of s) c.args.number c.args.command _ e d.answers);
      terms = terms_told t _ _ (many_prices s.stands) d.ledger;
    }
