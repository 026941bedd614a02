use Rattle.std.proofs.Common.{◌≡◌, ◌+◌, ◌<◌, false, [], ◌∷◌, ◌++◌, length, get_or, vec_items, sym, refl, ap, ◌∙◌, arith}
use Rattle.std.proofs.lemmas.List.{length_push}
use Rattle.design.specs.Meaning.{Meaning}
use Rattle.service.specs.declared.account.Account.{Account}
use Rattle.service.specs.Opening.{terms}
use Rattle.service.proofs.Prices.{passed_fair}
use Rattle.service.proofs.Opening.{found_told, never_refused, more_accounts, nothing_taken}
use Rattle.service.proofs.service.open.open_accounts.Goals as goal

pub overflow_cast-output : goal.overflow_cast-output
overflow_cast-output g c =
    let m : Meaning = g.D.Design.meaning c.args.design.now in
    let n = (passed_fair m.outputs c.args.prices.now c.requires).many in
    let few = (g.met.D.Design.sound c.args.design.now).few_outputs in
    omega arith

pub overflow_cast-price : goal.overflow_cast-price
overflow_cast-price g c =
    let m : Meaning = g.D.Design.meaning c.args.design.now in
    let f = passed_fair m.outputs c.args.prices.now c.requires in
    let n = f.many in
    let most = (f.each c.loop-output.output (omega arith)).most in
    omega arith

pub push_reserved-requires : goal.push_reserved-requires
push_reserved-requires g c =
    let m : Meaning = g.D.Design.meaning c.args.design.now in
    let n = (passed_fair m.outputs c.args.prices.now c.requires).many in
    let few = (g.met.D.Design.sound c.args.design.now).few_outputs in
    let cap = c.loop-output.invariant.0 in
    let count = c.loop-output.invariant.1 in
    omega arith

pub returns-in_err-vector : goal.returns-in_err-vector
returns-in_err-vector g c =
    let m : Meaning = g.D.Design.meaning c.args.design.now in
    let n = (passed_fair m.outputs c.args.prices.now c.requires).many in
    let inside : c.loop-output.output < m.outputs = omega arith in
    absurd (never_refused m c.loop-output.output c.in_err-vector.field-0.0 inside c.in_err-vector.ensures.answer)

pub loop-output-preserved : goal.loop-output-preserved
loop-output-preserved g c =
    let m : Meaning = g.D.Design.meaning c.args.design.now in
    let n = (passed_fair m.outputs c.args.prices.now c.requires).many in
    let inside : c.loop-output.output < m.outputs = omega arith in
    let found = found_told m c.loop-output.output c.in_ok-vector.field-0 inside c.in_ok-vector.ensures.answer in
    let a : Account = record { price = get_or c.args.prices.now c.loop-output.output 0; vector = c.in_ok-vector.field-0.vector; wrong = c.in_ok-vector.field-0.wrong; taken = false } in
    let items : vec_items c.push_reserved.new.self ≡ vec_items c.loop-output.accounts ++ a ∷ [] = c.push_reserved.ensures.items in
    let room = c.push_reserved.ensures.capacity in
    let cap = c.loop-output.invariant.0 in
    let count = c.loop-output.invariant.1 in (
      omega arith,
      ap length items ∙ length_push (vec_items c.loop-output.accounts) a ∙ ap (λ k. k + 1) count,
      λ limit outside o less.
          rw items
          (more_accounts (terms m limit c.args.prices.now) (vec_items c.loop-output.accounts) a outside c.loop-output.output count
          (c.loop-output.invariant.2 limit outside)
          (record {
            priced = refl;
            vector = found.0;
            errors = found.1;
            moved = sym (nothing_taken c.loop-output.output);
          })
          o less),
    )

pub returns : goal.returns
returns g c =
    let m : Meaning = g.D.Design.meaning c.args.design.now in
    let n = (passed_fair m.outputs c.args.prices.now c.requires).many in
    let count = c.loop-output.invariant.1 in
    let end : c.loop-output.output ≡ m.outputs = omega arith in
    record {
      outputs = count ∙ end;
      each = λ limit outside o inside. c.loop-output.invariant.2 limit outside o (omega arith);
    }
