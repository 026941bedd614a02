use Rattle.std.proofs.Common.{◌≡◌, ◌/◌, ◌^◌, true, false, sym, ap, ◌∙◌, arith}
use lib.Bits.{and_mask}
use lib.Count.{ones}
use Rattle.std.proofs.lemmas.Bool.{eq-eqb, ne_eqb}
use Rattle.std.proofs.lemmas.Nat.{ones-le}
use Rattle.symmetric.specs.Vectors.{value}
use Rattle.service.specs.Holds.{terms_of, lines_of}
use Rattle.service.proofs.Handing.{row_told, read_told}
use Rattle.service.proofs.service.Service.read.Goals as goal

-- a row that is there has no more ones than there are inputs, which are 16 at most
pub overflow_shr-bits : goal.overflow_shr-bits
overflow_shr-bits g c =
    let sound = g.met.D.Design.sound c.args.self.now.design in
    let few = sound.few_inputs in
    let same = ap (λ s. s.inputs) c.size.ensures in
    let weight = ones-le c.size.result.inputs c.args.row (row_told c.size.result c.args.output c.args.row c.in_ok-check_row.ensures) in
    omega arith

pub returns-then-bits-row-eq1 : goal.returns-then-bits-row-eq1
returns-then-bits-row-eq1 g c =
    let s = c.args.self.now in
    let one : value c.bits.result (ones c.args.row) ≡ true = eq-eqb _ _ (sym (and_mask (c.bits.result / 2 ^ ones c.args.row) 1) ∙ c.if-bits-row-eq1.true) in
    read_told (terms_of s) (lines_of s) s.ledger c.args.output c.args.row _ c.size.result true s.stands.books c.in_ok-account.ensures.answer c.if-not-account.false c.size.ensures c.in_ok-check_row.ensures
    (ap (λ b. value b (ones c.args.row)) (sym c.bits.ensures) ∙ one)

pub returns : goal.returns
returns g c =
    let s = c.args.self.now in
    let one : value c.bits.result (ones c.args.row) ≡ false = ne_eqb _ _ (λ e. c.if-bits-row-eq1.false (and_mask (c.bits.result / 2 ^ ones c.args.row) 1 ∙ e)) in
    read_told (terms_of s) (lines_of s) s.ledger c.args.output c.args.row _ c.size.result false s.stands.books c.in_ok-account.ensures.answer c.if-not-account.false c.size.ensures c.in_ok-check_row.ensures
    (ap (λ b. value b (ones c.args.row)) (sym c.bits.ensures) ∙ one)
