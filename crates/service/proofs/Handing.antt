-- What is told of an account is what the rules say of its output.
use Rattle.std.proofs.Common.{◌≡◌, ℕ, ◌^◌, ◌<◌, Bool, true, false, cond, ltb, List, ◌++◌, length, drop, Ok, Err, vec_items, Result, sym, refl, ap, ◌∙◌, ap₂, arith}
use lib.Count.{ones}
use Rattle.std.proofs.lemmas.List.{take_at}
use Rattle.std.proofs.lemmas.Bool.{cond-true, cond-false, ltb-true, lt-ltb}
use Rattle.std.proofs.lemmas.Bool.Decides.{nat_tests}
use Rattle.refusal.specs.declared.table.Refusal.{Refusal}
use Rattle.refusal.specs.declared.table.Refusal.TheVariants.{NoOutput, NodesShort}
use Rattle.design.specs.declared.size.Size.{Size}
use Rattle.design.specs.Meaning.{at_row, sized}
use Rattle.diagram.specs.declared.node.Node.{Node}
use Rattle.symmetric.specs.Vectors.{value, held}
use Rattle.symmetric.specs.Nearest.{bits}
use Rattle.drawing.specs.declared.drawn.Drawn.{Drawn}
use Rattle.drawing.specs.Pieces.{Drawing, drawing_of, draw_answer, drawn_over}
use Rattle.drawing.specs.Reduced.{marked}
use Rattle.commands.specs.declared.command.Line.{Line}
use Rattle.commands.specs.Rules.{taken}
use Rattle.rules.specs.declared.call.Call.TheVariants.{Read, Draw}
use Rattle.rules.specs.Rules.{Terms, marks, draws, refused, reply, drawing, in_room}
use Rattle.service.specs.declared.account.Account.{Account}
use Rattle.service.specs.declared.ledger.Ledger.{Ledger}
use Rattle.service.specs.Books.{no_account, account_of, account_at}
use Rattle.service.specs.Booked.{Accounted, Booked}
use Rattle.service.specs.Replies.{said_drawn, lent_after}

-- an account that is found is that of an output that is there
pub account_told : (t : Terms) (lines : List Line) (ledger : Ledger) (o : ℕ) (a : Account) → Booked t lines ledger → Ok a ≡ account_at ledger o
    → (o < t.meaning.outputs) × Accounted t lines o a
account_told t lines ledger o a b e = go (ltb o (length (vec_items ledger.accounts))) refl
  where
    go : (inside : Bool) → ltb o (length (vec_items ledger.accounts)) ≡ inside → (o < t.meaning.outputs) × Accounted t lines o a
    go false i = let f = e ∙ cond-false (ltb o (length (vec_items ledger.accounts))) (Ok (account_of ledger o)) (Err NoOutput) i in absurd cc
    go true i =
        let l = ltb-true _ _ i in
        let n = b.outputs in
        let inside : o < t.meaning.outputs = omega arith in
        let f = e ∙ cond-true (ltb o (length (vec_items ledger.accounts))) (Ok (account_of ledger o)) (Err NoOutput) i in
        let same : a ≡ account_of ledger o = cc in
        (inside, rw same (b.accounts no_account o inside))

-- a row that is not refused is there
pub row_told : (size : Size) (o r : ℕ) → ◌≡◌ {A = Result (Unit {0}) Refusal} (Ok tt) (at_row size o r tt) → r < 2 ^ size.inputs
row_told size o r e = grind (arith, nat_tests)

-- the mark of a taken output
pub taken_read : (t : Terms) (lines : List Line) (o r : ℕ) (a : Account) (passes : Bool) → o < t.meaning.outputs → Accounted t lines o a → a.taken ≡ true
    → r < 2 ^ t.meaning.inputs → value a.vector.bits (ones r) ≡ passes → marks (marked passes) ≡ reply t lines (Read o r)
taken_read t lines o r a passes inside h held_out row e =
    let same : a.vector.bits ≡ bits t.meaning o = ap (λ v. v.bits) h.vector in
    ap (λ b. marks (marked b)) (sym e ∙ ap (λ v. value v (ones r)) same)
    ∙ ap marks (sym (cond-true (taken lines o) _ (t.meaning.mark o r) (sym h.moved ∙ held_out)))
    ∙ sym (cond-true _ _ _ (lt-ltb _ _ inside) ∙ cond-true _ _ _ (lt-ltb _ _ row))

-- of the account that was found, at a row that was not refused
pub read_told : (t : Terms) (lines : List Line) (ledger : Ledger) (o r : ℕ) (a : Account) (size : Size) (passes : Bool) → Booked t lines ledger → Ok a ≡ account_at ledger o
    → a.taken ≡ true → size ≡ sized t.meaning → ◌≡◌ {A = Result (Unit {0}) Refusal} (Ok tt) (at_row size o r tt) → value a.vector.bits (ones r) ≡ passes
    → marks (marked passes) ≡ reply t lines (Read o r)
read_told t lines ledger o r a size passes b found held_out q there e =
    let p = account_told t lines ledger o a b found in
    let row = rw (ap (λ (s : Size). s.inputs) q) at (row_told size o r there) in
    taken_read t lines o r a passes p.0 p.1 held_out row e

-- the drawing in a buffer, and what it says
draw_said : (d : Drawing) (buffer after : List Node) (r : Result Drawn Refusal) → r ≡ draw_answer d (length buffer) → after ≡ drawn_over d buffer
    → said_drawn r after ≡ in_room d (length buffer)
draw_said d buffer after r answer over = ap₂ said_drawn answer over ∙ go (ltb (length buffer) (length d.nodes))
  where
    rest : List Node
    rest = drop (length d.nodes) buffer

    go : (short : Bool) → said_drawn (cond short (Err (NodesShort (length d.nodes))) (Ok (record { count = length d.nodes; root = d.root }))) (cond short buffer (d.nodes ++ rest))
        ≡ cond short (refused (NodesShort (length d.nodes))) (draws d.root d.nodes)
    go true = refl
    go false = ap (draws d.root) (take_at d.nodes rest (length d.nodes) refl)

-- the drawing of a taken output, and the buffer after it
pub taken_draw : (t : Terms) (lines : List Line) (o : ℕ) (a : Account) (buffer after : List Node) (r : Result Drawn Refusal) → o < t.meaning.outputs
    → Accounted t lines o a → a.taken ≡ true → r ≡ draw_answer (drawing_of (held a.vector)) (length buffer) → after ≡ drawn_over (drawing_of (held a.vector)) buffer
    → (said_drawn r after ≡ reply t lines (Draw o (length buffer))) × (after ≡ lent_after t lines o buffer)
taken_draw t lines o a buffer after r inside h held_out answer over =
    let same : drawing_of (held a.vector) ≡ drawing t o = ap drawing_of h.vector in
    let out = sym h.moved ∙ held_out in
    let over-rules : after ≡ drawn_over (drawing t o) buffer = over ∙ ap (λ d. drawn_over d buffer) same in (
      draw_said (drawing t o) buffer after r (answer ∙ ap (λ d. draw_answer d (length buffer)) same) over-rules
          ∙ sym (cond-true _ _ _ (lt-ltb _ _ inside) ∙ cond-true _ _ _ out),
      over-rules ∙ sym (cond-true _ _ _ (lt-ltb _ _ inside) ∙ cond-true _ _ _ out),
    )
