-- The values of a sheet, checked one by one.
use Rattle.std.proofs.Common.{◌≡◌, ℕ, ◌+◌, ◌≤◌, true, ◌&&◌, leb, List, [], ◌∷◌, length, Ok, Result, sym, refl, ap, ◌∙◌, arith}
use Rattle.std.proofs.lemmas.Bool.{and_from, and_parts, le-leb, leb-true}
use Rattle.refusal.specs.declared.table.Refusal.{Refusal}
use Rattle.burn.specs.Blocks.{then, field}
use Rattle.burn.specs.Rules.{within, vector_fits, wrong_fits, entry_keeps, entries_keep, entry_checked, entries_checked, keeps, agreed}
use Rattle.burn.specs.declared.entry.Entry.{Entry}
use Rattle.burn.proofs.Loads.{same_value, then_ok, field_ok, agreed_ok}

-- what is left to check, by what the next output answered
pub checks_by : (inputs from b next : ℕ) (e : Entry) (es rest : List Entry) (r : Result (Unit {0}) Refusal) → b ≡ from → next ≡ b + 1 → es ≡ e ∷ rest → r ≡ entry_checked inputs b e → entries_checked inputs from es ≡ then r (λ _. entries_checked inputs next rest)
unfolding entries_checked
checks_by inputs from b next e es rest r f n l q =
    ap (λ k. entries_checked inputs k es) (sym f) ∙ (ap (entries_checked inputs b) l
    ∙ (ap (λ x. then x (λ _. entries_checked inputs (b + 1) rest)) (sym q) ∙ ap (λ k. then r (λ _. entries_checked inputs k rest)) (sym n)))

-- nothing left
pub checks_all : (inputs b : ℕ) (es : List Entry) → length es ≡ 0 → entries_checked inputs b es ≡ Ok tt
unfolding entries_checked
checks_all inputs b [] h = refl
checks_all inputs b (e ∷ es) h = absurd (omega arith)

-- an output that was passed keeps its rules, and so do all of them
pub entry_passed : (inputs b : ℕ) (e : Entry) → entry_checked inputs b e ≡ Ok tt → entry_keeps inputs e ≡ true
entry_passed inputs b e q =
    let wrong = wrong_fits inputs e.wrong in
    let vector = vector_fits inputs e.vector in
    let f2 = field_ok b 2 (leb 1 e.price) (field b 4 vector (field b 8 wrong (Ok tt))) tt q in
    let f4 = field_ok b 4 vector (field b 8 wrong (Ok tt)) tt f2.1 in
    let f8 = field_ok b 8 wrong (Ok tt) tt f4.1 in
    and_from (leb 1 e.price) (vector && wrong) f2.0 (and_from vector wrong f4.0 f8.0)

pub entries_passed : (inputs b : ℕ) (es : List Entry) → entries_checked inputs b es ≡ Ok tt → entries_keep inputs es ≡ true
unfolding entries_checked entries_keep
entries_passed inputs b [] q = refl
entries_passed inputs b (e ∷ es) q =
    let p = then_ok (entry_checked inputs b e) _ tt q in
    and_from _ _ (entry_passed inputs b e p.1) (entries_passed inputs (b + 1) es p.2)

-- values that were passed are those of a sheet
pub values_kept : (inputs limit spent n count : ℕ) (es xs : List Entry) (u v : Unit {0}) → Ok inputs ≡ field 0 2 (within 1 16 count) (Ok count) → n ≡ length es → 1 ≤ n → n ≤ 8 → xs ≡ es → Ok u ≡ entries_checked inputs 1 xs → Ok v ≡ agreed n (length xs) limit spent xs → keeps inputs limit spent es ≡ true
values_kept inputs limit spent n count es xs u v f l n1 n8 e p q =
    let i = field_ok 0 2 (within 1 16 count) (Ok count) inputs (sym f) in
    let k = entries_passed inputs 1 es (ap (entries_checked inputs 1) (sym e) ∙ sym p) in
    let g = agreed_ok n (length es) limit spent es (ap (λ zs. agreed n (length zs) limit spent zs) (sym e) ∙ sym q) in
    let w : within 1 8 (length es) ≡ true = ap (within 1 8) (sym l) ∙ and_from _ _ (le-leb 1 n n1) (le-leb n 8 n8) in
    and_from _ _ (ap (within 1 16) (sym (same_value i.1)) ∙ i.0) (and_from _ _ w (and_from _ _ k (and_from _ _ g.1 g.2)))

-- a sheet has 1 to 8 outputs
pub few_entries : (inputs limit spent : ℕ) (es : List Entry) → keeps inputs limit spent es ≡ true → (1 ≤ length es) × (length es ≤ 8)
few_entries inputs limit spent es k =
    let w = (and_parts (within 1 8 (length es)) _ (and_parts (within 1 16 inputs) _ k).1).0 in
    let p = and_parts (leb 1 (length es)) (leb (length es) 8) w in (leb-true 1 (length es) p.0, leb-true (length es) 8 p.1)

-- and 1 to 16 inputs
pub few_inputs : (inputs limit spent : ℕ) (es : List Entry) → keeps inputs limit spent es ≡ true → (1 ≤ inputs) × (inputs ≤ 16)
few_inputs inputs limit spent es k =
    let p = and_parts (leb 1 inputs) (leb inputs 16) (and_parts (within 1 16 inputs) _ k).0 in (leb-true 1 inputs p.0, leb-true inputs 16 p.1)
