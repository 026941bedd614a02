-- The entries of a service keep the rules of a burn sheet.
use Rattle.std.proofs.Common.{◌≡◌, ℕ, zero, suc, ◌+◌, ◌-◌, ◌/◌, ◌^◌, ◌<◌, ◌≤◌, Bool, true, cond, ◌&&◌, eqb, leb, List, [], ◌∷◌, ◌++◌, map, length, get_or, Ok, Err, vec_items, Result, sym, refl, ap, ◌∙◌, ⊎_elim, add-zero, add_assoc, zero-add, arith}
use native.Mathlib.Nat.{div-eq_of_lt}
use Rattle.std.proofs.lemmas.List.{length_push, length-map, get_or-map, get_or_append_left, get_or_at, ext_get_or}
use Rattle.std.proofs.lemmas.Bool.{eq-eqb, le-leb, and_from, and_parts, cases_order}
use Rattle.refusal.specs.declared.table.Refusal.{Refusal}
use Rattle.rows.specs.Rows.{sum_below}
use Rattle.design.specs.declared.size.Size.{Size}
use Rattle.design.specs.Meaning.{Meaning, Sound, sized}
use Rattle.symmetric.specs.Vectors.{Values}
use Rattle.symmetric.specs.Nearest.{bits, wrong}
use Rattle.symmetric.proofs.Closest.{closest}
use Rattle.burn.specs.declared.entry.Entry.{Entry}
use Rattle.burn.specs.declared.sheet.Sheet.{Sheet}
use Rattle.burn.specs.Files.{Contents, no_entry, checked, told}
use Rattle.burn.specs.Rules.{within, vector_fits, wrong_fits, entry_keeps, entries_keep, cost, costs}
use Rattle.burn.proofs.RoundTrip.{checked_kept}
use Rattle.commands.specs.declared.command.Line.{Line}
use Rattle.commands.specs.Rules.{taken, spent}
use Rattle.commands.specs.Promise.{Kept}
use Rattle.rules.specs.Rules.{Terms, price, account}
use Rattle.service.specs.declared.account.Account.{Account}
use Rattle.service.specs.declared.ledger.Ledger.{Ledger}
use Rattle.service.specs.Books.{no_account}
use Rattle.service.specs.Booked.{Accounted, Booked}
use Rattle.service.specs.Opening.{priced, costed, opened, costs_below as all_costs}
use Rattle.service.specs.Stands.{terms_in, Stands}
use Rattle.service.proofs.Prices.{passed_fair}
use Rattle.service.specs.Sheets.{entry_of, entries_below, sheet_of, entry_from}

-- each output has a price of 1 to 255
abbrev Priced : Terms → Type 0
Priced t = (o : ℕ) → o < t.meaning.outputs → (1 ≤ price t o) × (price t o ≤ 255)

prices_passed : (r : Result (Unit {0}) Refusal) (total : ℕ) → costed r total ≡ Ok tt → r ≡ Ok tt
prices_passed (Ok tt) total q = refl
prices_passed (Err why) total q = cc

opened_priced : (t : Terms) → opened t ≡ Ok tt → Priced t
opened_priced t q o h =
    let p = prices_passed (priced t.meaning.outputs t.prices) (all_costs t t.meaning.outputs) q in
    let fair_here = (passed_fair t.meaning.outputs t.prices p).each o h in
    (fair_here.least, fair_here.most)

pub length_below : (t : Terms) (lines : List Line) (k : ℕ) → length (entries_below t lines k) ≡ k
unfolding entries_below
length_below t lines zero = refl
length_below t lines (suc k) = length_push (entries_below t lines k) (entry_of t lines k) ∙ (let i = length_below t lines k in omega arith)

-- one entry more at the end
keep_push : (n : ℕ) (es : List Entry) (e : Entry) → entries_keep n es ≡ true → entry_keeps n e ≡ true → entries_keep n (es ++ e ∷ []) ≡ true
unfolding entries_keep
keep_push n [] e k h = and_from (entry_keeps n e) true h refl
keep_push n (x ∷ es) e k h = let p = and_parts (entry_keeps n x) (entries_keep n es) k in and_from (entry_keeps n x) (entries_keep n (es ++ e ∷ [])) p.0 (keep_push n es e p.1 h)

costs_push : (es : List Entry) (e : Entry) → costs (es ++ e ∷ []) ≡ costs es + cost e
unfolding costs
costs_push [] e = add-zero (cost e) ∙ sym (zero-add (cost e))
costs_push (x ∷ es) e = ap (λ n. cost x + n) (costs_push es e) ∙ sym (add_assoc (cost x) (costs es) (cost e))

-- an output's own entry keeps its rules
one_keeps : (t : Terms) (lines : List Line) (o : ℕ) → Priced t → o < t.meaning.outputs → entry_keeps t.meaning.inputs (entry_of t lines o) ≡ true
one_keeps t lines o p h =
    let c = closest t.meaning o in
    let z : bits t.meaning o / 2 ^ (t.meaning.inputs + 1) ≡ 0 = div-eq_of_lt c.fits in
    and_from (leb 1 (price t o)) (vector_fits t.meaning.inputs (bits t.meaning o) && wrong_fits t.meaning.inputs (wrong t.meaning o)) (le-leb 1 (price t o) (p o h).0)
    (and_from (vector_fits t.meaning.inputs (bits t.meaning o)) (wrong_fits t.meaning.inputs (wrong t.meaning o)) (eq-eqb _ 0 z) (le-leb (wrong t.meaning o) (2 ^ (t.meaning.inputs - 1)) c.half))

all_keep : (t : Terms) (lines : List Line) (k : ℕ) → Priced t → k ≤ t.meaning.outputs → entries_keep t.meaning.inputs (entries_below t lines k) ≡ true
unfolding entries_below entries_keep
all_keep t lines zero p h = refl
all_keep t lines (suc k) p h = keep_push t.meaning.inputs (entries_below t lines k) (entry_of t lines k) (all_keep t lines k p (omega arith)) (one_keeps t lines k p (omega arith))

costs_below : (t : Terms) (lines : List Line) (k : ℕ) → costs (entries_below t lines k) ≡ sum_below k (λ o. cond (taken lines o) ((account t).cost o) 0)
unfolding entries_below costs sum_below
costs_below t lines zero = refl
costs_below t lines (suc k) = costs_push (entries_below t lines k) (entry_of t lines k) ∙ ap (λ n. n + cost (entry_of t lines k)) (costs_below t lines k)

-- so a sheet can be made of them
pub sheet_kept : (t : Terms) (lines : List Line) → Sound t.meaning → Priced t → Kept (account t) lines → checked (sheet_of t lines) ≡ Ok (sheet_of t lines)
sheet_kept t lines s p k =
    let es = entries_below t lines t.meaning.outputs in
    let l = length_below t lines t.meaning.outputs in
    let n : within 1 16 t.meaning.inputs ≡ true = and_from (leb 1 t.meaning.inputs) (leb t.meaning.inputs 16) (le-leb 1 _ s.some_inputs) (le-leb _ 16 s.few_inputs) in
    let m : within 1 8 (length es) ≡ true = ap (within 1 8) l ∙ and_from (leb 1 t.meaning.outputs) (leb t.meaning.outputs 8) (le-leb 1 _ s.some_outputs) (le-leb _ 8 s.few_outputs) in
    let e : eqb (spent lines) (costs es) ≡ true = eq-eqb _ _ (k.sum ∙ sym (costs_below t lines t.meaning.outputs)) in
    let w : leb (spent lines) t.limit ≡ true = le-leb _ _ k.within in
    checked_kept (sheet_of t lines) (and_from _ _ n (and_from _ _ m (and_from _ _ (all_keep t lines t.meaning.outputs p (omega arith)) (and_from _ _ e w))))

-- the entry at a place
at_below : (t : Terms) (lines : List Line) (k o : ℕ) → o < k → get_or (entries_below t lines k) o no_entry ≡ entry_of t lines o
unfolding entries_below
at_below t lines zero o h = absurd (omega arith)
at_below t lines (suc k) o h =
    let l = length_below t lines k in
    ⊎_elim (λ e. get_or_at (entries_below t lines k) (entry_of t lines k) [] no_entry o (l ∙ sym e) ∙ ap (entry_of t lines) (sym e))
    (⊎_elim (λ w. get_or_append_left (entries_below t lines k) (entry_of t lines k ∷ []) no_entry o (omega arith) ∙ at_below t lines k o w) (λ w. absurd (omega arith))) (cases_order o k)

abbrev entry : ℕ → Bool → ℕ → ℕ → Entry
entry p k v w = record { price = p; taken = k; vector = v; wrong = w }

same_fields : {p q v x w y : ℕ} {j k : Bool} → p ≡ q → j ≡ k → v ≡ x → w ≡ y → entry p j v w ≡ entry q k x y
same_fields {p} {q} {v} {x} {w} {y} {j} {k} ep ek ev ew = ap (λ n. entry n j v w) ep ∙ (ap (λ n. entry q n v w) ek ∙ (ap (λ n. entry q k n w) ev ∙ ap (λ n. entry q k x n) ew))

-- an account that says what the rules say has the output's entry
same_entry : (t : Terms) (lines : List Line) (o : ℕ) (a : Account) → Accounted t lines o a → entry_from a ≡ entry_of t lines o
same_entry t lines o a r =
    same_fields r.priced r.moved (ap (λ (x : Values). x.bits) r.vector) r.errors

-- the accounts' entries are those
pub accounts_listed : (t : Terms) (lines : List Line) (ledger : Ledger) → Booked t lines ledger → map entry_from (vec_items ledger.accounts) ≡ entries_below t lines t.meaning.outputs
accounts_listed t lines ledger b =
    let xs = vec_items ledger.accounts in
    let l : length (map entry_from xs) ≡ t.meaning.outputs = length-map xs entry_from ∙ b.outputs in
    ext_get_or no_entry (map entry_from xs) (entries_below t lines t.meaning.outputs) (l ∙ sym (length_below t lines t.meaning.outputs))
    (λ o h. get_or-map entry_from xs o no_account no_entry (omega (arith, b.outputs)) ∙ (same_entry t lines o (get_or xs o no_account) (b.accounts no_account o (omega arith)) ∙ sym (at_below t lines t.meaning.outputs o (omega arith))))

abbrev values : ℕ → ℕ → ℕ → List Entry → Contents
values n l s es = record { inputs = n; limit = l; spent = s; entries = es }

same_values : {n m l k s r : ℕ} {xs ys : List Entry} → n ≡ m → l ≡ k → s ≡ r → xs ≡ ys → values n l s xs ≡ values m k r ys
same_values {n} {m} {l} {k} {s} {r} {xs} {ys} en el es ex = ap (λ x. values x l s xs) en ∙ (ap (λ x. values m x s xs) el ∙ (ap (λ x. values m k x xs) es ∙ ap (λ x. values m k r x) ex))

-- what the code puts together is the sheet of the rules
pub sheet_told : (m : Meaning) (lines : List Line) (ledger : Ledger) (size : Size) (es : List Entry) (r : Result Sheet Refusal) → Sound m → Stands m ledger lines → size ≡ sized m
    → es ≡ map entry_from (vec_items ledger.accounts) → told r ≡ checked (values size.inputs ledger.limit ledger.spent es) → told r ≡ Ok (sheet_of (terms_in m ledger) lines)
sheet_told m lines ledger size es r sound stands q e told_is =
    let t = terms_in m ledger in
    let p = opened_priced t stands.opens in
    let x : es ≡ entries_below t lines m.outputs = e ∙ accounts_listed t lines ledger stands.books in
    told_is ∙ (ap checked (same_values (ap (λ (z : Size). z.inputs) q) refl stands.books.spends x) ∙ sheet_kept t lines sound p stands.kept)
