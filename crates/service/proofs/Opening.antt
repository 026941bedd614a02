-- What is opened: an account for each output, and costs that are sayable.
use Rattle.std.proofs.Common.{◌≡◌, ℕ, zero, suc, ◌+◌, ◌-◌, ◌*◌, ◌^◌, ◌<◌, ◌≤◌, false, ltb, List, [], ◌∷◌, ◌++◌, length, get_or, Ok, Err, vec_items, sym, refl, ap, ◌∙◌, ⊎_elim, mul-le-mul, arith, pow_mono}
use Rattle.std.proofs.lemmas.List.{get_or_at, get_or_append_left}
use Rattle.std.proofs.lemmas.Bool.{cases_lt, cond-true, cond-false, lt-ltb, le-ltb}
use Rattle.refusal.specs.declared.table.Refusal.{Refusal}
use Rattle.refusal.specs.declared.table.Refusal.TheVariants.{NoOutput, CostTooLarge}
use Rattle.rows.specs.Rows.{sum_below}
use Rattle.design.specs.declared.size.Size.{Size}
use Rattle.design.specs.Meaning.{Meaning, Sound, sized}
use Rattle.symmetric.specs.declared.found.Nearest.{Nearest}
use Rattle.symmetric.specs.Vectors.{held}
use Rattle.symmetric.specs.Nearest.{Found, told_nearest, nearest_to, bits, wrong}
use Rattle.symmetric.proofs.Closest.{closest}
use Rattle.commands.specs.Rules.{taken, spent}
use Rattle.rules.specs.Rules.{Terms, account}
use Rattle.service.specs.declared.account.Account.{Account}
use Rattle.service.specs.declared.ledger.Ledger.{Ledger}
use Rattle.service.specs.Booked.{Accounted, Booked}
use Rattle.service.specs.Opening.{priced, costs_below, opened, AllAccounts}
use Rattle.service.proofs.Prices.{priced_small}

-- no cost is above 255 × 32,768
pub cost_small : (t : Terms) (o : ℕ) → Sound t.meaning → priced t.meaning.outputs t.prices ≡ Ok tt → (account t).cost o ≤ 8355840
cost_small t o sound fine =
    let few = sound.few_inputs in
    let half = (closest t.meaning o).half in
    let light : t.meaning.inputs - 1 ≤ 15 = omega arith in
    let power : 2 ^ (t.meaning.inputs - 1) ≤ 2 ^ 15 = pow_mono light in
    let small : wrong t.meaning o ≤ 32768 = omega arith in
    let m : get_or t.prices o 0 * wrong t.meaning o ≤ 255 * 32768 = mul-le-mul (priced_small _ _ fine o) small in
    omega arith

costs_small : (k : ℕ) (f : ℕ → ℕ) → ((o : ℕ) → f o ≤ 8355840) → sum_below k f ≤ k * 8355840
unfolding sum_below
costs_small zero f small = omega arith
costs_small (suc k) f small = let ih = costs_small k f small in let s = small k in omega arith

-- so all of them together are sayable in 32 bits
pub costs_sayable : (t : Terms) → Sound t.meaning → priced t.meaning.outputs t.prices ≡ Ok tt → costs_below t t.meaning.outputs ≤ 4294967295
unfolding costs_below
costs_sayable t sound fine =
    let few = sound.few_outputs in
    let small = costs_small t.meaning.outputs (account t).cost (λ o. cost_small t o sound fine) in
    omega arith

-- prices that the code passes
pub passed : (m : Meaning) (prices : List ℕ) (size : Size) → Ok tt ≡ priced size.outputs prices → size ≡ sized m → priced m.outputs prices ≡ Ok tt
passed m prices size e q = sym (e ∙ ap (λ (s : Size). priced s.outputs prices) q)

-- and the prices alone decide
pub prices_decide : (t : Terms) → Sound t.meaning → priced t.meaning.outputs t.prices ≡ Ok tt → opened t ≡ Ok tt
prices_decide t sound fine =
    rw fine (cond-false (ltb 4294967295 (costs_below t t.meaning.outputs)) (Err CostTooLarge) (Ok tt) (le-ltb _ _ (costs_sayable t sound fine)))

pub prices_refuse : (t : Terms) (why : Refusal) → priced t.meaning.outputs t.prices ≡ Err why → opened t ≡ Err why
prices_refuse t why e = rw e refl

-- what is found of an output that is there
pub found_told : (m : Meaning) (o : ℕ) (n : Nearest) → o < m.outputs → told_nearest (Ok n) ≡ nearest_to m o
    → (held n.vector ≡ record { inputs = m.inputs; bits = bits m o }) × (n.wrong ≡ wrong m o)
found_told m o n inside e =
    let f = e ∙ cond-true (ltb o m.outputs) (Ok (record { vector = record { inputs = m.inputs; bits = bits m o }; wrong = wrong m o })) (Err NoOutput) (lt-ltb _ _ inside) in
    let same : ◌≡◌ {A = Found} (record { vector = held n.vector; wrong = n.wrong }) (record { vector = record { inputs = m.inputs; bits = bits m o }; wrong = wrong m o }) = cc in
    (ap (λ x. x.vector) same, ap (λ x. x.wrong) same)

pub never_refused : (m : Meaning) (o : ℕ) (why : Refusal) → o < m.outputs → told_nearest (Err why) ≡ nearest_to m o → ⊥
never_refused m o why inside e = let f = e ∙ cond-true _ _ _ (lt-ltb _ _ inside) in cc

pub nothing_taken : (o : ℕ) → taken [] o ≡ false
unfolding taken
nothing_taken o = refl

-- one account more
pub more_accounts : (t : Terms) (accounts : List Account) (a outside : Account) (k : ℕ) → length accounts ≡ k
    → ((o : ℕ) → o < k → Accounted t [] o (get_or accounts o outside)) → Accounted t [] k a
    → (o : ℕ) → o < k + 1 → Accounted t [] o (get_or (accounts ++ a ∷ []) o outside)
more_accounts t accounts a outside k n each last o inside =
    ⊎_elim
    (λ less. rw (get_or_append_left accounts (a ∷ []) outside o (omega arith)) (each o less))
    (λ more. let same : o ≡ k = omega arith in rw (same, get_or_at accounts a [] outside k n) last)
    (cases_lt o k)

pub no_spending : spent [] ≡ 0
unfolding spent
no_spending = refl

-- the ledger that is opened with says what the rules say at no lines
pub first_books : (t : Terms) (ledger : Ledger) → Sound t.meaning → priced t.meaning.outputs t.prices ≡ Ok tt → AllAccounts t.meaning t.prices (vec_items ledger.accounts)
    → ledger.limit ≡ t.limit → ledger.spent ≡ 0 → Booked t [] ledger
first_books t ledger sound fine all limit none = record {
  outputs = all.outputs;
  accounts = λ outside o inside. all.each t.limit outside o inside;
  limited = limit;
  spends = none ∙ sym no_spending;
  cheap = λ o inside. let s = cost_small t o sound fine in omega arith;
}
