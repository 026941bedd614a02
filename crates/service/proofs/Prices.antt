-- The prices tried one after another, and what passing or refusing them says.
use Rattle.std.proofs.Common.{◌≡◌, ℕ, zero, suc, ◌+◌, ◌<◌, ◌≤◌, Bool, true, false, not, cond, ◌&&◌, ltb, leb, List, [], ◌∷◌, length, get_or, drop, position, Some, None, Option, Ok, Err, Result, sym, refl, ap₂, ◌∙◌, subst, ⊎_elim, add-zero, zero-add, arith}
use Rattle.std.specs.List.{position_from, enumerate_from}
use Rattle.std.proofs.lemmas.Iterator.Adapters.{position_from-zero}
use Rattle.std.proofs.lemmas.List.{at_drop_more, at_drop_all, get_or_past}
use Rattle.std.proofs.lemmas.Bool.{and_parts, and_cases, cases_lt, ltb-true, ltb-false, leb-true, leb-false}
use Rattle.refusal.specs.declared.table.Refusal.{Refusal}
use Rattle.refusal.specs.declared.table.Refusal.TheVariants.{BadPrice}
use Rattle.service.specs.Opening.{fair, priced_from, priced}
use Rattle.service.specs.Prices.{FairAt, AllFair, BadAt, BadAt.missing, BadAt.surplus, BadAt.zero_price, BadAt.above_255, PricedSays}

pub price_step : (outputs : ℕ) (prices : List ℕ) (k : ℕ) → k < length prices
    → priced_from outputs k (drop k prices) ≡ cond (fair outputs k (get_or prices k 0)) (priced_from outputs (k + 1) (drop (k + 1) prices)) (Err (BadPrice k))
unfolding priced_from
price_step outputs prices k inside = at_drop_more (priced_from outputs k) prices k 0 inside

pub price_end : (outputs : ℕ) (prices : List ℕ) (k : ℕ) → length prices ≤ k → priced_from outputs k (drop k prices) ≡ cond (ltb k outputs) (Err (BadPrice k)) (Ok tt)
unfolding priced_from
price_end outputs prices k outside = at_drop_all (priced_from outputs k) prices k outside

-- a position that was passed
fair_told : (outputs : ℕ) (prices : List ℕ) (k : ℕ) → k < length prices → fair outputs k (get_or prices k 0) ≡ true → FairAt outputs prices k
fair_told outputs prices k inside e =
    let f = and_parts (ltb k outputs) (leb 1 (get_or prices k 0) && leb (get_or prices k 0) 255) e in
    let q = and_parts (leb 1 (get_or prices k 0)) (leb (get_or prices k 0) 255) f.1 in
    record { output = ltb-true _ _ f.0; given = inside; least = leb-true _ _ q.0; most = leb-true _ _ q.1 }

-- and one that was refused
bad_told : (outputs : ℕ) (prices : List ℕ) (k : ℕ) → k < length prices → fair outputs k (get_or prices k 0) ≡ false → BadAt outputs prices k
bad_told outputs prices k inside e =
    ⊎_elim
    (λ out. surplus inside (ltb-false _ _ out))
    (λ price. ⊎_elim
    (λ low. let l = leb-false 1 (get_or prices k 0) low in zero_price inside (omega arith))
    (λ high. above_255 inside (leb-false (get_or prices k 0) 255 high))
    (and_cases (leb 1 (get_or prices k 0)) (leb (get_or prices k 0) 255) price))
    (and_cases (ltb k outputs) (leb 1 (get_or prices k 0) && leb (get_or prices k 0) 255) e)

-- what is said from a position on, where all before it are fair
said_from : (outputs : ℕ) (prices : List ℕ) (left k : ℕ) → k + left ≡ length prices → k ≤ outputs → ((i : ℕ) → i < k → FairAt outputs prices i)
    → PricedSays outputs prices (priced_from outputs k (drop k prices))
said_from outputs prices zero k n few before = rw (price_end outputs prices k (omega arith)) (go (ltb k outputs) refl)
  where
    go : (short : Bool) → ltb k outputs ≡ short → PricedSays outputs prices (cond short (Err (BadPrice k)) (Ok tt))
    go true s = record { position = k; names = refl; before = before; bad = missing (omega arith) (ltb-true _ _ s) }
    go false s =
        let enough = ltb-false k outputs s in
        record { many = omega arith; each = λ i inside. before i (omega arith) }
said_from outputs prices (suc left) k n few before =
    rw (price_step outputs prices k (omega arith))
    (go (fair outputs k (get_or prices k 0)) refl
    (λ here. let l = here.output in said_from outputs prices left (k + 1) (omega arith) (omega arith) (more here)))
  where
    more : FairAt outputs prices k → (i : ℕ) → i < k + 1 → FairAt outputs prices i
    more here i less = ⊎_elim (λ below. before i below) (λ above. let same : i ≡ k = omega arith in rw same here) (cases_lt i k)

    go : (fits : Bool) → fair outputs k (get_or prices k 0) ≡ fits → (FairAt outputs prices k → PricedSays outputs prices (priced_from outputs (k + 1) (drop (k + 1) prices)))
        → PricedSays outputs prices (cond fits (priced_from outputs (k + 1) (drop (k + 1) prices)) (Err (BadPrice k)))
    go true f later = later (fair_told outputs prices k (omega arith) f)
    go false f later = record { position = k; names = refl; before = before; bad = bad_told outputs prices k (omega arith) f }

-- what passing or refusing the prices says
pub priced_says : (outputs : ℕ) (prices : List ℕ) → PricedSays outputs prices (priced outputs prices)
priced_says outputs prices = said_from outputs prices (length prices) 0 (omega arith) (omega arith) (λ i none. absurd (omega arith))

-- prices that pass are fair
pub passed_fair : (outputs : ℕ) (prices : List ℕ) → priced outputs prices ≡ Ok tt → AllFair outputs prices
passed_fair outputs prices e = subst (λ (r : Result (Unit {0}) Refusal). PricedSays outputs prices r) e (priced_says outputs prices)

-- nor is any past them above 255
pub priced_small : (outputs : ℕ) (prices : List ℕ) → priced outputs prices ≡ Ok tt → (k : ℕ) → get_or prices k 0 ≤ 255
priced_small outputs prices e k =
    let f = passed_fair outputs prices e in
    ⊎_elim (λ there. (f.each k (omega (arith, f.many))).most) (λ past. rw (get_or_past prices k 0 past) (omega arith)) (cases_lt k (length prices))

-- a position is surplus, or its price is not 1 to 255
abbrev pub unfair : ℕ → ℕ × ℕ → Bool
unfair outputs p = not (fair outputs p.0 p.1)

-- what the first such position says, or that there is none before the end
abbrev pub judged : ℕ → ℕ → Option ℕ → Result (Unit {0}) Refusal
judged outputs end (Some k) = Err (BadPrice k)
judged outputs end None = cond (ltb end outputs) (Err (BadPrice end)) (Ok tt)

judged_from : (outputs k : ℕ) (prices : List ℕ) → priced_from outputs k prices ≡ judged outputs (k + length prices) (position_from (unfair outputs) k (enumerate_from k prices))
unfolding priced_from
judged_from outputs k [] = rw add-zero refl
judged_from outputs k (p ∷ later) = go (fair outputs k p) (judged_from outputs (k + 1) later)
  where
    go : (here : Bool) → priced_from outputs (k + 1) later ≡ judged outputs (k + 1 + length later) (position_from (unfair outputs) (k + 1) (enumerate_from (k + 1) later))
        → cond here (priced_from outputs (k + 1) later) (Err (BadPrice k)) ≡ judged outputs (k + length (p ∷ later)) (cond (not here) (Some k) (position_from (unfair outputs) (k + 1) (enumerate_from (k + 1) later)))
    go true e = let n : k + 1 + length later ≡ k + length (p ∷ later) = omega arith in rw (← n) e
    go false e = refl

-- the prices are judged by that position
pub judged_whole : (outputs : ℕ) (prices : List ℕ) → priced outputs prices ≡ judged outputs (length prices) (position (unfair outputs) (enumerate_from 0 prices))
judged_whole outputs prices =
    judged_from outputs 0 prices
    ∙ ap₂ (judged outputs) (zero-add (length prices)) (sym (position_from-zero (unfair outputs) (enumerate_from 0 prices)))
