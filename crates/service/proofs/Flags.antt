-- The taken set, account by account.
use Rattle.std.proofs.Common.{◌≡◌, ℕ, suc, ◌+◌, ◌*◌, ◌%◌, ◌^◌, ◌<◌, ◌≤◌, Bool, true, false, cond, List, [], ◌∷◌, reverse, length, get_or, bit_or, vec_items, sym, refl, ap, ◌∙◌, arith}
use lib.Bits.{or_shifted}
use Rattle.std.specs.List.{fold}
use Rattle.std.proofs.lemmas.Nat.{shl_whole}
use Rattle.std.proofs.lemmas.List.{reverse-append}
use Rattle.std.proofs.lemmas.List.Sums.{fold-append}
use Rattle.rows.specs.Rows.{sum_below, bit}
use Rattle.rows.proofs.Sums.{sum_cong, sum_first, sum_same, sum_mul}
use Rattle.symmetric.proofs.Bits.{number_fits}
use Rattle.commands.specs.declared.command.Line.{Line}
use Rattle.rules.specs.Rules.{Terms, taken_set}
use Rattle.service.specs.declared.account.Account.{Account}
use Rattle.service.specs.declared.ledger.Ledger.{Ledger}
use Rattle.service.specs.Books.{no_account, flags}
use Rattle.service.specs.Booked.{Booked}

pub flags_fit : (accounts : List Account) (k : ℕ) → flags accounts k < 2 ^ k
unfolding flags
flags_fit accounts k = number_fits (λ o. (get_or accounts o no_account).taken) k

-- the first account has the lowest bit
flags_first : (a : Account) (accounts : List Account) (k : ℕ) → flags (a ∷ accounts) (suc k) ≡ bit a.taken + 2 * flags accounts k
unfolding flags
flags_first a accounts k =
    let first = sum_first k (λ o. bit (get_or (a ∷ accounts) o no_account).taken * 2 ^ o) in
    let twice = sum_same k (λ o. double (get_or accounts o no_account).taken o) in
    let out = sum_mul k 2 (λ o. bit (get_or accounts o no_account).taken * 2 ^ o) in
    omega arith
  where
    double : (b : Bool) (o : ℕ) → bit b * 2 ^ suc o ≡ 2 * (bit b * 2 ^ o)
    double true o = omega arith
    double false o = omega arith

pub flags_none : (accounts : List Account) → flags accounts 0 ≡ 0
unfolding flags sum_below
flags_none accounts = refl

-- a set moved up by one bit, with an account's bit below it
abbrev pub packed : ℕ → Account → ℕ
packed set a = bit_or (set * 2 ^ 1 % 2 ^ 32) (cond a.taken 1 0)

packed_more : (a : Account) (accounts : List Account) → length accounts ≤ 31 → packed (flags accounts (length accounts)) a ≡ flags (a ∷ accounts) (suc (length accounts))
packed_more a accounts few =
    let n = length accounts in
    let whole = shl_whole (flags accounts n) n 1 32 (flags_fit accounts n) (omega arith) in
    let more = flags_first a accounts n in
    rw whole (or_shifted (flags accounts n) 1 (cond a.taken 1 0) (go a.taken).0 ∙ (let e = (go a.taken).1 in omega arith))
  where
    go : (b : Bool) → (cond b 1 0 < 2 ^ 1) × (◌≡◌ {A = ℕ} (cond b 1 0) (bit b))
    go true = (omega arith, refl)
    go false = (omega arith, refl)

-- the accounts gone through from the last one on
pub flags_packed : (accounts : List Account) → length accounts ≤ 32 → fold packed 0 (reverse accounts) ≡ flags accounts (length accounts)
flags_packed [] few = sym (flags_none [])
flags_packed (a ∷ accounts) few =
    rw (reverse-append (a ∷ []) accounts, fold-append, flags_packed accounts (omega arith)) (packed_more a accounts (omega arith))

-- the set is the rules'
pub flags_rules : (t : Terms) (lines : List Line) (ledger : Ledger) → Booked t lines ledger
    → flags (vec_items ledger.accounts) (length (vec_items ledger.accounts)) ≡ taken_set t lines
unfolding flags
flags_rules t lines ledger b =
    ap (flags (vec_items ledger.accounts)) b.outputs
    ∙ sum_cong t.meaning.outputs _ _ (λ o inside. ap (λ h. bit h * 2 ^ o) (b.accounts no_account o inside).moved)
