-- A service stands by its own terms and lines, and by the same terms after a change.
use Rattle.std.proofs.Common.{◌≡◌, ℕ, List, map, length, Ok, vec_items, sym, ap₂, ◌∙◌, subst, arith}
use Rattle.std.proofs.lemmas.List.{length-map, get_or-map, ext_get_or}
use Rattle.design.specs.Meaning.{Meaning}
use Rattle.commands.specs.declared.command.Line.{Line}
use Rattle.commands.specs.Promise.{Kept}
use Rattle.rules.specs.Rules.{Terms, account}
use Rattle.service.specs.declared.account.Account.{Account}
use Rattle.service.specs.declared.ledger.Ledger.{Ledger}
use Rattle.service.specs.Books.{no_account}
use Rattle.service.specs.Booked.{Booked}
use Rattle.service.specs.Opening.{terms, opened}
use Rattle.service.specs.Stands.{terms_in, Stands}

-- a ledger that says what the rules say by some terms is kept by these
pub terms_told : (t : Terms) (lines : List Line) (ledger : Ledger) → length t.prices ≡ t.meaning.outputs → Booked t lines ledger → terms_in t.meaning ledger ≡ t
terms_told t lines ledger n b =
    let price : Account → ℕ = λ a. a.price in
    let xs = vec_items ledger.accounts in
    let same : map price xs ≡ t.prices =
    ext_get_or 0 (map price xs) t.prices (length-map xs price ∙ b.outputs ∙ sym n)
    (λ o h. let l = length-map xs price in let k = b.outputs in get_or-map price xs o no_account 0 (omega arith) ∙ (b.accounts no_account o (omega arith)).priced) in
    ap₂ (λ l p. terms t.meaning l p) b.limited same

-- and stands where these can be opened on and the spent figure is true
pub stands_told : (t : Terms) (lines : List Line) (ledger : Ledger) → length t.prices ≡ t.meaning.outputs → opened t ≡ Ok tt → Booked t lines ledger → Kept (account t) lines
    → Stands t.meaning ledger lines
stands_told t lines ledger n o b k =
    let same : t ≡ terms_in t.meaning ledger = sym (terms_told t lines ledger n b) in
    record {
      opens = subst (λ (u : Terms). opened u ≡ Ok tt) same o;
      books = subst (λ (u : Terms). Booked u lines ledger) same b;
      kept = subst (λ (u : Terms). Kept (account u) lines) same k;
    }

-- a price for each output
pub many_prices : {m : Meaning} {ledger : Ledger} {lines : List Line} → Stands m ledger lines → length (terms_in m ledger).prices ≡ m.outputs
many_prices {m} {ledger} s = length-map (vec_items ledger.accounts) (λ (a : Account). a.price) ∙ s.books.outputs
