-- Terms that say the same of every output that is there decide, reply and keep alike.
use Rattle.std.proofs.Common.{◌≡◌, ℕ, zero, suc, ◌*◌, ◌<◌, ◌≤◌, cond, List, Ok, slice_index, vec_items, inl, inr, sym, refl, ap, ap₂, ◌∙◌, subst, ⊎_elim, arith}
use Rattle.std.proofs.lemmas.List.{get_or-map}
use Rattle.rows.proofs.Sums.{sum_cong}
use Rattle.design.specs.Meaning.{Meaning}
use Rattle.symmetric.specs.Nearest.{wrong}
use Rattle.burn.specs.declared.entry.Entry.{Entry}
use Rattle.burn.specs.Files.{Contents}
use Rattle.commands.specs.declared.command.Command.{Command}
use Rattle.commands.specs.declared.command.Command.TheVariants.{Take, Back}
use Rattle.commands.specs.declared.command.Line.{Line}
use Rattle.commands.specs.Rules.{taken, spent, decided, numbered, logged}
use Rattle.commands.specs.Promise.{Kept}
use Rattle.rules.specs.declared.call.Call.{Call}
use Rattle.rules.specs.declared.call.Call.TheVariants as call
use Rattle.rules.specs.Rules.{Terms, Said.answered, price, account, reply}
use Rattle.service.specs.declared.account.Account.{Account}
use Rattle.service.specs.declared.ledger.Ledger.{Ledger}
use Rattle.service.specs.declared.service.Service.{Service}
use Rattle.service.specs.Books.{no_account}
use Rattle.service.specs.Booked.{Booked}
use Rattle.service.specs.Opening.{terms}
use Rattle.service.specs.Holds.{terms_of, lines_of, Holds}
use Rattle.service.specs.Replies.{lent_after}
use Rattle.service.specs.Sheets.{entries_below, sheet_of}
use Rattle.service.specs.AnyTerms.{AnyTerms}
use Rattle.service.proofs.Booking.{inside_alone}

-- all but the prices are the same, and these are where an output is
pub record Alike (t u : Terms) : Type 0 where
  pub rest : u ≡ terms t.meaning t.limit u.prices
  pub same : (o : ℕ) → o < t.meaning.outputs → price u o ≡ price t o

module _ (m : Meaning) (l : ℕ) (ps qs : List ℕ) (same : (o : ℕ) → o < m.outputs → slice_index ps o ≡ slice_index qs o) where
  decided_prices : (lines : List Line) (c : Command) → decided (account (terms m l ps)) lines c ≡ decided (account (terms m l qs)) lines c
  decided_prices lines (Take o) = inside_alone o m.outputs _ _ _ (λ i. rw (same o i) refl)
  decided_prices lines (Back o) = inside_alone o m.outputs _ _ _ (λ i. rw (same o i) refl)

  numbered_prices : (lines : List Line) (n : ℕ) (c : Command) → numbered (account (terms m l ps)) lines n c ≡ numbered (account (terms m l qs)) lines n c
  numbered_prices lines n c = rw (decided_prices lines c) refl

  logged_prices : (lines : List Line) (n : ℕ) (c : Command) → logged (account (terms m l ps)) lines n c ≡ logged (account (terms m l qs)) lines n c
  logged_prices lines n c = rw (decided_prices lines c) refl

  reply_prices : (lines : List Line) (c : Call) → reply (terms m l ps) lines c ≡ reply (terms m l qs) lines c
  reply_prices lines (call.Take n o) = ap answered (numbered_prices lines n (Take o))
  reply_prices lines (call.Back n o) = ap answered (numbered_prices lines n (Back o))
  reply_prices lines call.Ask = refl
  reply_prices lines (call.Show o) = refl
  reply_prices lines (call.Read o r) = refl
  reply_prices lines (call.Draw o room) = refl

  entries_prices : (lines : List Line) (k : ℕ) → k ≤ m.outputs → entries_below (terms m l ps) lines k ≡ entries_below (terms m l qs) lines k
  unfolding entries_below
  entries_prices lines zero h = refl
  entries_prices lines (suc k) h = rw (entries_prices lines k (omega arith), same k (omega arith)) refl

  booked_prices : (lines : List Line) (ledger : Ledger) → Booked (terms m l ps) lines ledger → Booked (terms m l qs) lines ledger
  booked_prices lines ledger b = record {
    outputs = b.outputs;
    accounts = λ outside o i. let a = b.accounts outside o i in record { priced = a.priced ∙ same o i; vector = a.vector; errors = a.errors; moved = a.moved };
    limited = b.limited;
    spends = b.spends;
    cheap = λ o i. rw (← same o i) (b.cheap o i);
  }

  kept_prices : (lines : List Line) → Kept (account (terms m l ps)) lines → Kept (account (terms m l qs)) lines
  kept_prices lines k = record {
    sum = k.sum ∙ sum_cong m.outputs _ _ (λ o i. ap (λ p. cond (taken lines o) (p * wrong m o) 0) (same o i));
    within = k.within;
    there = k.there;
    room = k.room;
  }

-- a sheet with these entries
abbrev sheet_with : Terms → List Line → List Entry → Contents
sheet_with t lines es = record { inputs = t.meaning.inputs; limit = t.limit; spent = spent lines; entries = es }

-- the terms by which a service stands are like its own
alike : {D : Type 0} {d : _} (s : Service D d) (t : Terms) (lines : List Line) → Holds d.meaning t lines s → Alike t (terms_of s)
alike s t lines h = record {
  rest = ap₂ (λ m l. terms m l (terms_of s).prices) h.meaning h.ledger.limited;
  same = λ o i.
      let n = h.ledger.outputs in
      get_or-map (λ (a : Account). a.price) (vec_items s.ledger.accounts) o no_account 0 (omega arith) ∙ (h.ledger.accounts no_account o i).priced;
}

-- and by terms like its own a service stands
stands_by : {D : Type 0} {d : _} (s : Service D d) (t : Terms) (lines : List Line) → Alike t (terms_of s) → lines_of s ≡ lines → Holds d.meaning t lines s
stands_by s t lines a e = record {
  meaning = ap (λ (u : Terms). u.meaning) a.rest;
  log = e;
  ledger = rw (← e) (booked_prices t.meaning t.limit (terms_of s).prices t.prices a.same (lines_of s) s.ledger (subst (λ (u : Terms). Booked u (lines_of s) s.ledger) a.rest s.stands.books));
  kept = rw (← e) (kept_prices t.meaning t.limit (terms_of s).prices t.prices a.same (lines_of s) (subst (λ (u : Terms). Kept (account u) (lines_of s)) a.rest s.stands.kept));
}

-- a service stands by its own terms, and answers by any that it stands by
pub any_terms : {D : Type 0} {d : _} (s : Service D d) → AnyTerms s
any_terms s = record {
  opens = s.stands.opens;
  own = record { meaning = refl; log = refl; ledger = s.stands.books; kept = s.stands.kept };
  obeyed = λ number command answer after told logs terms-same t lines h.
      let a = alike s t lines h in
      let e = h.log in record {
        answers = told ∙ ap₂ (λ u ls. numbered (account u) ls number command) a.rest e ∙ numbered_prices t.meaning t.limit (terms_of s).prices t.prices a.same lines number command;
        stands = stands_by after t _ (subst (λ (u : Terms). Alike t u) (sym terms-same) a)
            (logs ∙ ap₂ (λ u ls. logged (account u) ls number command) a.rest e ∙ logged_prices t.meaning t.limit (terms_of s).prices t.prices a.same lines number command);
      };
  replied = λ c said told t lines h.
      let a = alike s t lines h in
      told ∙ ap₂ (λ u ls. reply u ls c) a.rest h.log ∙ reply_prices t.meaning t.limit (terms_of s).prices t.prices a.same lines c;
  drawn = λ o buffer after told t lines h. told ∙ ap₂ (λ u ls. lent_after u ls o buffer) (alike s t lines h).rest h.log;
  sheeted = λ r told t lines h ready.
      let a = alike s t lines h in
      let n = h.ledger.outputs in
      ⊎_elim (λ made. inl (made ∙ ap₂ (λ u ls. Ok (sheet_of u ls)) a.rest h.log
      ∙ ap (λ es. Ok (sheet_with t lines es)) (entries_prices t.meaning t.limit (terms_of s).prices t.prices a.same lines t.meaning.outputs (omega arith)))) inr told;
}
