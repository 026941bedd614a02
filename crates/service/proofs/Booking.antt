-- A ledger that says what the rules say decides by them, and says so after one line more.
use Rattle.std.proofs.Common.{◌≡◌, ℕ, ◌+◌, ◌-◌, ◌*◌, ◌<◌, min, Bool, true, false, cond, eqb, ltb, List, length, get_or, vec_items, sym, refl, ap, ◌∙◌, ap₂, ⊎_elim, arith, length-set}
use Rattle.std.proofs.lemmas.List.{get_or-set_same, get_or-set_other}
use Rattle.std.proofs.lemmas.Bool.{cases_eq, cond-true, cond-false, eq-eqb, ne_eqb, ltb-true}
use Rattle.commands.specs.declared.command.Command.TheVariants.{Take, Back}
use Rattle.commands.specs.declared.command.Answer.{Answer}
use Rattle.commands.specs.declared.command.Answer.TheVariants.{Taken, PutBack, Refused}
use Rattle.commands.specs.declared.command.Line.{Line}
use Rattle.commands.specs.Rules.{taken, spent, decided, with_line}
use Rattle.commands.specs.Promise.{Kept, Changes}
use Rattle.commands.proofs.Logs.{taken_more, spent_more}
use Rattle.commands.proofs.Changed.{decided_changes}
use Rattle.rules.specs.Rules.{Terms, account}
use Rattle.service.specs.declared.account.Account.{Account}
use Rattle.service.specs.declared.ledger.Ledger.{Ledger}
use Rattle.service.specs.Books.{no_account, account_of, marked_taken, with_taken, cost, take_answer, back_answer, accounts_after, spent_after}
use Rattle.service.specs.Booked.{Accounted, Booked, Decides}

-- an account stays as it is where its output is as it was
kept_account : (t : Terms) (lines more : List Line) (o : ℕ) (a : Account) → Accounted t lines o a → taken more o ≡ taken lines o → Accounted t more o a
kept_account t lines more o a h e = record { priced = h.priced; vector = h.vector; errors = h.errors; moved = h.moved ∙ sym e }

-- an account taken or put back
moved_account : (t : Terms) (lines more : List Line) (o : ℕ) (a : Account) (flag : Bool) → Accounted t lines o a → taken more o ≡ flag → Accounted t more o (marked_taken a flag)
moved_account t lines more o a flag h e = record { priced = h.priced; vector = h.vector; errors = h.errors; moved = sym e }

-- one account is taken or put back
moved_books : (t : Terms) (lines more : List Line) (before after : Ledger) (o : ℕ) (flag : Bool) → Booked t lines before
    → ((p : ℕ) → taken more p ≡ cond (eqb p o) flag (taken lines p))
    → vec_items after.accounts ≡ with_taken before o flag → after.spent ≡ spent more → after.limit ≡ before.limit
    → Booked t more after
moved_books t lines more before after o flag b moves accounts spends limits = record {
  outputs = ap length accounts ∙ length-set (vec_items before.accounts) o _ ∙ b.outputs;
  accounts = λ outside p inside.
      let e : get_or (vec_items after.accounts) p outside ≡ get_or (with_taken before o flag) p outside = ap (λ l. get_or l p outside) accounts in
      ⊎_elim
      (λ same.
      let inside-o : o < t.meaning.outputs = omega arith in
      let here = b.accounts no_account o inside-o in
      let set_here : get_or (with_taken before o flag) p outside ≡ marked_taken (account_of before o) flag
      = ap (λ k. get_or (with_taken before o flag) k outside) same ∙ get_or-set_same (vec_items before.accounts) o _ outside (let n = b.outputs in omega arith) in
      let told : taken more p ≡ flag = moves p ∙ cond-true _ _ _ (eq-eqb p o same) in
      let at-o : Accounted t more o (marked_taken (account_of before o) flag)
      = moved_account t lines more o _ flag here (ap (taken more) (sym same) ∙ told) in
      rw (same, ← same) (rw (e ∙ set_here, same) at-o))
      (λ other.
      let set_other : get_or (with_taken before o flag) p outside ≡ get_or (vec_items before.accounts) p outside
      = get_or-set_other (vec_items before.accounts) o p _ outside other in
      let told : taken more p ≡ taken lines p = moves p ∙ cond-false _ _ _ (ne_eqb p o other) in
      rw (e ∙ set_other) (kept_account t lines more p _ (b.accounts outside p inside) told))
      (cases_eq p o);
  limited = limits ∙ b.limited;
  spends = spends;
  cheap = b.cheap;
}

-- nothing is taken or put back
same_books : (t : Terms) (lines more : List Line) (before after : Ledger) → Booked t lines before
    → ((p : ℕ) → taken more p ≡ taken lines p)
    → vec_items after.accounts ≡ vec_items before.accounts → after.spent ≡ spent more → after.limit ≡ before.limit
    → Booked t more after
same_books t lines more before after b moves accounts spends limits = record {
  outputs = ap length accounts ∙ b.outputs;
  accounts = λ outside p inside.
      rw (ap (λ l. get_or l p outside) accounts) (kept_account t lines more p _ (b.accounts outside p inside) (moves p));
  limited = limits ∙ b.limited;
  spends = spends;
  cheap = b.cheap;
}

-- what is told only of an output that is there
pub inside_alone : {X : Type 0} (o n : ℕ) (x y z : X) → (o < n → x ≡ y) → cond (ltb o n) x z ≡ cond (ltb o n) y z
inside_alone {X} o n x y z f = go (ltb o n) refl
  where
    go : (b : Bool) → ltb o n ≡ b → cond b x z ≡ cond b y z
    go true e = f (ltb-true _ _ e)
    go false e = refl

-- the ledger's answer to a take is the rules'
take_same : (t : Terms) (lines : List Line) (before : Ledger) (o : ℕ) → Booked t lines before → Kept (account t) lines
    → take_answer before o ≡ decided (account t) lines (Take o)
take_same t lines before o b k =
    rw b.outputs
    (inside_alone o t.meaning.outputs _ _ _
    (λ inside.
    let a = b.accounts no_account o inside in
    let held = a.moved in
    let total : before.spent + cost (account_of before o) ≡ spent lines + (account t).cost o = ap₂ ◌+◌ b.spends (ap₂ ◌*◌ a.priced a.errors) in
    let small = b.cheap o inside in
    let within = k.within in
    let limit = b.limited in
    let excess : min (before.spent + cost (account_of before o) - before.limit) 4294967295 ≡ spent lines + (account t).cost o - t.limit = omega arith in
    cc))

-- the ledger's answer to a back is the rules'
back_same : (t : Terms) (lines : List Line) (before : Ledger) (o : ℕ) → Booked t lines before
    → back_answer before o ≡ decided (account t) lines (Back o)
back_same t lines before o b =
    rw b.outputs
    (inside_alone o t.meaning.outputs _ _ _
    (λ inside.
    let a = b.accounts no_account o inside in
    let held = a.moved in
    let left : before.spent - cost (account_of before o) ≡ spent lines - (account t).cost o = ap₂ ◌-◌ b.spends (ap₂ ◌*◌ a.priced a.errors) in
    cc))

-- the ledger after a take
take_books : (t : Terms) (lines : List Line) (before after : Ledger) (o : ℕ) (answer : Answer) → Booked t lines before
    → Changes (account t) lines (with_line lines (Take o) answer) (Take o) answer
    → vec_items after.accounts ≡ accounts_after before o answer → after.spent ≡ spent_after before answer → after.limit ≡ before.limit
    → Booked t (with_line lines (Take o) answer) after
take_books t lines before after o (Taken s) b ch accounts spends limits =
    moved_books t lines _ before after o true b (taken_more lines (Take o) (Taken s)) accounts (spends ∙ sym (spent_more lines (Take o) (Taken s))) limits
take_books t lines before after o (PutBack s) b ch accounts spends limits = absurd ch
take_books t lines before after o (Refused r) b ch accounts spends limits =
    same_books t lines _ before after b (taken_more lines (Take o) (Refused r)) accounts (spends ∙ b.spends ∙ sym (spent_more lines (Take o) (Refused r))) limits

-- the ledger after a back
back_books : (t : Terms) (lines : List Line) (before after : Ledger) (o : ℕ) (answer : Answer) → Booked t lines before
    → Changes (account t) lines (with_line lines (Back o) answer) (Back o) answer
    → vec_items after.accounts ≡ accounts_after before o answer → after.spent ≡ spent_after before answer → after.limit ≡ before.limit
    → Booked t (with_line lines (Back o) answer) after
back_books t lines before after o (Taken s) b ch accounts spends limits = absurd ch
back_books t lines before after o (PutBack s) b ch accounts spends limits =
    moved_books t lines _ before after o false b (taken_more lines (Back o) (PutBack s)) accounts (spends ∙ sym (spent_more lines (Back o) (PutBack s))) limits
back_books t lines before after o (Refused r) b ch accounts spends limits =
    same_books t lines _ before after b (taken_more lines (Back o) (Refused r)) accounts (spends ∙ b.spends ∙ sym (spent_more lines (Back o) (Refused r))) limits

pub take_decides : (t : Terms) (lines : List Line) (before after : Ledger) (o : ℕ) (answer : Answer) → Booked t lines before → Kept (account t) lines
    → answer ≡ take_answer before o
    → vec_items after.accounts ≡ accounts_after before o answer → after.spent ≡ spent_after before answer → after.limit ≡ before.limit
    → Decides t lines (Take o) answer after
take_decides t lines before after o answer b k told accounts spends limits =
    let e = told ∙ take_same t lines before o b k in
    record { answers = e; ledger = take_books t lines before after o answer b (rw e (decided_changes (account t) lines (Take o) k)) accounts spends limits }

pub back_decides : (t : Terms) (lines : List Line) (before after : Ledger) (o : ℕ) (answer : Answer) → Booked t lines before → Kept (account t) lines
    → answer ≡ back_answer before o
    → vec_items after.accounts ≡ accounts_after before o answer → after.spent ≡ spent_after before answer → after.limit ≡ before.limit
    → Decides t lines (Back o) answer after
back_decides t lines before after o answer b k told accounts spends limits =
    let e = told ∙ back_same t lines before o b in
    record { answers = e; ledger = back_books t lines before after o answer b (rw e (decided_changes (account t) lines (Back o) k)) accounts spends limits }
