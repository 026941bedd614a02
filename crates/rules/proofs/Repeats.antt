-- A call is a repeat exactly if it was fresh before.
use Rattle.std.proofs.Common.{◌≡◌, ℕ, ◌+◌, ◌-◌, true, ◌⊎◌, List, [], ◌∷◌, ◌++◌, length, sym, refl, ap, ◌∙◌, ap₂, inl, inr, ⊎_elim, arith}
use Rattle.std.proofs.lemmas.List.{length_push, get_or_append_left, get_or_at}
use Rattle.std.proofs.lemmas.Bool.{cond_both, cases_lt, false≢true}
use Rattle.commands.specs.declared.command.Command.{Command}
use Rattle.commands.specs.declared.command.Command.TheVariants.{Take, Back}
use Rattle.commands.specs.declared.command.Answer.{Answer}
use Rattle.commands.specs.declared.command.Line.{Line}
use Rattle.commands.specs.Rules.{Sent, same_command, no_line, with_line, fresh, repeats, decided, logged}
use Rattle.commands.proofs.Runs.{repeats_after}
use Rattle.rules.specs.declared.call.Call.{Call}
use Rattle.rules.specs.declared.call.Call.TheVariants as call
use Rattle.rules.specs.Rules.{Terms, account, logs, lines_from, lines, says}
use Rattle.rules.specs.Standing.{sent}
use Rattle.rules.specs.Promise.{is_repeat, is_fresh, Earlier}
use Rattle.rules.proofs.Runs.{grown_past, said_again, sent_reply}

abbrev under : ℕ → Command → Sent
under k c = record { number = k; command = c }

same_true : (x c : Command) → same_command x c ≡ true → x ≡ c
same_true (Take a) (Take b) h = grind arith
same_true (Take a) (Back b) h = grind arith
same_true (Back a) (Take b) h = grind arith
same_true (Back a) (Back b) h = grind arith

-- with one line more, a repeat was one before, or is that line's command
new_repeat : (log : List Line) (x : Command) (a : Answer) (k : ℕ) (c : Command) → repeats (with_line log x a) (under k c) ≡ true
    → (repeats log (under k c) ≡ true) ⊎ ((k ≡ length log + 1) × (x ≡ c))
new_repeat log x a k c h =
    let line : Line = record { command = x; answer = a } in
    let n = length_push log line in
    ⊎_elim
    (λ less. let e = get_or_append_left log (line ∷ []) no_line (k - 1) (grind arith) in inl (grind arith))
    (λ more. let e = get_or_at log line [] no_line (k - 1) (grind arith) in inr (grind arith, same_true x c (grind arith)))
    (cases_lt k (length log + 1))

-- a command after which another is a repeat is that one, fresh, unless it was a repeat before
abbrev Step : Terms → List Line → Call → ℕ → Command → Type 0
Step t log d k c = (repeats log (under k c) ≡ true) ⊎ ((d ≡ sent k c) × (fresh log k ≡ true))

command_step : (t : Terms) (log : List Line) (j : ℕ) (x : Command) (k : ℕ) (c : Command) → repeats (logged (account t) log j x) (under k c) ≡ true
    → Step t log (sent j x) k c
command_step t log j x k c h =
    cond_both (fresh log j) _ _ (λ l. repeats l (under k c) ≡ true → Step t log (sent j x) k c)
    (λ new r. ⊎_elim inl (λ f. let e : j ≡ k = grind arith in inr (ap₂ sent e f.1, grind arith)) (new_repeat log x (decided (account t) log x) k c r))
    (λ old r. inl r)
    h

call_step : (t : Terms) (log : List Line) (d : Call) (k : ℕ) (c : Command) → repeats (logs t log d) (under k c) ≡ true → Step t log d k c
call_step t log (call.Take j o) k c h = command_step t log j (Take o) k c h
call_step t log (call.Back j o) k c h = command_step t log j (Back o) k c h
call_step t log call.Ask k c h = inl h
call_step t log (call.Show o) k c h = inl h
call_step t log (call.Read o r) k c h = inl h
call_step t log (call.Draw o room) k c h = inl h

-- the place among some calls where a command was fresh
abbrev Found : Terms → List Line → List Call → ℕ → Command → Type 0
Found t log calls k c =
    (earlier : List Call) × (between : List Call) × (calls ≡ earlier ++ sent k c ∷ between) × (fresh (lines_from t log earlier) k ≡ true)

found : (t : Terms) (calls : List Call) (log : List Line) (k : ℕ) (c : Command) → repeats (lines_from t log calls) (under k c) ≡ true
    → (repeats log (under k c) ≡ true) ⊎ Found t log calls k c
unfolding lines_from
found t [] log k c h = inl h
found t (d ∷ later) log k c h =
    ⊎_elim
    (λ r. ⊎_elim inl (λ f. inr ([], later, ap (λ x. x ∷ later) f.0, f.1)) (call_step t log d k c r))
    (λ f. inr (d ∷ f.0, f.1, ap (λ l. d ∷ l) f.2, f.3))
    (found t later (logs t log d) k c h)

earlier_from : (t : Terms) (before : List Call) (k : ℕ) (c : Command) → repeats (lines t before) (under k c) ≡ true → Found t [] before k c
earlier_from t before k c h = ⊎_elim (λ r. absurd (grind arith)) (λ f. f) (found t before [] k c h)

-- a command is fresh as its number is
sent_fresh : (log : List Line) (k : ℕ) (c : Command) → is_fresh log (sent k c) ≡ fresh log k
sent_fresh log k (Take o) = refl
sent_fresh log k (Back o) = refl

earlier_sent : (t : Terms) (before : List Call) (k : ℕ) (c : Command) → repeats (lines t before) (under k c) ≡ true → Earlier t before (sent k c)
earlier_sent t before k c h =
    let f = earlier_from t before k c h in
    record {
      earlier = f.0;
      between = f.1;
      parts = f.2;
      was_fresh = sent_fresh (lines t f.0) k c ∙ f.3;
      same = ap (λ l. says t l (sent k c)) f.2 ∙ said_again t f.0 f.1 k c f.3 ∙ sym (sent_reply t (lines t f.0) k c);
    }

pub was_earlier : (t : Terms) (before : List Call) (c : Call) → is_repeat (lines t before) c ≡ true → Earlier t before c
was_earlier t before (call.Take k o) h = earlier_sent t before k (Take o) h
was_earlier t before (call.Back k o) h = earlier_sent t before k (Back o) h
was_earlier t before call.Ask h = absurd (false≢true h)
was_earlier t before (call.Show o) h = absurd (false≢true h)
was_earlier t before (call.Read o r) h = absurd (false≢true h)
was_earlier t before (call.Draw o room) h = absurd (false≢true h)

-- and a fresh command is a repeat ever after
ever_after : (t : Terms) (before between : List Call) (k : ℕ) (c : Command) → fresh (lines t before) k ≡ true
    → repeats (lines t (before ++ sent k c ∷ between)) (under k c) ≡ true
ever_after t before between k c h =
    repeats_after (account t) (lines t before) (lines t (before ++ sent k c ∷ between)) (under k c) h (grown_past t before between k c)

pub is_repeated : (t : Terms) (before : List Call) (c : Call) → Earlier t before c → is_repeat (lines t before) c ≡ true
is_repeated t before (call.Take k o) e = ap (λ l. is_repeat (lines t l) (call.Take k o)) e.parts ∙ ever_after t e.earlier e.between k (Take o) e.was_fresh
is_repeated t before (call.Back k o) e = ap (λ l. is_repeat (lines t l) (call.Back k o)) e.parts ∙ ever_after t e.earlier e.between k (Back o) e.was_fresh
is_repeated t before call.Ask e = absurd (false≢true e.was_fresh)
is_repeated t before (call.Show o) e = absurd (false≢true e.was_fresh)
is_repeated t before (call.Read o r) e = absurd (false≢true e.was_fresh)
is_repeated t before (call.Draw o room) e = absurd (false≢true e.was_fresh)
