-- Runs of commands that are joined, and logs that grow.
use Rattle.std.proofs.Common.{arith, ◌≡◌, true, ◌+◌, List, [], ◌∷◌, ◌++◌, map, length, take, sym, refl, ap, ◌∙◌}
use Rattle.std.specs.List.{fold, scan}
use Rattle.std.proofs.lemmas.Bool.{cond_both}
use Rattle.std.proofs.lemmas.List.{append-nil, append_assoc, map_push, take_at}
use Rattle.std.proofs.lemmas.List.Folds.{fold_along}
use Rattle.std.proofs.lemmas.List.Sums.{fold-append, fold_push}
use Rattle.commands.specs.declared.command.Line.{Line}
use Rattle.commands.specs.Rules.{Account, Sent, with_line, decided, line_of, numbered, fresh, repeats, next, hears, lines_from, lines_after, heard_from, says, answers}
use Rattle.commands.proofs.Logs.{fresh_answer, repeat_answer, line_again, repeats_again}

-- what is heard of two runs, one after the other
pub scan_append : {S X Y : Type 0} (step : S → X → S) (out : S → X → Y) (a : S) (xs ys : List X)
    → scan step out a (xs ++ ys) ≡ scan step out a xs ++ scan step out (fold step a xs) ys
scan_append step out a [] ys = refl
scan_append step out a (x ∷ xs) ys = ap (λ l. out a x ∷ l) (scan_append step out (step a x) xs ys)

-- and of a run with one step more
pub scan_push : {S X Y : Type 0} (step : S → X → S) (out : S → X → Y) (a : S) (xs : List X) (x : X)
    → scan step out a (xs ++ x ∷ []) ≡ scan step out a xs ++ out (fold step a xs) x ∷ []
scan_push step out a xs x = scan_append step out a xs (x ∷ [])

pub heard_joined : (account : Account) (before later : List Sent) (lines : List Line)
    → heard_from account lines (before ++ later) ≡ heard_from account lines before ++ heard_from account (lines_from account lines before) later
unfolding lines_from heard_from
heard_joined account before later lines = scan_append (next account) (hears account) lines before later

-- the log after one command more
pub lines_one : (account : Account) (before : List Sent) (s : Sent) → lines_after account (before ++ s ∷ []) ≡ next account (lines_after account before) s
unfolding lines_from
lines_one account before s = fold_push (next account) [] before s

-- the answers to one command more
pub answers_one : (account : Account) (before : List Sent) (s : Sent) → answers account (before ++ s ∷ []) ≡ answers account before ++ says account before s ∷ []
unfolding lines_from heard_from
answers_one account before s = ap (map (λ h. h.answer)) (scan_push (next account) (hears account) [] before s) ∙ map_push (λ h. h.answer) _ _

-- lines were added at the end of a log, if any
pub record Grown (before after : List Line) : Type 0 where
  pub more : List Line
  pub is : after ≡ before ++ more

-- no line was added
pub not_grown : (lines : List Line) → Grown lines lines
not_grown lines = record { more = []; is = sym (append-nil lines) }

-- growing twice
grown_twice : {before middle after : List Line} → Grown before middle → Grown middle after → Grown before after
grown_twice {before = before} f g = record { more = f.more ++ g.more; is = g.is ∙ ap (λ l. l ++ g.more) f.is ∙ append_assoc before f.more g.more }

-- a log grows at a command
pub next_grows : (account : Account) (lines : List Line) (s : Sent) → Grown lines (next account lines s)
next_grows account lines s = cond_both (fresh lines s.number) _ _ (Grown lines) (λ new. record { more = _; is = refl }) (λ old. not_grown lines)

-- it grows over a run if it does at each step
pub run_grows : {X : Type 0} (step : List Line → X → List Line) → ((lines : List Line) (x : X) → Grown lines (step lines x))
    → (lines : List Line) (before later : List X) → Grown (fold step lines before) (fold step lines (before ++ later))
run_grows step one lines before later =
    let start : List Line = fold step lines before in
    rw (fold-append step lines before later)
    (fold_along step step (λ l _. Grown start l) (λ l _ x g. grown_twice g (one l x)) start start later (not_grown start))

-- and so it does past one step of the run
pub run_past : {X : Type 0} (step : List Line → X → List Line) → ((lines : List Line) (x : X) → Grown lines (step lines x))
    → (lines : List Line) (before : List X) (x : X) (between : List X)
    → Grown (step (fold step lines before) x) (fold step lines (before ++ x ∷ between))
run_past step one lines before x between =
    rw (← fold_push step lines before x, ← append_assoc before (x ∷ []) between) (run_grows step one lines (before ++ x ∷ []) between)

pub log_begins : (account : Account) (before later : List Sent)
    → take (length (lines_after account before)) (lines_after account (before ++ later)) ≡ lines_after account before
unfolding lines_from
log_begins account before later =
    let g = run_grows (next account) (next_grows account) [] before later in
    ap (take (length (lines_after account before))) g.is ∙ take_at (lines_after account before) g.more _ refl

-- the log after a command and whatever follows it
pub grown_past : (account : Account) (before : List Sent) (s : Sent) (between : List Sent)
    → Grown (next account (lines_after account before) s) (lines_after account (before ++ s ∷ between))
unfolding lines_from
grown_past account before s between = run_past (next account) (next_grows account) [] before s between

-- a log that grew from the one after a fresh command has its line, whatever follows
fresh_line : (account : Account) (lines after : List Line) (s : Sent) → fresh lines s.number ≡ true → Grown (next account lines s) after
    → (rest : List Line) × (after ≡ with_line lines s.command (decided account lines s.command) ++ rest) × (s.number ≡ length lines + 1)
fresh_line account lines after s h g = grind arith

-- so it is a repeat from then on
pub repeats_after : (account : Account) (lines after : List Line) (s : Sent) → fresh lines s.number ≡ true → Grown (next account lines s) after
    → repeats after s ≡ true
repeats_after account lines after s h g =
    let f = fresh_line account lines after s h g in
    ap (λ l. repeats l s) f.1 ∙ repeats_again lines s.command (decided account lines s.command) f.0 s.number f.2

-- and is answered as before when it is sent again
pub answered_again : (account : Account) (lines after : List Line) (s : Sent) → fresh lines s.number ≡ true → Grown (next account lines s) after
    → numbered account after s.number s.command ≡ numbered account lines s.number s.command
answered_again account lines after s h g =
    let f = fresh_line account lines after s h g in
    let line : Line = record { command = s.command; answer = decided account lines s.command } in
    repeat_answer account after s (repeats_after account lines after s h g)
    ∙ ap (λ l. (line_of l s.number).answer) f.1
    ∙ ap (λ l. l.answer) (line_again lines line f.0 s.number f.2)
    ∙ sym (fresh_answer account lines s.number s.command h)
