-- What a fresh command changes, and that the account is kept by it.
use Rattle.std.proofs.Common.{◌≡◌, ℕ, ◌+◌, ◌<◌, ◌≤◌, Bool, true, false, cond, eqb, ltb, leb, List, length, sym, refl, ap, ◌∙◌, arith}
use Rattle.std.proofs.lemmas.List.{length_push}
use Rattle.std.proofs.lemmas.Bool.{cond_both, leb-true, ltb-true}
use Rattle.refusal.specs.declared.table.Refusal.{Refusal}
use Rattle.refusal.specs.declared.table.Refusal.TheVariants.{NoOutput, AlreadyTaken, NotTaken}
use Rattle.rows.specs.Rows.{sum_below}
use Rattle.rows.proofs.Sums.{sum_same}
use Rattle.commands.specs.declared.command.Command.{Command}
use Rattle.commands.specs.declared.command.Command.TheVariants.{Take, Back}
use Rattle.commands.specs.declared.command.Answer.{Answer}
use Rattle.commands.specs.declared.command.Answer.TheVariants.{Taken, PutBack, Refused}
use Rattle.commands.specs.declared.command.Line.{Line}
use Rattle.commands.specs.Rules.{Account, taken, taken_by, spent, figure, log_room, with_line, decided, logged, fresh}
use Rattle.commands.specs.Promise.{costs, Kept, Moved, Unmoved, Changes}
use Rattle.commands.proofs.Totals.{total_but, term_le}
use Rattle.commands.proofs.Logs.{taken_more, spent_more}

-- a line that takes or puts back one output
moving : (account : Account) (lines : List Line) (command : Command) (answer : Answer) (o s : ℕ) (old new : Bool)
    → ((p : ℕ) (b : Bool) → taken_by p b command answer ≡ cond (eqb p o) new b) → figure (spent lines) answer ≡ s
    → o < account.outputs → taken lines o ≡ old → Moved account lines (with_line lines command answer) o s old new
moving account lines command answer o s old new by told inside was = record {
  output = inside;
  was = was;
  is = grind (arith, taken_more lines command answer o, by o (taken lines o));
  others = λ p ne. grind (arith, taken_more lines command answer p, by p (taken lines p));
  figure = spent_more lines command answer ∙ told;
}

-- a taken output costs no more than is spent
cost_le_spent : (account : Account) (lines : List Line) (o : ℕ) → Kept account lines → o < account.outputs → taken lines o ≡ true → account.cost o ≤ spent lines
cost_le_spent account lines o k inside held =
    grind (arith, k.sum, term_le account.outputs (λ p. cond (taken lines p) (account.cost p) 0) o inside)

-- an answer does to a log what it tells, within the limit
record Does (account : Account) (lines : List Line) (command : Command) (answer : Answer) : Type 0 where
  changes : Changes account lines (with_line lines command answer) command answer
  within : figure (spent lines) answer ≤ account.limit

-- a refusal changes nothing
refused_does : (account : Account) (lines : List Line) (command : Command) (why : Refusal) → Kept account lines → Does account lines command (Refused why)
refused_does account lines (Take o) why k = record { changes = record { outputs = taken_more lines _ _; figure = spent_more lines _ _ }; within = k.within }
refused_does account lines (Back o) why k = record { changes = record { outputs = taken_more lines _ _; figure = spent_more lines _ _ }; within = k.within }

-- a decision, by its tests
does : (account : Account) (lines : List Line) (command : Command) → Kept account lines → Does account lines command (decided account lines command)
does account lines (Take o) k =
    cond_both (ltb o account.outputs) _ _ (Does account lines (Take o))
    (λ inside.
    cond_both (taken lines o) _ _ (Does account lines (Take o))
    (λ held. refused_does account lines (Take o) AlreadyTaken k)
    (λ free.
    cond_both (leb (spent lines + account.cost o) account.limit) _ _ (Does account lines (Take o))
    (λ fits. record {
      changes = (moving account lines (Take o) _ o _ false true (λ p b. refl) refl (ltb-true _ _ inside) free, refl);
      within = leb-true _ _ fits;
    })
    (λ over. refused_does account lines (Take o) _ k)))
    (λ out. refused_does account lines (Take o) NoOutput k)
does account lines (Back o) k =
    cond_both (ltb o account.outputs) _ _ (Does account lines (Back o))
    (λ inside.
    cond_both (taken lines o) _ _ (Does account lines (Back o))
    (λ held.
    let c = cost_le_spent account lines o k (ltb-true _ _ inside) held in
    record {
      changes = (moving account lines (Back o) _ o _ true false (λ p b. refl) refl (ltb-true _ _ inside) held, omega arith);
      within = let w = k.within in omega arith;
    })
    (λ free. refused_does account lines (Back o) NotTaken k))
    (λ out. refused_does account lines (Back o) NoOutput k)

pub decided_changes : (account : Account) (lines : List Line) (command : Command) → Kept account lines
    → Changes account lines (with_line lines command (decided account lines command)) command (decided account lines command)
decided_changes account lines command k = (does account lines command k).changes

-- what is changed: one output, by its cost, or nothing
data Change (account : Account) (before after : List Line) : Type 0 where
  moves : (o told : ℕ) (old new : Bool) → Moved account before after o told old new
      → spent after + cond old (account.cost o) 0 ≡ spent before + cond new (account.cost o) 0 → Change account before after
  stays : Unmoved before after → Change account before after

change : (account : Account) (before after : List Line) (command : Command) (answer : Answer) → Changes account before after command answer → Change account before after
change account before after (Take o) (Taken s) c = let f = c.0.figure in let g = c.1 in moves o s false true c.0 (omega arith)
change account before after (Take o) (PutBack s) c = absurd c
change account before after (Take o) (Refused r) c = stays c
change account before after (Back o) (Taken s) c = absurd c
change account before after (Back o) (PutBack s) c = let f = c.0.figure in let g = c.1 in moves o s true false c.0 (omega arith)
change account before after (Back o) (Refused r) c = stays c

-- a sum over the outputs by what is taken, where one alone was taken or put back
pub moved_sum : (account : Account) (before after : List Line) (o told : ℕ) (old new : Bool) (f : Bool → ℕ → ℕ) → Moved account before after o told old new
    → sum_below account.outputs (λ p. f (taken after p) p) + f old o ≡ sum_below account.outputs (λ p. f (taken before p) p) + f new o
moved_sum account before after o told old new f m =
    let t = total_but account.outputs (λ p. f (taken after p) p) (λ p. f (taken before p) p) o m.output (λ p ne. ap (λ b. f b p) (m.others p ne)) in
    rw (← m.was, ← m.is) t

-- and where none was
pub unmoved_sum : (account : Account) (before after : List Line) (f : Bool → ℕ → ℕ) → Unmoved before after
    → sum_below account.outputs (λ p. f (taken after p) p) ≡ sum_below account.outputs (λ p. f (taken before p) p)
unmoved_sum account before after f u = sum_same account.outputs (λ p. ap (λ b. f b p) (u.outputs p))

-- the sum stays true
changed_sum : (account : Account) (before after : List Line) → Change account before after
    → spent before ≡ costs account (taken before) → spent after ≡ costs account (taken after)
changed_sum account before after (moves o told old new m f) e = let t = moved_sum account before after o told old new (λ b p. cond b (account.cost p) 0) m in omega arith
changed_sum account before after (stays u) e = u.figure ∙ e ∙ sym (unmoved_sum account before after (λ b p. cond b (account.cost p) 0) u)

-- only what is there is taken
changed_there : (account : Account) (before after : List Line) → Change account before after
    → ((p : ℕ) → taken before p ≡ true → p < account.outputs) → (p : ℕ) → taken after p ≡ true → p < account.outputs
changed_there account before after (moves o told old new m f) h p held = grind arith
changed_there account before after (stays u) h p held = grind arith

-- the account is kept by a fresh command
pub line_keeps : (account : Account) (lines : List Line) (command : Command) → Kept account lines → length lines < log_room
    → Kept account (with_line lines command (decided account lines command))
line_keeps account lines command k few =
    let answer : Answer = decided account lines command in
    let d = does account lines command k in
    let c = change account lines (with_line lines command answer) command answer d.changes in
    record {
      sum = changed_sum account lines _ c k.sum;
      within = rw (spent_more lines command answer) d.within;
      there = changed_there account lines _ c k.there;
      room = grind (arith, length_push);
    }

-- and by any
pub logged_keeps : (account : Account) (lines : List Line) (number : ℕ) (command : Command) → Kept account lines → Kept account (logged account lines number command)
logged_keeps account lines number command k =
    cond_both (fresh lines number) _ _ (Kept account) (λ new. line_keeps account lines command k (grind arith)) (λ old. k)
