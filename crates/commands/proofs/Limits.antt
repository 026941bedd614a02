-- The answers under the next number, by what fits within the limit.
use Rattle.std.proofs.Common.{◌≡◌, ℕ, ◌+◌, ◌-◌, ◌<◌, ◌≤◌, true, false, List, length, arith}
use Rattle.commands.specs.declared.command.Command.TheVariants.{Take, Back}
use Rattle.commands.specs.declared.command.Answer.TheVariants.{Taken, PutBack}
use Rattle.commands.specs.declared.command.Line.{Line}
use Rattle.commands.specs.Rules.{Account, taken, spent, log_room, fresh}
use Rattle.commands.specs.Promise.{Fits, Over, next_answer}

-- the next number is fresh while there is room
pub next_fresh : (lines : List Line) → length lines < log_room → fresh lines (length lines + 1) ≡ true
next_fresh lines few = grind arith

pub granted : (account : Account) (lines : List Line) (o : ℕ) → length lines < log_room → o < account.outputs → taken lines o ≡ false
    → spent lines + account.cost o ≤ account.limit → next_answer account lines (Take o) ≡ Taken (spent lines + account.cost o)
granted account lines o few inside free fit = grind arith

pub refused : (account : Account) (lines : List Line) (o : ℕ) → length lines < log_room → o < account.outputs → taken lines o ≡ false
    → account.limit < spent lines + account.cost o → Over (next_answer account lines (Take o)) (spent lines + account.cost o - account.limit)
refused account lines o few inside free over = grind arith

pub put_back : (account : Account) (lines : List Line) (o : ℕ) → length lines < log_room → o < account.outputs → taken lines o ≡ true
    → next_answer account lines (Back o) ≡ PutBack (spent lines - account.cost o)
put_back account lines o few inside held = grind arith

-- 20 tells that it does not fit, and by how much
over_limit : (account : Account) (lines : List Line) (o excess : ℕ) → length lines < log_room → o < account.outputs → taken lines o ≡ false
    → Over (next_answer account lines (Take o)) excess → (account.limit < spent lines + account.cost o) × (spent lines + account.cost o ≡ account.limit + excess)
over_limit account lines o excess few inside free over = (grind arith, grind arith)

pub fits : (account : Account) (lines : List Line) (o : ℕ) → length lines < log_room → o < account.outputs → taken lines o ≡ false → Fits account lines o
fits account lines o few inside free = record {
  refuses = (
    (λ found. (over_limit account lines o found.0 few inside free found.1).0),
    (λ over. (_, refused account lines o few inside free over)),
  );
  excess = λ excess over. (over_limit account lines o excess few inside free over).1;
  grants = granted account lines o few inside free;
}
