use Rattle.std.proofs.Common.{◌≡◌, ℕ, ◌<◌, ◌≤◌, [], length, get_or, vec_items, vec_capacity}
use Rattle.service.specs.declared.account.Account.{Account}
use Rattle.service.specs.Booked.{Accounted}
use Rattle.service.specs.Opening.{terms}
use Rattle.service.proofs.service.open.open_accounts.Given as goal

abbrev pub invariant-loop-output : goal.invariant-loop-output
invariant-loop-output g l =
    (8 ≤ vec_capacity l.accounts)
    × (length (vec_items l.accounts) ≡ l.output)
    × ((limit : ℕ) (outside : Account) (o : ℕ) → o < l.output → Accounted (terms (g.D.Design.meaning l.design) limit l.prices) [] o (get_or (vec_items l.accounts) o outside))
