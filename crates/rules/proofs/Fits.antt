-- Takes under the next number, by what any symmetric function would cost.
use Rattle.std.proofs.Common.{◌≡◌, ℕ, ◌+◌, ◌*◌, ◌<◌, ◌≤◌, Bool, false, List, length, ap, mul-le-mul_left, arith}
use Rattle.symmetric.specs.Vectors.{value}
use Rattle.symmetric.specs.Nearest.{bits, wrong}
use Rattle.symmetric.specs.Closest.{wrong_rows}
use Rattle.symmetric.proofs.Closest.{closest}
use Rattle.commands.specs.Rules.{taken, spent, log_room}
use Rattle.commands.proofs.Limits.{fits}
use Rattle.rules.specs.declared.call.Call.{Call}
use Rattle.rules.specs.Rules.{Terms, account, price, Said.answered, lines}
use Rattle.rules.specs.Standing.{spent_with, Limited}

-- no symmetric function costs less than the nearest
pub least_cost : (t : Terms) (o s : ℕ) (f : ℕ → Bool) → s + (account t).cost o ≤ spent_with t s o f
least_cost t o s f =
    let le : price t o * wrong t.meaning o ≤ price t o * wrong_rows t.meaning o f = mul-le-mul_left (price t o) ((closest t.meaning o).least f) in
    omega arith

-- and the nearest costs just that
pub nearest_cost : (t : Terms) (o s : ℕ) → spent_with t s o (value (bits t.meaning o)) ≡ s + (account t).cost o
nearest_cost t o s = ap (λ e. s + price t o * e) (closest t.meaning o).exact

pub limited_take : (t : Terms) (before : List Call) (o : ℕ) → length (lines t before) < log_room → o < t.meaning.outputs → taken (lines t before) o ≡ false
    → Limited t before (spent (lines t before)) (length (lines t before)) o
limited_take t before o few inside free =
    let s : ℕ = spent (lines t before) in
    let f = fits (account t) (lines t before) o few inside free in
    let best : ℕ → Bool = value (bits t.meaning o) in
    let e = nearest_cost t o s in
    record {
      refuses = (
        (λ over g. grind (arith, least_cost t o s g, f.refuses.0 (over.0, grind arith))),
        (λ all. let over = f.refuses.1 (grind (arith, all best)) in (over.0, ap answered over.1)),
      );
      grants = λ g fit. let le = least_cost t o s g in (_, ap answered (f.grants (omega arith)), le);
      excess = λ excess over.
          let past = f.excess excess (grind arith) in
          record { function = best; reached = grind arith; least = λ g. grind (arith, least_cost t o s g) };
    }
