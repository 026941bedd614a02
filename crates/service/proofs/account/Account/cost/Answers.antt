use Rattle.std.proofs.Common.{◌*◌, ◌≤◌, mul-le-mul, arith, rules}
use Rattle.service.proofs.account.Account.cost.Goals as goal

pub returns : goal.returns
returns c =
    let p : c.from.result ≤ 255 = omega arith in
    let w : c.from-2.result ≤ 4294967295 = omega arith in
    let m : c.from.result * c.from-2.result ≤ 255 * 4294967295 = mul-le-mul p w in
    record { cost = search rules; small = omega arith }
