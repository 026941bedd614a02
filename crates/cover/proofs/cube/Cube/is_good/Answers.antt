use Rattle.std.proofs.Common.{◌≤◌, ◌^◌, arith, pow_mono}
use Rattle.std.proofs.lemmas.Bool.Decides.{nat_tests}
use Rattle.cover.proofs.cube.Cube.is_good.Goals as goal

pub returns-then-self-size-2 : goal.returns-then-self-size-2
returns-then-self-size-2 c =
    let power : 16 ≤ c.args.size.inputs → 2 ^ 16 ≤ 2 ^ c.args.size.inputs = λ h. pow_mono h in
    grind (arith, nat_tests)
