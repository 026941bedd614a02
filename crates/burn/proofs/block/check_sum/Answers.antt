use Rattle.std.proofs.Common.{arith}
use Rattle.std.proofs.lemmas.Bool.Decides.{nat_tests}
use Rattle.burn.proofs.block.check_sum.Goals as goal

pub returns-then-from_le_bytes-weighted_sum : goal.returns-then-from_le_bytes-weighted_sum
returns-then-from_le_bytes-weighted_sum c = let e = c.from_le_bytes.ensures in let w = c.weighted_sum.ensures in grind (arith, nat_tests)

pub returns : goal.returns
returns c = let e = c.from_le_bytes.ensures in let w = c.weighted_sum.ensures in grind (arith, nat_tests)
