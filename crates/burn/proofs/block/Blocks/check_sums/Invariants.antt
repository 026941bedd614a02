use Rattle.std.proofs.Common.{◌≡◌, ◌-◌, length}
use Rattle.std.specs.List.{concat}
use Rattle.burn.specs.Blocks.{sums}
use Rattle.burn.proofs.block.Blocks.check_sums.Given as goal

-- what is left decides
abbrev pub invariant-loop-number : goal.invariant-loop-number
invariant-loop-number l = sums (concat l.self.all.now) l.number (length l.self.all.now - l.number) ≡ sums (concat l.self.all.now) 0 (length l.self.all.now)
