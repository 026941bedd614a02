use Rattle.std.proofs.Common.{◌≡◌, ◌+◌, ◌≤◌, length}
use Rattle.burn.specs.Rules.{entries_checked}
use Rattle.burn.proofs.outputs.Outputs.check.Given as goal

-- what is left decides
abbrev pub invariant-loop-block : goal.invariant-loop-block
invariant-loop-block l = (l.block-iterator.a.start + length l.block-iterator.b.rest.now ≤ 9) × (entries_checked l.inputs l.block-iterator.a.start l.block-iterator.b.rest.now ≡ entries_checked l.inputs 1 l.self.entries.now)
