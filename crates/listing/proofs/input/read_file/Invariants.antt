use Rattle.std.proofs.Common.{◌≡◌, ◌-◌, ◌≤◌, length, vec_len}
use Rattle.listing.proofs.input.read_file.Given as goal

-- a block more than the longest file, at most
abbrev pub invariant-loop-source : goal.invariant-loop-source
invariant-loop-source l = (length l.buffer ≡ 512) × (vec_len l.file ≤ 5120)

-- each block read leaves fewer bytes to read
abbrev pub decreases-loop-source : goal.decreases-loop-source
decreases-loop-source l = 5121 - vec_len l.file
