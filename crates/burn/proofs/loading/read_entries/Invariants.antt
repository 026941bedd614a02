use Rattle.std.proofs.Common.{◌≡◌, ◌+◌, ◌-◌, ◌≤◌, length, drop}
use Rattle.std.specs.List.{concat}
use Rattle.burn.specs.Files.{entries_read}
use Rattle.burn.proofs.Entries.{ahead, outputs_from}
use Rattle.burn.proofs.loading.read_entries.Given as goal

-- the entries so far come ahead of what is left
abbrev pub invariant-loop-number : goal.invariant-loop-number
invariant-loop-number l =
    let bs = l.blocks.all.now in
    let n = l.number-iterator.a.start in
    (length l.entries.items + 1 ≡ n) × (n ≤ length bs) × (l.number-iterator.b.rest.now ≡ drop n bs) × (entries_read l.inputs (concat bs) 1 (length bs - 1) ≡ ahead l.entries.items (outputs_from l.inputs bs n))
