use Rattle.std.proofs.Common.{◌≡◌, ◌+◌, ◌*◌, ◌++◌, take, drop, vec_items}
use Rattle.burn.specs.Files.{entry_blocks}
use Rattle.burn.proofs.sheet.Sheet.write_entries.Given as goal

-- what is written and what is left to write make the whole
abbrev pub invariant-loop-index : goal.invariant-loop-index
invariant-loop-index l = take (l.index * 512) l.part ++ entry_blocks (l.index + 1) (drop l.index (vec_items l.self.entries)) ≡ entry_blocks 1 (vec_items l.self.entries)
