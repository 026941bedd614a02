use Rattle.std.proofs.Common.{◌≡◌, ℕ, List, ◌++◌, drop}
use Rattle.std.specs.Fmt.{HasWritten, IsPlainFormatter}
use Rattle.burn.specs.Files.{contents}
use Rattle.report.specs.Listing.{entry_lines, listed}
use Rattle.report.proofs.text.ListingDisplay.fmt.Given as goal

-- the lines so far, and those that are left
abbrev pub invariant-loop-output : goal.invariant-loop-output
invariant-loop-output g l =
    IsPlainFormatter l.fn.f
    → (done : List ℕ) × HasWritten g.W.Write.write_str_gives l.fn.f done l.f
    × (done ++ entry_lines (contents l.sheet).inputs l.output-counter (drop l.output-counter (contents l.sheet).entries) ≡ listed (contents l.sheet))
