use Rattle.std.specs.Fmt.{HasWritten, IsPlainFormatter}
use Rattle.report.specs.Listing.{digits}
use Rattle.report.proofs.text.ValuesDisplay.fmt.Given as goal

-- the digits so far
abbrev pub invariant-loop-weight : goal.invariant-loop-weight
invariant-loop-weight g l = IsPlainFormatter l.initial.f → HasWritten g.W.Write.write_str_gives l.initial.f (digits l.self.vector 0 l.weight) l.f
