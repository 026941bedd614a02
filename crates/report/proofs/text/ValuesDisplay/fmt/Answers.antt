use Rattle.std.proofs.Common.{rules}
use Rattle.std.proofs.Output.{has_written_append, has_written_of_eq}
use Rattle.report.proofs.Lines.{digits_more}
use Rattle.report.proofs.text.ValuesDisplay.fmt.Goals as goal

pub loop-weight-preserved : goal.loop-weight-preserved
loop-weight-preserved g c = λ plain. has_written_of_eq _ _ _ _ _ (digits_more c.args.self.now.vector c.loop-weight.weight) (has_written_append _ _ _ _ _ _ (c.loop-weight.invariant plain) (search rules))
