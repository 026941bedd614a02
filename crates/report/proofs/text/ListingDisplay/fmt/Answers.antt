use Rattle.std.proofs.Common.{◌++◌, length, get_or, ap, arith, rules}
use Rattle.std.proofs.Output.{has_written_append, has_written_of_eq}
use Rattle.burn.specs.Files.{contents, no_entry}
use Rattle.report.specs.Listing.{entry_line}
use Rattle.report.proofs.Lines.{lines_more, lines_all}
use Rattle.report.proofs.text.ListingDisplay.fmt.Goals as goal

pub loop-output-preserved : goal.loop-output-preserved
loop-output-preserved g c = λ plain.
    let sheet = contents c.args.self.now.sheet.now in
    let output = c.loop-output.output-counter in
    let now = c.loop-output.invariant plain in (
      now.0 ++ entry_line sheet.inputs output (get_or sheet.entries output no_entry),
      has_written_append _ _ _ _ _ _ now.1 (search rules),
      lines_more now.0 _ sheet.inputs output sheet.entries no_entry (omega (arith, ap length c.entries-entry-items.ensures)) now.2,
    )

pub returns-clause-writes : goal.returns-clause-writes
returns-clause-writes g c = λ plain _.
    let now = c.loop-output.invariant plain in
    let sheet = contents c.args.self.now.sheet.now in
    has_written_of_eq _ _ _ _ _ (lines_all _ _ sheet.inputs c.loop-output.output-counter sheet.entries (omega (arith, ap length c.entries-entry-items.ensures)) now.2) now.1
