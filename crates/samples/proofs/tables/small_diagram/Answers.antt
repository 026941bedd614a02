use Rattle.std.proofs.Common.{inl, ap₂, ◌∙◌}
use Rattle.diagram.specs.Rules.{each}
use Rattle.diagram.specs.Meaning.{built}
use Rattle.samples.proofs.tables.small_diagram.Goals as goal

pub returns : goal.returns
unfolding each
returns c = inl (c.new.ensures ∙ ap₂ (built 3 1) c.in_ok-from_slice.ensures.items c.in_ok-from_slice-2.ensures.items)
