use Rattle.std.proofs.Common.{inl, ap, ◌∙◌}
use Rattle.design.specs.Search.{first_place}
use Rattle.cover.specs.Tables.{all_good, apart, opened}
use Rattle.samples.proofs.tables.small_cover.Goals as goal

pub returns : goal.returns
unfolding first_place all_good apart
returns c = inl (c.new.ensures ∙ ap (opened 3 1) c.in_ok-from_slice.ensures.items)
