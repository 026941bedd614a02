use Rattle.std.proofs.Common.{◌++◌, replicate, ap, ◌∙◌, rules}
use Rattle.burn.specs.Blocks.{bytes4}
use Rattle.burn.proofs.Fronts.{closes}
use Rattle.burn.proofs.block.closed.Goals as goal

pub returns : goal.returns
returns c =
    closes _ c.copy_from_slice.new.self c.padded-block.result (search rules) (c.padded-block.ensures ∙ ap (λ xs. xs ++ replicate 500 0) c.lay_out.ensures)
    (c.copy_from_slice.ensures.after ∙ (c.to_le_bytes.ensures ∙ ap bytes4 c.weighted_sum-sum.ensures))
