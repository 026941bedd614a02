use Rattle.std.proofs.Common.{◌≡◌, ◌+◌, length, get_or, vec_items, ap, ◌∙◌, arith}
use Rattle.burn.specs.Files.{entry_block, no_entry}
use Rattle.burn.proofs.Writes.{part_goes, part_ends}
use Rattle.burn.proofs.sheet.Sheet.write_entries.Goals as goal

pub loop-index-preserved : goal.loop-index-preserved
loop-index-preserved c =
    let es = vec_items c.args.self.now.entries in
    let i = c.loop-index.index in
    let n : length c.as_slice-entry-items.result.now ≡ length es = ap length c.as_slice-entry-items.ensures.value in
    let b = c.copy_from_slice.ensures.after ∙ (c.block_of-block.ensures ∙ ap (λ xs. entry_block (i + 1) (get_or xs i no_entry)) c.as_slice-entry-items.ensures.value) in
    part_goes es i no_entry c.loop-index.part c.copy_from_slice.new.self _ (omega arith) (omega arith) b c.loop-index.invariant

pub returns : goal.returns
returns c =
    let n = ap length c.as_slice-entry-items.ensures.value in
    part_ends (vec_items c.args.self.now.entries) c.loop-index.index c.loop-index.part _ (omega arith) (omega arith) c.loop-index.invariant
