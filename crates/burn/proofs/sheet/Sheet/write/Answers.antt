use Rattle.std.proofs.Common.{◌≤◌, ◌≡◌, length, ap, ◌∙◌, arith, rules, refl}
use Rattle.std.proofs.lemmas.List.{length-take-le}
use Rattle.burn.specs.Files.{contents, needed}
use Rattle.burn.proofs.Writes.{length_sealed, file_over}
use Rattle.burn.proofs.sheet.Sheet.write.Goals as goal

pub copy_from_slice-requires : goal.copy_from_slice-requires
copy_from_slice-requires c =
    let n : length c.first_block-first.result ≡ 512 = ap length c.first_block-first.ensures ∙ length_sealed _ refl in
    omega (arith, length-take-le 512 c.args.buffer.now (omega arith))

pub returns-clause-after : goal.returns-clause-after
returns-clause-after c =
    let s = contents c.args.self.now in
    let l : needed s ≤ length c.args.buffer.now = search rules in
    file_over s c.len.result c.copy_from_slice.new.self c.args.buffer.now _ (search rules) (c.copy_from_slice.ensures.after ∙ c.first_block-first.ensures) l c.write_entries.ensures
