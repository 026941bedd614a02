use Rattle.std.proofs.Common.{rules, vec_items}
use Rattle.burn.proofs.Checks.{values_kept}
use Rattle.burn.proofs.sheet.Sheet.new.Goals as goal

pub invariant_of-result : goal.invariant_of-result
invariant_of-result c = record {
  kept =
      values_kept c.in_ok-inputs.inputs c.args.limit c.args.spent c.len-count.result c.args.inputs (vec_items c.args.entries) _ _ _
      c.in_ok-inputs.ensures (search rules) (search rules) (search rules) c.as_slice.ensures.value c.in_ok-check.ensures c.in_ok-check_causes.ensures;
}
