use Rattle.burn.proofs.Laws.{file_laws}
use Rattle.burn.proofs.Loads.{table_kept}
use Rattle.burn.proofs.loading.load.Goals as goal

pub returns-in_err-table-clause-laws : goal.returns-in_err-table-clause-laws
returns-in_err-table-clause-laws c = file_laws

pub returns-in_err-check_causes-clause-laws : goal.returns-in_err-check_causes-clause-laws
returns-in_err-check_causes-clause-laws c = file_laws

pub returns-in_err-kept-clause-laws : goal.returns-in_err-kept-clause-laws
returns-in_err-kept-clause-laws c = file_laws

pub invariant_of-result : goal.invariant_of-result
invariant_of-result c = record {
  kept = table_kept c.args.file.now c.in_ok-table.table.head c.in_ok-table.table.entries.items _ _ _ c.in_ok-table.ensures c.as_slice.ensures.value c.in_ok-check_causes.ensures c.in_ok-kept.ensures.items;
}

pub returns-clause-laws : goal.returns-clause-laws
returns-clause-laws c = file_laws
