-- A cover as the table that it holds, for what its calls promise.
-- Whatever a cover answers is what this table means.
use Rattle.std.specs.Prelude.{Ok, Err, vec_items, Result}
use Rattle.refusal.specs.declared.table.Refusal.{Refusal}
use Rattle.design.specs.Meaning.{Meaning}
use Rattle.cover.specs.declared.cover.Cover.{Cover}
use Rattle.cover.specs.Tables.{Table, table_meaning}

-- the table in a cover
abbrev pub table : Cover → Table
table c = record { inputs = c.size.inputs; outputs = c.size.outputs; cubes = vec_items c.cubes }

-- the same for the answer of a call that makes one
abbrev pub told : Result Cover Refusal → Result Table Refusal
told (Ok c) = Ok (table c)
told (Err e) = Err e

-- what a cover means
abbrev pub cover_meaning : Cover → Meaning
cover_meaning c = table_meaning (table c)
