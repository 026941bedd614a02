-- Tables that are always taken, for calls that make one and can only run out of memory.
use Rattle.std.specs.Prelude.{◌≡◌, ◌⊎◌, Ok, Err, Result}
use Rattle.refusal.specs.declared.table.Refusal.{Refusal}
use Rattle.refusal.specs.declared.table.Refusal.TheVariants.{NoMemory}

-- the answer is the table, as it is told, or want of memory
abbrev pub Made : {D T : Type 0} → (Result D Refusal → Result T Refusal) → T → Result D Refusal → Type 0
Made told table r = (told r ≡ Ok table) ⊎ (r ≡ Err NoMemory)
