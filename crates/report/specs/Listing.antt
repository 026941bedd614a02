-- The text that is printed of a burn file: its listing, or the refusal of the file.
-- For whoever reads that text, by eye or by a program.
use Rattle.std.specs.Prelude.{ℕ, zero, suc, ◌+◌, ◌/◌, ◌%◌, ◌^◌, List, [], ◌∷◌, ◌++◌, length, Ok, Err, codes, decimal, Result}
use Rattle.refusal.specs.declared.table.Refusal.{Refusal}
use Rattle.refusal.specs.Table.{told}
use Rattle.refusal.specs.Text.{text}
use Rattle.burn.specs.Files.{Contents, flag}
use Rattle.burn.specs.declared.entry.Entry.{Entry}

-- the value at a weight, as a digit
abbrev pub digit : ℕ → ℕ → ℕ
digit vector weight = 48 + vector / 2 ^ weight % 2

-- the values at n weights, from one on
unfoldable pub digits : ℕ → ℕ → ℕ → List ℕ
digits vector weight zero = []
digits vector weight (suc n) = digit vector weight ∷ digits vector (weight + 1) n

-- inputs, outputs, limit, spent
abbrev pub head_line : Contents → List ℕ
head_line c = codes "n " ++ (decimal c.inputs ++ (codes " m " ++ (decimal (length c.entries) ++ (codes " limit " ++ (decimal c.limit ++ (codes " spent " ++ (decimal c.spent ++ codes "\n")))))))

-- an output with its price, whether it is taken, its values from weight 0 on, its wrong count
abbrev pub entry_line : ℕ → ℕ → Entry → List ℕ
entry_line inputs output e = decimal output ++ (codes " price " ++ (decimal e.price ++ (codes " taken " ++ (decimal (flag e.taken) ++ (codes " vector " ++ (digits e.vector 0 (inputs + 1) ++ (codes " wrong " ++ (decimal e.wrong ++ codes "\n"))))))))

-- a line for each output
unfoldable pub entry_lines : ℕ → ℕ → List Entry → List ℕ
entry_lines inputs output [] = []
entry_lines inputs output (e ∷ es) = entry_line inputs output e ++ entry_lines inputs (output + 1) es

-- the listing of a sheet
abbrev pub listed : Contents → List ℕ
listed c = head_line c ++ entry_lines c.inputs 0 c.entries

-- what is printed of a file: its listing, or the word 'refused' and the numbers of its refusal
abbrev pub reported : Result Contents Refusal → List ℕ
reported (Ok c) = listed c
reported (Err r) = codes "refused " ++ (text (told r) ++ codes "\n")
