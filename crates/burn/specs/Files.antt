-- What a sheet holds, the file that is written of it, and what a file loads as.
-- For whoever hands a sheet to the burner or takes a file from it.
use Rattle.std.specs.Prelude.{◌≡◌, ℕ, zero, suc, ◌+◌, ◌-◌, ◌*◌, ◌/◌, ◌%◌, ◌^◌, ◌<◌, ◌≤◌, Bool, true, false, cond, ◌&&◌, ◌⊎◌, List, [], ◌∷◌, ◌++◌, length, drop, is_ok, Ok, Err, vec_items, Result, ◌==◌, nat_le, slice_index, slice_index_or}
use Rattle.refusal.specs.declared.table.Refusal.{Refusal}
use Rattle.refusal.specs.declared.table.Refusal.TheVariants.{FileLength, BufferShort, NoMemory}
use Rattle.burn.specs.Blocks.{Bytes, bytes4, little, sealed, block, then, sums, field, zeros}
use Rattle.burn.specs.Rules.{within, vector_fits, wrong_fits, agreed, entries_checked}
use Rattle.burn.specs.declared.entry.Entry.{Entry}
use Rattle.burn.specs.declared.entry.Head.{Head}
use Rattle.burn.specs.declared.entry.Table.{Table}
use Rattle.burn.specs.declared.sheet.Sheet.{Sheet}

-- the values that a sheet holds; the outputs are as many as its entries
pub record Contents : Type 0 where
  pub inputs : ℕ
  pub limit : ℕ
  pub spent : ℕ
  pub entries : List Entry

-- the values of a sheet
abbrev pub contents : Sheet → Contents
contents s = record { inputs = s.inputs; limit = s.limit; spent = s.spent; entries = vec_items s.entries }

-- block 0: kind 1, number 0, inputs, outputs, limit, spent
abbrev pub head_block : Contents → List ℕ
head_block c = sealed (1 ∷ 0 ∷ c.inputs ∷ length c.entries ∷ (bytes4 c.limit ++ bytes4 c.spent))

-- what stands for an output that is not there
abbrev pub no_entry : Entry
no_entry = record { price = 0; taken = false; vector = 0; wrong = 0 }

-- taken as a byte
abbrev pub flag : Bool → ℕ
flag taken = cond taken 1 0

-- block b of an output: kind 2, number b, price, taken, value vector, wrong count
abbrev pub entry_block : ℕ → Entry → List ℕ
entry_block b e = sealed (2 ∷ b ∷ e.price ∷ flag e.taken ∷ (bytes4 e.vector ++ bytes4 e.wrong))

-- the blocks of the outputs, from block b on
unfoldable pub entry_blocks : ℕ → List Entry → List ℕ
entry_blocks b [] = []
entry_blocks b (e ∷ es) = entry_block b e ++ entry_blocks (b + 1) es

-- the file of a sheet
abbrev pub written : Contents → List ℕ
written c = head_block c ++ entry_blocks 1 c.entries

-- how long that file is
abbrev pub needed : Contents → ℕ
needed c = (length c.entries + 1) * 512

-- what writing into a lent buffer answers
abbrev pub write_answer : Contents → List ℕ → Result ℕ Refusal
write_answer c buffer = cond (nat_le (needed c) (length buffer)) (Ok (needed c)) (Err (BufferShort (needed c)))

-- what the buffer then holds
abbrev pub overwritten : Contents → List ℕ → List ℕ
overwritten c buffer = cond (nat_le (needed c) (length buffer)) (written c ++ drop (needed c) buffer) buffer

-- how many blocks a file has, if it is 2 to 9 whole ones
abbrev pub counted : List ℕ → Result ℕ Refusal
counted file = cond (length file % 512 == 0 && within 2 9 (length file / 512)) (Ok (length file / 512)) (Err FileLength)

-- block 0 read, the lowest wrong field refused
abbrev pub head_read : List ℕ → Result Head Refusal
head_read xs =
    field 0 0 (slice_index xs 0 == 1)
    (field 0 1 (slice_index xs 1 == 0)
    (field 0 2 (within 1 16 (slice_index xs 2))
    (field 0 3 (within 1 8 (slice_index xs 3))
    (then (zeros 0 xs 12 496)
    (λ _. Ok (record { inputs = slice_index xs 2; outputs = slice_index xs 3; limit = little xs 4; spent = little xs 8 }))))))

-- block b of an output read, the lowest wrong field refused
abbrev pub entry_read : ℕ → ℕ → List ℕ → Result Entry Refusal
entry_read inputs b xs =
    field b 0 (slice_index xs 0 == 2)
    (field b 1 (slice_index xs 1 == b)
    (field b 2 (nat_le 1 (slice_index xs 2))
    (field b 3 (nat_le (slice_index xs 3) 1)
    (field b 4 (vector_fits inputs (little xs 4))
    (field b 8 (wrong_fits inputs (little xs 8))
    (then (zeros b xs 12 496)
    (λ _. Ok (record { price = slice_index xs 2; taken = (slice_index xs 3 == 1); vector = little xs 4; wrong = little xs 8 }))))))))

-- n outputs read, from block b on
unfoldable pub entries_read : ℕ → List ℕ → ℕ → ℕ → Result (List Entry) Refusal
entries_read inputs file b zero = Ok []
entries_read inputs file b (suc n) = then (entry_read inputs b (block file b)) (λ e. then (entries_read inputs file (b + 1) n) (λ es. Ok (e ∷ es)))

-- how many blocks a file has, all their sums right
abbrev pub blocks_read : List ℕ → Result ℕ Refusal
blocks_read file = then (counted file) (λ n. then (sums file 0 n) (λ _. Ok n))

-- the fields of such a file: those of block 0, and those of each output
abbrev pub fields_read : List ℕ → Result (Head × List Entry) Refusal
fields_read file = then (blocks_read file) (λ n. then (head_read (block file 0)) (λ h. then (entries_read h.inputs file 1 (n - 1)) (λ es. Ok (h, es))))

-- the sheet of such fields, where they agree
abbrev pub joined : Head → List Entry → Result Contents Refusal
joined h es = then (agreed h.outputs (length es) h.limit h.spent es) (λ _. Ok (record { inputs = h.inputs; limit = h.limit; spent = h.spent; entries = es }))

-- what a file loads as: all sums, then all fields, then the causes
abbrev pub loaded : List ℕ → Result Contents Refusal
loaded file = then (fields_read file) (λ p. joined p.0 p.1)

-- what values give when a sheet is made of them: the refusals of a load
abbrev pub checked : Contents → Result Contents Refusal
checked c =
    field 0 2 (within 1 16 c.inputs)
    (field 0 3 (within 1 8 (length c.entries))
    (then (entries_checked c.inputs 1 c.entries)
    (λ _. then (agreed (length c.entries) (length c.entries) c.limit c.spent c.entries) (λ _. Ok c))))

-- a table read as fields
abbrev pub table_read : Result Table Refusal → Result (Head × List Entry) Refusal
table_read (Ok t) = Ok (t.head, t.entries.items)
table_read (Err e) = Err e

-- an answer of the code read as one of the definitions
abbrev pub told : Result Sheet Refusal → Result Contents Refusal
told (Ok s) = Ok (contents s)
told (Err e) = Err e

-- the answer is the one defined; for want of memory a sheet, and nothing else, may be missing
abbrev pub Answers : Result Contents Refusal → Result Sheet Refusal → Type 0
Answers value r = (told r ≡ value) ⊎ ((r ≡ Err NoMemory) × (is_ok value ≡ true))

-- the numbers fit the bytes that the file has for them, as those of every sheet do by their types
pub record Typed (c : Contents) : Type 0 where
  pub inputs : c.inputs < 256
  pub limit : c.limit < 2 ^ 32
  pub spent : c.spent < 2 ^ 32
  pub price : (k : ℕ) → (slice_index_or c.entries k no_entry).price < 256
  pub vector : (k : ℕ) → (slice_index_or c.entries k no_entry).vector < 2 ^ 32
  pub wrong : (k : ℕ) → (slice_index_or c.entries k no_entry).wrong < 2 ^ 32

-- the laws of the file
pub record FileLaws : Type 0 where
  -- a written sheet loads as the sheet that was written
  pub written_loads : (s : Sheet) → Typed (contents s) → loaded (written (contents s)) ≡ Ok (contents s)
  -- a file is accepted only if writing its sheet gives that file
  pub accepted_only : (file : List ℕ) (c : Contents) → Bytes file → loaded file ≡ Ok c → written c ≡ file
  -- values of which no sheet can be made are refused as their file would be
  pub refused_alike : (c : Contents) → Typed c → 1 ≤ length c.entries → length c.entries ≤ 8 → loaded (written c) ≡ checked c
