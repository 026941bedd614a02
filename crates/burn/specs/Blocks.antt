-- Blocks of a burn file, their numbers and their sums, for whoever reads or writes one.
-- A byte is a number below 256; every number of a file stands with its lowest byte first.
use Rattle.std.specs.Prelude.{ℕ, zero, suc, ◌+◌, ◌*◌, ◌/◌, ◌%◌, ◌<◌, Bool, cond, List, [], ◌∷◌, ◌++◌, take, drop, replicate, Ok, Err, Result, ◌==◌, slice_index}
use Rattle.refusal.specs.declared.table.Refusal.{Refusal}
use Rattle.refusal.specs.declared.table.Refusal.TheVariants.{BlockSum, BadField}
use Rattle.burn.specs.declared.entry.Fields.{Fields}

-- every element is a byte
abbrev pub Bytes : List ℕ → Type 0
Bytes xs = (k : ℕ) → slice_index xs k < 256

-- the four bytes of a number
abbrev pub bytes4 : ℕ → List ℕ
bytes4 x = (x % 256) ∷ (x / 256 % 256) ∷ (x / 65536 % 256) ∷ (x / 16777216 % 256) ∷ []

-- the number whose four bytes stand from a place on
abbrev pub little : List ℕ → ℕ → ℕ
little xs place = slice_index xs place + slice_index xs (place + 1) * 256 + slice_index xs (place + 2) * 65536 + slice_index xs (place + 3) * 16777216

-- the sum of factor × byte, where the factor grows by one from byte to byte
unfoldable pub weighed : ℕ → List ℕ → ℕ
weighed factor [] = 0
weighed factor (x ∷ xs) = factor * x + weighed (factor + 1) xs

-- bytes 12 to 507
unfoldable pub padding : List ℕ
padding = replicate 496 0

-- a block up to its sum, from its first twelve bytes
abbrev pub front : List ℕ → List ℕ
front first = first ++ padding

-- a block from its first twelve bytes: closed by the sum of (place + 1) × byte
unfoldable pub sealed : List ℕ → List ℕ
sealed first = front first ++ bytes4 (weighed 1 (front first))

-- block b of a file
abbrev pub block : List ℕ → ℕ → List ℕ
block file b = take 512 (drop (b * 512) file)

-- a block's sum, checked
abbrev pub summed : ℕ → List ℕ → Result (Unit {0}) Refusal
summed b xs = cond (little xs 508 == weighed 1 (take 508 xs)) (Ok tt) (Err (BlockSum b))

-- what comes after a step that may refuse
abbrev pub then : {X Y : Type 0} → Result X Refusal → (X → Result Y Refusal) → Result Y Refusal
then (Ok x) next = next x
then (Err e) next = Err e

-- the sums of n blocks from block b on, the lowest wrong one refused
unfoldable pub sums : List ℕ → ℕ → ℕ → Result (Unit {0}) Refusal
sums file b zero = Ok tt
sums file b (suc n) = then (summed b (block file b)) (λ _. sums file (b + 1) n)

-- the first twelve bytes of a block, taken apart
abbrev pub taken_apart : List ℕ → Fields
taken_apart xs = record { kind = slice_index xs 0; number = slice_index xs 1; first = slice_index xs 2; second = slice_index xs 3; low = little xs 4; high = little xs 8 }

-- fields, laid out as such bytes
abbrev pub laid_out : Fields → List ℕ
laid_out f = f.kind ∷ f.number ∷ f.first ∷ f.second ∷ (bytes4 f.low ++ bytes4 f.high)

-- goes on where a field keeps its rule, else names the block and the field's first byte
abbrev pub field : {X : Type 0} → ℕ → ℕ → Bool → Result X Refusal → Result X Refusal
field b byte kept rest = cond kept rest (Err (BadField b byte))

-- n bytes from a place on are zero, each a field of its own
unfoldable pub zeros : ℕ → List ℕ → ℕ → ℕ → Result (Unit {0}) Refusal
zeros b xs place zero = Ok tt
zeros b xs place (suc n) = field b place (slice_index xs place == 0) (zeros b xs (place + 1) n)
