-- Which fault of a file is named: its length, its lowest wrong sum, its lowest wrong field.
-- For whoever reads a refusal of a burn file. A field is named by its block and its first byte.
use Rattle.std.specs.Prelude.{◌≡◌, ℕ, ◌*◌, ◌<◌, ◌≤◌, Bool, true, false, cond, ◌≢◌, ◌↔◌, List, length, take, Err, ◌==◌, nat_le, slice_index}
use Rattle.refusal.specs.declared.table.Refusal.TheVariants.{FileLength, BlockSum, BadField}
use Rattle.burn.specs.Blocks.{little, weighed, block}
use Rattle.burn.specs.Rules.{within, vector_fits, wrong_fits}
use Rattle.burn.specs.Files.{loaded}

-- a file is n whole blocks, 2 to 9 of them
pub record Whole (file : List ℕ) (n : ℕ) : Type 0 where
  pub long : length file ≡ n * 512
  pub at_least : 2 ≤ n
  pub at_most : n ≤ 9

-- what block b's sum has to be
abbrev pub sum_due : List ℕ → ℕ → ℕ
sum_due file b = weighed 1 (take 508 (block file b))

-- what it is
abbrev pub sum_told : List ℕ → ℕ → ℕ
sum_told file b = little (block file b) 508

-- block b's sum is wrong, and right in every block before it
pub record LowestSum (file : List ℕ) (b : ℕ) : Type 0 where
  pub blocks : ℕ
  pub whole : Whole file blocks
  pub inside : b < blocks
  pub wrong : sum_told file b ≢ sum_due file b
  pub before : (c : ℕ) → c < b → sum_told file c ≡ sum_due file c

-- block 0's field at a byte keeps its rule; where no field with a rule begins, nothing can break
unfoldable pub head_field : List ℕ → ℕ → Bool
head_field xs byte =
    cond (byte == 0) (slice_index xs 0 == 1)
    (cond (byte == 1) (slice_index xs 1 == 0)
    (cond (byte == 2) (within 1 16 (slice_index xs 2))
    (cond (byte == 3) (within 1 8 (slice_index xs 3))
    (cond (within 12 507 byte) (slice_index xs byte == 0) true))))

-- so does a field of block b, which is an output's
unfoldable pub entry_field : ℕ → ℕ → List ℕ → ℕ → Bool
entry_field inputs b xs byte =
    cond (byte == 0) (slice_index xs 0 == 2)
    (cond (byte == 1) (slice_index xs 1 == b)
    (cond (byte == 2) (nat_le 1 (slice_index xs 2))
    (cond (byte == 3) (nat_le (slice_index xs 3) 1)
    (cond (byte == 4) (vector_fits inputs (little xs 4))
    (cond (byte == 8) (wrong_fits inputs (little xs 8))
    (cond (within 12 507 byte) (slice_index xs byte == 0) true))))))

-- a field of a file, by its block and first byte; block 0 tells the inputs
abbrev pub field_kept : List ℕ → ℕ → ℕ → Bool
field_kept file b byte = cond (b == 0) (head_field (block file 0) byte) (entry_field (slice_index (block file 0) 2) b (block file b) byte)

-- all sums are right, the field breaks its rule, and every field before it keeps its own
pub record LowestField (file : List ℕ) (b byte : ℕ) : Type 0 where
  pub blocks : ℕ
  pub whole : Whole file blocks
  pub sums_right : (c : ℕ) → c < blocks → sum_told file c ≡ sum_due file c
  pub inside : b < blocks
  pub wrong : field_kept file b byte ≡ false
  pub before_it : (k : ℕ) → k < byte → field_kept file b k ≡ true
  pub blocks_before : (c k : ℕ) → c < b → field_kept file c k ≡ true

-- the laws of the fault that a refusal of a file names
pub record FaultLaws : Type 0 where
  -- a file is refused for its length exactly if it is not 2 to 9 whole blocks
  pub lengths : (file : List ℕ) → (loaded file ≡ Err FileLength) ↔ ((n : ℕ) → ¬ Whole file n)
  -- for a block's sum exactly if that is the lowest wrong one
  pub lowest_sum : (file : List ℕ) (b : ℕ) → (loaded file ≡ Err (BlockSum b)) ↔ LowestSum file b
  -- for a field exactly if all sums are right and that is the lowest wrong one
  pub lowest_field : (file : List ℕ) (b byte : ℕ) → (loaded file ≡ Err (BadField b byte)) ↔ LowestField file b byte
