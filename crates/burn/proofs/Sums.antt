-- The weighted sum of a block's bytes, and the sums of a file block by block.
use Rattle.std.proofs.Common.{◌≡◌, ℕ, zero, suc, ◌+◌, ◌-◌, ◌*◌, ◌/◌, ◌%◌, ◌<◌, ◌≤◌, List, [], ◌∷◌, ◌++◌, length, get_or, take, drop, Ok, Result, sym, refl, ap, ◌∙◌, ⊎_elim, arith}
use Rattle.std.specs.List.{sum_by, enumerate_from, concat}
use Rattle.std.specs.Simd.{first_chunks}
use Rattle.std.proofs.lemmas.Nat.{mul-le}
use Rattle.std.proofs.lemmas.List.{drop-drop, take-append-drop, length-take, length-drop, get_or-take, get_or_past, nil_from_length}
use Rattle.std.proofs.lemmas.Bool.{cases_lt}
use Rattle.std.proofs.lemmas.List.Sums.{sum_by-cons}
use Rattle.refusal.specs.declared.table.Refusal.{Refusal}
use Rattle.burn.specs.Blocks.{Bytes, weighed, block, then, summed, sums}

-- what a byte adds to the sum, by its place
abbrev pub added : ℕ × ℕ → ℕ
added p = (p.0 + 1) * p.1

-- the weighted sum, place by place
pub weighed_added : (n : ℕ) (xs : List ℕ) → weighed (n + 1) xs ≡ sum_by added (enumerate_from n xs)
unfolding weighed
weighed_added n [] = refl
weighed_added n (x ∷ xs) = ap (λ s. (n + 1) * x + s) (weighed_added (n + 1) xs) ∙ sym (sum_by-cons added (n, x) (enumerate_from (n + 1) xs))

-- a sum of at most 508 bytes is small
pub weighed_le : (factor : ℕ) (xs : List ℕ) → Bytes xs → factor + length xs ≤ 509 → weighed factor xs ≤ 129795 * length xs
unfolding weighed
weighed_le factor [] b h = omega arith
weighed_le factor (x ∷ xs) b h =
    let i = weighed_le (factor + 1) xs (λ k. b (suc k)) (omega arith) in
    let e : factor * x ≤ 129795 = mul-le factor x 509 255 (omega arith) (omega (arith, b 0)) in omega arith

-- the bytes of a part
pub bytes_take : (n : ℕ) (xs : List ℕ) → Bytes xs → Bytes (take n xs)
bytes_take n xs b k = ⊎_elim (λ h. omega (arith, get_or-take n xs k 0 h, b k)) (λ h. omega (arith, get_or_past (take n xs) k 0 (omega (arith, length-take n xs)))) (cases_lt k n)

-- a block among those that a file is cut into
pub chunk_at : (n : ℕ) (file d : List ℕ) (i : ℕ) → i < n → get_or (first_chunks 512 n file) i d ≡ block file i
chunk_at zero file d i h = absurd (omega arith)
chunk_at (suc n) file d zero h = refl
chunk_at (suc n) file d (suc i) h =
    let e : 512 + i * 512 ≡ suc i * 512 = omega arith in
    chunk_at n (drop 512 file) d i (omega arith) ∙ (ap (take 512) (drop-drop (i * 512) 512 file) ∙ ap (λ k. take 512 (drop k file)) e)

-- those blocks joined again
pub chunks_joined : (n : ℕ) (file : List ℕ) → length file ≡ n * 512 → concat (first_chunks 512 n file) ≡ file
chunks_joined zero file h = sym (nil_from_length file h)
chunks_joined (suc n) file h = ap (λ xs. take 512 file ++ xs) (chunks_joined n (drop 512 file) (omega (arith, length-drop 512 file))) ∙ take-append-drop 512 file

-- the blocks that a file of whole ones is cut into
pub chunks_whole : (file : List ℕ) (bs : List (List ℕ)) → length file % 512 ≡ 0 → bs ≡ first_chunks 512 (length file / 512) file → length bs ≡ length file / 512 → (concat bs ≡ file) × (bs ≡ first_chunks 512 (length bs) (concat bs))
chunks_whole file bs h e l =
    let j : concat bs ≡ file = ap concat e ∙ chunks_joined (length file / 512) file (omega arith) in
    (j, e ∙ (ap (λ n. first_chunks 512 n file) (sym l) ∙ ap (first_chunks 512 (length bs)) (sym j)))

-- so each of them is the file's block of its number
pub block_of : (bs : List (List ℕ)) (i : ℕ) (d : List ℕ) → i < length bs → bs ≡ first_chunks 512 (length bs) (concat bs) → get_or bs i d ≡ block (concat bs) i
block_of bs i d h w = ap (λ xs. get_or xs i d) w ∙ chunk_at (length bs) (concat bs) d i h

-- the sums from block b on, by what the next block answered
pub sums_by : (bs : List (List ℕ)) (b : ℕ) (d : List ℕ) (r : Result (Unit {0}) Refusal) → b < length bs → bs ≡ first_chunks 512 (length bs) (concat bs) → r ≡ summed b (get_or bs b d) → sums (concat bs) b (length bs - b) ≡ then r (λ _. sums (concat bs) (b + 1) (length bs - (b + 1)))
unfolding sums
sums_by bs b d r h w q =
    let m : length bs - b ≡ suc (length bs - (b + 1)) = omega arith in
    ap (sums (concat bs) b) m ∙ ap (λ s. then s (λ _. sums (concat bs) (b + 1) (length bs - (b + 1)))) (sym (q ∙ ap (summed b) (block_of bs b d h w)))

-- none left
pub sums_all : (file : List ℕ) (b n : ℕ) → n ≤ b → sums file b (n - b) ≡ Ok tt
unfolding sums
sums_all file b n h = let e : n - b ≡ 0 = omega arith in rw e refl
