-- A block whose sum, padding and fields were passed is the one that is written of them.
use Rattle.std.proofs.Common.{◌≡◌, ℕ, zero, suc, ◌+◌, ◌*◌, ◌<◌, ◌≤◌, Bool, true, false, cond, eqb, List, [], ◌∷◌, ◌++◌, length, get_or, take, drop, Ok, Err, sym, refl, ap, ◌∙◌, ⊎_elim, add-one, arith}
use Rattle.std.proofs.lemmas.List.{drop_more, drop_all, drop-drop, length-drop, length-take-le, get_or-take, get_or-drop, take-append-drop, ext_get_or}
use Rattle.std.proofs.lemmas.Bool.{eqb-true, cases_lt}
use Rattle.std.proofs.lemmas.Bool.Decides.{nat_tests}
use Rattle.refusal.specs.declared.table.Refusal.TheVariants.{BlockSum}
use Rattle.burn.specs.Blocks.{Bytes, bytes4, little, weighed, front, sealed, block, summed, sums}
use Rattle.burn.specs.Files.{Contents, flag, head_block, entry_block, entry_blocks, written, entry_read, entries_read, loaded}
use Rattle.burn.specs.declared.entry.Entry.{Entry}
use Rattle.burn.specs.declared.entry.Head.{Head}
use Rattle.burn.proofs.Fronts.{length_front}
use Rattle.burn.proofs.Sums.{bytes_take}
use Rattle.burn.proofs.Sealed.{bytes_of, front_low, front_high}
use Rattle.burn.proofs.Loads.{same_value, then_ok, EntryRead, entry_read_ok, HeadRead, head_read_ok, loaded_ok, counted_ok}

-- four elements, and the rest
drop_four : (xs : List ℕ) (i : ℕ) → i + 4 ≤ length xs → drop i xs ≡ get_or xs i 0 ∷ get_or xs (i + 1) 0 ∷ get_or xs (i + 2) 0 ∷ get_or xs (i + 3) 0 ∷ drop (i + 4) xs
drop_four xs i h =
    let e2 : i + 1 + 1 ≡ i + 2 = omega arith in
    let e3 : i + 2 + 1 ≡ i + 3 = omega arith in
    let e4 : i + 3 + 1 ≡ i + 4 = omega arith in
    let d1 = drop_more xs i 0 (omega arith) in
    let d2 = drop_more xs (i + 1) 0 (omega arith) ∙ ap (λ k. get_or xs (i + 1) 0 ∷ drop k xs) e2 in
    let d3 = drop_more xs (i + 2) 0 (omega arith) ∙ ap (λ k. get_or xs (i + 2) 0 ∷ drop k xs) e3 in
    let d4 = drop_more xs (i + 3) 0 (omega arith) ∙ ap (λ k. get_or xs (i + 3) 0 ∷ drop k xs) e4 in
    d1 ∙ ap (λ r. get_or xs i 0 ∷ r) (d2 ∙ ap (λ r. get_or xs (i + 1) 0 ∷ r) (d3 ∙ ap (λ r. get_or xs (i + 2) 0 ∷ r) d4))

-- the four bytes of the number that stands there
bytes_at : (xs : List ℕ) (i : ℕ) → Bytes xs → bytes4 (little xs i) ≡ get_or xs i 0 ∷ get_or xs (i + 1) 0 ∷ get_or xs (i + 2) 0 ∷ get_or xs (i + 3) 0 ∷ []
bytes_at xs i b = bytes_of (get_or xs i 0) (get_or xs (i + 1) 0) (get_or xs (i + 2) 0) (get_or xs (i + 3) 0) (b i) (b (i + 1)) (b (i + 2)) (b (i + 3))

-- the first twelve bytes: four, and two numbers
pub first_of : (xs : List ℕ) → 12 ≤ length xs → Bytes xs → take 12 xs ≡ get_or xs 0 0 ∷ get_or xs 1 0 ∷ get_or xs 2 0 ∷ get_or xs 3 0 ∷ (bytes4 (little xs 4) ++ bytes4 (little xs 8))
first_of xs h b =
    let d0 = drop_four xs 0 (omega arith) in
    let d4 = drop_four xs 4 (omega arith) in
    let d8 = drop_four xs 8 (omega arith) in
    let t4 : take 8 (drop 4 xs) ≡ bytes4 (little xs 4) ++ take 4 (drop 8 xs) = ap (take 8) d4 ∙ ap (λ r. r ++ take 4 (drop 8 xs)) (sym (bytes_at xs 4 b)) in
    let t8 : take 4 (drop 8 xs) ≡ bytes4 (little xs 8) = ap (take 4) d8 ∙ sym (bytes_at xs 8 b) in
    ap (take 12) d0 ∙ ap (λ r. get_or xs 0 0 ∷ get_or xs 1 0 ∷ get_or xs 2 0 ∷ get_or xs 3 0 ∷ r) (t4 ∙ ap (λ r. bytes4 (little xs 4) ++ r) t8)

-- a sum that was passed
pub summed_ok : (b : ℕ) (xs : List ℕ) → summed b xs ≡ Ok tt → little xs 508 ≡ weighed 1 (take 508 xs)
summed_ok b xs q = go (eqb (little xs 508) (weighed 1 (take 508 xs))) refl q
  where
    go : (t : Bool) → eqb (little xs 508) (weighed 1 (take 508 xs)) ≡ t → cond t (Ok (tt {0})) (Err (BlockSum b)) ≡ Ok tt → little xs 508 ≡ weighed 1 (take 508 xs)
    go true e p = eqb-true _ _ e
    go false e p = cc

-- a whole block that was passed is closed
pub block_sealed : (b : ℕ) (xs : List ℕ) → length xs ≡ 512 → Bytes xs → summed b xs ≡ Ok tt → ((k : ℕ) → 12 ≤ k → k < 508 → get_or xs k 0 ≡ 0) → sealed (take 12 xs) ≡ xs
unfolding sealed
block_sealed b xs l h s z =
    let l12 : length (take 12 xs) ≡ 12 = length-take-le 12 xs (omega arith) in
    let l508 : length (take 508 xs) ≡ 508 = length-take-le 508 xs (omega arith) in
    let f : take 508 xs ≡ front (take 12 xs) = ext_get_or 0 (take 508 xs) (front (take 12 xs)) (l508 ∙ sym (length_front (take 12 xs) l12))
    (λ i g. get_or-take 508 xs i 0 (omega arith) ∙ ⊎_elim (λ w. sym (front_low (take 12 xs) i l12 w ∙ get_or-take 12 xs i 0 w)) (λ w. z i w (omega arith) ∙ sym (front_high (take 12 xs) i l12 w)) (cases_lt i 12)) in
    let e : drop 508 xs ≡ bytes4 (weighed 1 (take 508 xs)) = drop_four xs 508 (omega arith) ∙ (ap (λ r. get_or xs 508 0 ∷ get_or xs 509 0 ∷ get_or xs 510 0 ∷ get_or xs 511 0 ∷ r) (drop_all 512 xs (omega arith)) ∙ (sym (bytes_at xs 508 h) ∙ ap bytes4 (summed_ok b xs s))) in
    sym (sym (take-append-drop 508 xs) ∙ (ap (λ r. r ++ drop 508 xs) f ∙ ap (λ r. front (take 12 xs) ++ r) (e ∙ ap (λ r. bytes4 (weighed 1 r)) f)))

-- the blocks of a file: bytes, and 512 of them
bytes_block : (file : List ℕ) (b : ℕ) → Bytes file → Bytes (block file b)
bytes_block file b h = bytes_take 512 (drop (b * 512) file) (λ k. omega (arith, get_or-drop (b * 512) file k 0, h (b * 512 + k)))

length_block : (file : List ℕ) (b : ℕ) → b * 512 + 512 ≤ length file → length (block file b) ≡ 512
length_block file b h = length-take-le 512 (drop (b * 512) file) (omega (arith, length-drop (b * 512) file))

-- what is left of a file is its next block, and what is left behind that
next_block : (file : List ℕ) (b : ℕ) → drop (b * 512) file ≡ block file b ++ drop ((b + 1) * 512) file
next_block file b =
    let e : b * 512 + 512 ≡ (b + 1) * 512 = omega arith in
    sym (take-append-drop 512 (drop (b * 512) file)) ∙ ap (λ r. block file b ++ r) (drop-drop 512 (b * 512) file ∙ ap (λ k. drop k file) e)

-- the byte of a flag
flag_of : (x : ℕ) → x ≤ 1 → flag (eqb x 1) ≡ x
flag_of x h = grind (arith, nat_tests)

-- the block of an output is the one that is written of it
pub entry_is : (inputs b : ℕ) (xs : List ℕ) (e : Entry) → length xs ≡ 512 → Bytes xs → summed b xs ≡ Ok tt → EntryRead inputs b xs e → entry_block b e ≡ xs
entry_is inputs b xs e l h s r =
    let i = ap (entry_block b) r.is in
    let f = flag_of (get_or xs 3 0) r.flagged in
    let k = r.kind in
    let n = r.number in
    let t = first_of xs (omega arith) h in
    let c = block_sealed b xs l h s r.padded in cc

-- so are all of them
pub rest_is : (inputs : ℕ) (file : List ℕ) (b n : ℕ) (es : List Entry) → Bytes file → length file ≡ (b + n) * 512 → sums file b n ≡ Ok tt → entries_read inputs file b n ≡ Ok es → entry_blocks b es ≡ drop (b * 512) file
unfolding sums entries_read entry_blocks
rest_is inputs file b zero es h l s q = ap (entry_blocks b) (sym (same_value q)) ∙ sym (drop_all (b * 512) file (omega arith))
rest_is inputs file b (suc n) es h l s q =
    let p = then_ok (summed b (block file b)) (λ _. sums file (b + 1) n) tt s in
    let r = then_ok (entry_read inputs b (block file b)) _ es q in
    let t = then_ok (entries_read inputs file (b + 1) n) _ es r.2 in
    let here = entry_is inputs b (block file b) r.0 (length_block file b (omega arith)) (bytes_block file b h) p.1 (entry_read_ok inputs b (block file b) r.0 r.1) in
    let there = rest_is inputs file (b + 1) n t.0 h (omega arith) p.2 t.1 in
    ap (entry_blocks b) (sym (same_value t.2)) ∙ (ap (λ x. x ++ entry_blocks (b + 1) t.0) here ∙ (ap (λ x. block file b ++ x) there ∙ sym (next_block file b)))

-- block 0 is the one that is written of the head
pub head_is_block : (xs : List ℕ) (c : Contents) (h : Head) → length xs ≡ 512 → Bytes xs → summed 0 xs ≡ Ok tt → HeadRead xs h → h.inputs ≡ c.inputs → h.outputs ≡ length c.entries → h.limit ≡ c.limit → h.spent ≡ c.spent → head_block c ≡ xs
head_is_block xs c h l y s r ei eo el es =
    let i = r.is in
    let k = r.kind in
    let n = r.number in
    let t = first_of xs (omega arith) y in
    let b = block_sealed 0 xs l y s r.padded in cc

-- a file is accepted only if writing its sheet gives that file
pub accepted_only : (file : List ℕ) (c : Contents) → Bytes file → loaded file ≡ Ok c → written c ≡ file
unfolding sums
accepted_only file c h q =
    let r = loaded_ok file c q in
    let n = length c.entries in
    let k = counted_ok file (n + 1) r.fields.counted_is in
    let s : sums file 0 (suc n) ≡ Ok tt = ap (sums file 0) (sym (add-one n)) ∙ r.fields.summed_all in
    let p = then_ok (summed 0 (block file 0)) (λ _. sums file (0 + 1) n) tt s in
    let first = head_is_block (block file 0) c r.head (length_block file 0 (omega arith)) (bytes_block file 0 h) p.1 (head_read_ok (block file 0) r.head r.fields.head_is) r.inputs_is r.as_many r.limit_is r.spent_is in
    let rest = rest_is r.head.inputs file 1 n c.entries h (omega arith) p.2 r.fields.entries_are in
    ap (λ x. x ++ entry_blocks 1 c.entries) first ∙ (ap (λ x. block file 0 ++ x) rest ∙ sym (next_block file 0))
