-- The burn file of a sheet with one output, taken: how long it is, its sums, and what it loads as.
use Rattle.std.proofs.Common.{◌≡◌, ℕ, zero, suc, ◌^◌, ◌<◌, true, List, [], ◌∷◌, length, get_or, take, drop, Ok, refl, ap, ◌∙◌, add-zero, lit<}
use Rattle.std.proofs.lemmas.List.{take_at, drop_at, get_or-drop}
use Rattle.burn.specs.declared.entry.Entry.{Entry}
use Rattle.burn.specs.Blocks.{bytes4, little, weighed, padding, front, sealed, block}
use Rattle.burn.specs.Files.{Contents, Typed, no_entry, head_block, entry_block, entry_blocks, written, loaded}
use Rattle.burn.specs.Rules.{entries_keep, costs}
use Rattle.burn.proofs.Sealed.{little_of, sealed_end}
use Rattle.burn.proofs.Writes.{length_sealed}
use Rattle.burn.proofs.RoundTrip.{length_written, written_loads}

-- the values
abbrev pub entry : Entry
entry = record { price = 3; taken = true; vector = 12; wrong = 1 }

abbrev pub values : Contents
values = record { inputs = 3; limit = 3; spent = 3; entries = entry ∷ [] }

abbrev pub bytes : List ℕ
bytes = written values

pub file_length : length bytes ≡ 1024
file_length = length_written values

-- the number that closes a block, from the weighted sum of its front
closing : (first : List ℕ) (sum : ℕ) → length first ≡ 12 → weighed 1 (front first) ≡ sum → sum < 2 ^ 32 → little (sealed first) 508 ≡ sum
closing first sum l e h =
    let d : little (sealed first) 508 ≡ little (drop 508 (sealed first)) 0 = simp (get_or-drop, add-zero) in
    d ∙ (ap (λ xs. little xs 0) (sealed_end first l ∙ ap bytes4 e) ∙ little_of sum h)

head_is : block bytes 0 ≡ head_block values
head_is = take_at (head_block values) (entry_blocks 1 (entry ∷ [])) 512 (length_sealed _ refl)

rest_is : drop 512 bytes ≡ entry_blocks 1 (entry ∷ [])
rest_is = drop_at (head_block values) (entry_blocks 1 (entry ∷ [])) 512 (length_sealed _ refl)

entry_is : block bytes 1 ≡ entry_block 1 entry
unfolding entry_blocks
entry_is = ap (take 512) rest_is ∙ take_at (entry_block 1 entry) [] 512 (length_sealed _ refl)

pub head_sum : little (block bytes 0) 508 ≡ 56
unfolding weighed padding
head_sum = ap (λ b. little b 508) head_is ∙ closing _ 56 refl refl (lit< tt)

pub entry_sum : little (block bytes 1) 508 ≡ 86
unfolding weighed padding
entry_sum = ap (λ b. little b 508) entry_is ∙ closing _ 86 refl refl (lit< tt)

-- every value fits its bytes
small : (k : ℕ) → ((get_or (entry ∷ []) k no_entry).price < 256) × ((get_or (entry ∷ []) k no_entry).vector < 2 ^ 32) × ((get_or (entry ∷ []) k no_entry).wrong < 2 ^ 32)
small zero = (lit< tt, lit< tt, lit< tt)
small (suc k) = (lit< tt, lit< tt, lit< tt)

typed : Typed values
typed = record { inputs = lit< tt; limit = lit< tt; spent = lit< tt; price = λ k. (small k).0; vector = λ k. (small k).1; wrong = λ k. (small k).2 }

pub loads : loaded bytes ≡ Ok values
unfolding entries_keep costs
loads = written_loads values typed refl
