-- A buffer that is written block by block.
use Rattle.std.proofs.Common.{◌≡◌, ℕ, ◌+◌, ◌-◌, ◌*◌, ◌<◌, ◌≤◌, leb, List, [], ◌++◌, length, get_or, take, drop, sym, refl, ap, ◌∙◌, append_assoc, arith}
use borrow.Rule.Slice.PartMut.{put_mid}
use Rattle.std.proofs.lemmas.List.{at_drop_more, at_drop_all, take_at, take_all, drop_at, drop-drop, append-nil, length-append}
use Rattle.std.proofs.lemmas.Slice.{take-put_mid}
use Rattle.std.proofs.lemmas.Bool.{cond-true, le-leb}
use Rattle.burn.specs.Blocks.{bytes4, front, sealed, weighed}
use Rattle.burn.specs.Files.{Contents, head_block, entry_block, entry_blocks, needed, overwritten}
use Rattle.burn.specs.declared.entry.Entry.{Entry}
use Rattle.burn.proofs.Fronts.{length_front}

-- a closed block is 512 bytes long
pub length_sealed : (first : List ℕ) → length first ≡ 12 → length (sealed first) ≡ 512
unfolding sealed
length_sealed first h = let f = length_front first h in length-append (front first) (bytes4 (weighed 1 (front first))) ∙ ap (λ n. n + 4) f

-- one output's block more, and none left
pub blocks_more : (es : List Entry) (i : ℕ) (d : Entry) → i < length es → entry_blocks (i + 1) (drop i es) ≡ entry_block (i + 1) (get_or es i d) ++ entry_blocks (i + 1 + 1) (drop (i + 1) es)
unfolding entry_blocks
blocks_more es i d h = at_drop_more (entry_blocks (i + 1)) es i d h

pub blocks_all : (es : List Entry) (i : ℕ) → length es ≤ i → entry_blocks (i + 1) (drop i es) ≡ []
unfolding entry_blocks
blocks_all es i h = at_drop_all (entry_blocks (i + 1)) es i h

-- what is written so far and what is left make the whole: one block on
pub part_goes : (es : List Entry) (i : ℕ) (d : Entry) (b blk whole : List ℕ) → i < length es → length b ≡ length es * 512 → blk ≡ entry_block (i + 1) (get_or es i d) → take (i * 512) b ++ entry_blocks (i + 1) (drop i es) ≡ whole → take ((i + 1) * 512) (put_mid (i * 512) (i * 512 + 512 - i * 512) b blk) ++ entry_blocks (i + 1 + 1) (drop (i + 1) es) ≡ whole
part_goes es i d b blk whole h l e w =
    let n : length blk ≡ 512 = ap length e ∙ length_sealed _ refl in
    let t : take ((i + 1) * 512) (put_mid (i * 512) (i * 512 + 512 - i * 512) b blk) ≡ take (i * 512) b ++ blk = take-put_mid (i * 512) (i * 512 + 512 - i * 512) b blk ((i + 1) * 512) (omega arith) (omega arith) in
    ap (λ x. x ++ entry_blocks (i + 1 + 1) (drop (i + 1) es)) t
    ∙ (append_assoc (take (i * 512) b) blk (entry_blocks (i + 1 + 1) (drop (i + 1) es))
    ∙ (ap (λ x. take (i * 512) b ++ (x ++ entry_blocks (i + 1 + 1) (drop (i + 1) es))) e ∙ (ap (λ x. take (i * 512) b ++ x) (sym (blocks_more es i d h)) ∙ w)))

-- at the end the part is the whole
pub part_ends : (es : List Entry) (i : ℕ) (b whole : List ℕ) → length es ≤ i → length b ≡ length es * 512 → take (i * 512) b ++ entry_blocks (i + 1) (drop i es) ≡ whole → b ≡ whole
part_ends es i b whole h l w =
    sym (take_all (i * 512) b (omega arith)) ∙ (sym (append-nil (take (i * 512) b)) ∙ (ap (λ x. take (i * 512) b ++ x) (sym (blocks_all es i h)) ∙ w))

-- block 0, and behind it the blocks of the outputs, over a buffer that is long enough
pub file_over : (c : Contents) (n : ℕ) (f b rest : List ℕ) → n ≡ length c.entries → f ≡ head_block c → needed c ≤ length b → rest ≡ entry_blocks 1 c.entries → put_mid 512 ((n + 1) * 512 - 512) (f ++ drop 512 b) rest ≡ overwritten c b
file_over c n f b rest e h l r =
    let m : length f ≡ 512 = ap length h ∙ length_sealed _ refl in
    let k : 512 + ((n + 1) * 512 - 512) ≡ needed c = omega arith in
    let d : drop ((n + 1) * 512 - 512) (drop 512 (f ++ drop 512 b)) ≡ drop (needed c) b = ap (drop ((n + 1) * 512 - 512)) (drop_at f (drop 512 b) 512 m) ∙ (drop-drop ((n + 1) * 512 - 512) 512 b ∙ ap (λ i. drop i b) k) in
    ap (λ x. x ++ (rest ++ drop ((n + 1) * 512 - 512) (drop 512 (f ++ drop 512 b)))) (take_at f (drop 512 b) 512 m ∙ h)
    ∙ (ap (λ x. head_block c ++ (x ++ drop ((n + 1) * 512 - 512) (drop 512 (f ++ drop 512 b)))) r
    ∙ (ap (λ x. head_block c ++ (entry_blocks 1 c.entries ++ x)) d
    ∙ (sym (append_assoc (head_block c) (entry_blocks 1 c.entries) (drop (needed c) b)) ∙ sym (cond-true (leb (needed c) (length b)) _ b (le-leb (needed c) (length b) l)))))
