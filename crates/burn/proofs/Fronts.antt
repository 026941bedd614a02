-- A block's first twelve bytes, its zeros and its sum, as the code lays them down.
use Rattle.std.proofs.Common.{◌≡◌, ℕ, ◌+◌, List, [], ◌++◌, length, take, drop, replicate, sym, ap, ◌∙◌, append_assoc, arith}
use borrow.Rule.Slice.PartMut.{put_mid}
use Rattle.std.proofs.lemmas.List.{take_at, drop_all, drop-drop, length-append, length-replicate, replicate-append-replicate, append-nil}
use Rattle.burn.specs.Blocks.{bytes4, weighed, padding, front, sealed}

-- 500 zeros begin with the padding
pub zeros_split : replicate 500 0 ≡ padding ++ replicate 4 0
unfolding padding
zeros_split = sym (replicate-append-replicate 496 4 0)

pub length_padding : length padding ≡ 496
unfolding padding
length_padding = length-replicate {A = ℕ} 496 0

pub length_front : (first : List ℕ) → length first ≡ 12 → length (front first) ≡ 508
length_front first h = let p = length_padding in simp length-append (omega arith)

-- twelve bytes and 500 zeros begin with the front of a block
pub front_of : (first : List ℕ) → length first ≡ 12 → take 508 (first ++ replicate 500 0) ≡ front first
front_of first h =
    ap (λ z. take 508 (first ++ z)) zeros_split ∙ (ap (take 508) (sym (append_assoc first padding (replicate 4 0)))
    ∙ take_at (front first) (replicate 4 0) 508 (length_front first h))

length_padded : (first : List ℕ) → length first ≡ 12 → length (first ++ replicate 500 0) ≡ 512
length_padded first h = length-append first (replicate 500 0) ∙ ap (λ n. n + 500) h

-- with the sum over the last four bytes, the block is closed
pub closes : (first sum block : List ℕ) → length first ≡ 12 → block ≡ first ++ replicate 500 0 → sum ≡ bytes4 (weighed 1 (take 508 block)) → put_mid 508 4 block sum ≡ sealed first
unfolding sealed
closes first sum block h e s =
    let t : take 508 block ≡ front first = ap (take 508) e ∙ front_of first h in
    let n : length block ≡ 512 = ap length e ∙ length_padded first h in
    let d : drop 4 (drop 508 block) ≡ [] = drop-drop 4 508 block ∙ drop_all 512 block (omega arith) in
    let q : sum ≡ bytes4 (weighed 1 (front first)) = s ∙ ap (λ x. bytes4 (weighed 1 x)) t in
    ap (λ x. take 508 block ++ (sum ++ x)) d ∙ (ap (λ x. take 508 block ++ x) (append-nil sum) ∙ (ap (λ x. x ++ sum) t ∙ ap (λ x. front first ++ x) q))
