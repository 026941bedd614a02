-- The file that is written of some values loads as those values, or is refused as they are.
use Rattle.std.proofs.Common.{◌≡◌, ℕ, zero, suc, ◌+◌, ◌-◌, ◌*◌, ◌/◌, ◌%◌, ◌^◌, ◌<◌, ◌≤◌, Bool, true, false, ◌&&◌, eqb, leb, List, [], ◌∷◌, ◌++◌, length, get_or, take, drop, Ok, Err, Result, sym, refl, ap, ◌∙◌, add-one, arith, lit<}
use Rattle.std.proofs.lemmas.Nat.{mod_below}
use Rattle.std.proofs.lemmas.List.{take_at, drop_at, drop-drop, length-append}
use Rattle.std.proofs.lemmas.Bool.{eq-eqb, and_parts, cond-true}
use Rattle.refusal.specs.declared.table.Refusal.{Refusal}
use Rattle.burn.specs.Blocks.{Bytes, bytes4, little, sealed, block, then, summed, sums, field}
use Rattle.burn.specs.Rules.{within, vector_fits, wrong_fits, entry_keeps, entries_keep, costs, keeps, agreed, entry_checked, entries_checked}
use Rattle.burn.specs.Files.{Contents, Typed, no_entry, flag, head_block, entry_block, entry_blocks, written, counted, head_read, entry_read, entries_read, blocks_read, joined, loaded, checked}
use Rattle.burn.specs.declared.entry.Entry.{Entry}
use Rattle.burn.specs.declared.entry.Head.{Head}
use Rattle.burn.proofs.Checks.{few_entries}
use Rattle.burn.proofs.Loads.{counted_by}
use Rattle.burn.proofs.Sealed.{little_of, sealed_low, sealed_zeros, sealed_summed}
use Rattle.burn.proofs.Writes.{length_sealed}

-- twelve bytes: four, and the bytes of two numbers
abbrev twelve : ℕ → ℕ → ℕ → ℕ → ℕ → ℕ → List ℕ
twelve k0 k1 k2 k3 v w = k0 ∷ k1 ∷ k2 ∷ k3 ∷ (bytes4 v ++ bytes4 w)

same_little : {a b c d e f g h : ℕ} → a ≡ e → b ≡ f → c ≡ g → d ≡ h → a + b * 256 + c * 65536 + d * 16777216 ≡ e + f * 256 + g * 65536 + h * 16777216
same_little p q r s = cc

byte : (x : ℕ) → x % 256 < 256
byte x = mod_below x 256 (omega arith)

bytes_four : (x : ℕ) (xs : List ℕ) → Bytes xs → Bytes (bytes4 x ++ xs)
bytes_four x xs b zero = byte x
bytes_four x xs b (suc zero) = byte (x / 256)
bytes_four x xs b (suc (suc zero)) = byte (x / 65536)
bytes_four x xs b (suc (suc (suc zero))) = byte (x / 16777216)
bytes_four x xs b (suc (suc (suc (suc k)))) = b k

twelve_bytes : (k0 k1 k2 k3 v w : ℕ) → k0 < 256 → k1 < 256 → k2 < 256 → k3 < 256 → Bytes (twelve k0 k1 k2 k3 v w)
twelve_bytes k0 k1 k2 k3 v w h0 h1 h2 h3 zero = h0
twelve_bytes k0 k1 k2 k3 v w h0 h1 h2 h3 (suc zero) = h1
twelve_bytes k0 k1 k2 k3 v w h0 h1 h2 h3 (suc (suc zero)) = h2
twelve_bytes k0 k1 k2 k3 v w h0 h1 h2 h3 (suc (suc (suc zero))) = h3
twelve_bytes k0 k1 k2 k3 v w h0 h1 h2 h3 (suc (suc (suc (suc k)))) = bytes_four v (bytes4 w) (bytes_four w [] (λ k. lit< tt)) k

-- what is read of a block that was closed over them
low_is : (k0 k1 k2 k3 v w : ℕ) → v < 2 ^ 32 → little (sealed (twelve k0 k1 k2 k3 v w)) 4 ≡ v
low_is k0 k1 k2 k3 v w h =
    let first = twelve k0 k1 k2 k3 v w in
    let g = λ (k : ℕ) (l : k < 12). sealed_low first k refl l in
    same_little (g 4 (lit< tt)) (g 5 (lit< tt)) (g 6 (lit< tt)) (g 7 (lit< tt)) ∙ little_of v h

high_is : (k0 k1 k2 k3 v w : ℕ) → w < 2 ^ 32 → little (sealed (twelve k0 k1 k2 k3 v w)) 8 ≡ w
high_is k0 k1 k2 k3 v w h =
    let first = twelve k0 k1 k2 k3 v w in
    let g = λ (k : ℕ) (l : k < 12). sealed_low first k refl l in
    same_little (g 8 (lit< tt)) (g 9 (lit< tt)) (g 10 (lit< tt)) (g 11 (lit< tt)) ∙ little_of w h

-- an output's block, by what stands in it
unfoldable entry_body : ℕ → ℕ → ℕ → ℕ → ℕ → ℕ → ℕ → ℕ → Result (Unit {0}) Refusal → Result Entry Refusal
entry_body inputs b k0 k1 p f v w z =
    field b 0 (eqb k0 2) (field b 1 (eqb k1 b) (field b 2 (leb 1 p) (field b 3 (leb f 1) (field b 4 (vector_fits inputs v) (field b 8 (wrong_fits inputs w) (then z (λ _. Ok (record { price = p; taken = eqb f 1; vector = v; wrong = w }))))))))

same_body : (inputs b : ℕ) {k0 j0 k1 j1 p q f g v x w y : ℕ} {z u : Result (Unit {0}) Refusal} → k0 ≡ j0 → k1 ≡ j1 → p ≡ q → f ≡ g → v ≡ x → w ≡ y → z ≡ u → entry_body inputs b k0 k1 p f v w z ≡ entry_body inputs b j0 j1 q g x y u
same_body inputs b e0 e1 ep ef ev ew ez = cc

-- three tests, each a field, and then a value
three : {X : Type 0} (b : ℕ) (x y z : Bool) (v : X) → field b 2 x (field b 4 y (field b 8 z (Ok v))) ≡ then (field b 2 x (field b 4 y (field b 8 z (Ok (tt {0}))))) (λ _. Ok v)
three b true true true v = refl
three b true true false v = refl
three b true false z v = refl
three b false y z v = refl

body_is : (inputs b p : ℕ) (t : Bool) (v w : ℕ) → entry_body inputs b 2 b p (flag t) v w (Ok tt) ≡ then (entry_checked inputs b (record { price = p; taken = t; vector = v; wrong = w })) (λ _. Ok (record { price = p; taken = t; vector = v; wrong = w }))
unfolding entry_body
body_is inputs b p true v w = cond-true (eqb b b) _ _ (eq-eqb b b refl) ∙ three b (leb 1 p) (vector_fits inputs v) (wrong_fits inputs w) _
body_is inputs b p false v w = cond-true (eqb b b) _ _ (eq-eqb b b refl) ∙ three b (leb 1 p) (vector_fits inputs v) (wrong_fits inputs w) _

-- an output's values fit their bytes
pub record EntryTyped (e : Entry) : Type 0 where
  pub price : e.price < 256
  pub vector : e.vector < 2 ^ 32
  pub wrong : e.wrong < 2 ^ 32

pub entry_back : (inputs b : ℕ) (e : Entry) → EntryTyped e → entry_read inputs b (entry_block b e) ≡ then (entry_checked inputs b e) (λ _. Ok e)
unfolding entry_body
entry_back inputs b e t =
    let first = twelve 2 b e.price (flag e.taken) e.vector e.wrong in
    let g = λ (k : ℕ) (l : k < 12). sealed_low first k refl l in
    same_body inputs b (g 0 (lit< tt)) (g 1 (lit< tt)) (g 2 (lit< tt)) (g 3 (lit< tt)) (low_is 2 b e.price (flag e.taken) e.vector e.wrong t.vector) (high_is 2 b e.price (flag e.taken) e.vector e.wrong t.wrong) (sealed_zeros b first refl)
    ∙ body_is inputs b e.price e.taken e.vector e.wrong

flag_small : (t : Bool) → flag t < 256
flag_small true = lit< tt
flag_small false = lit< tt

pub entry_summed : (b : ℕ) (e : Entry) → b < 256 → EntryTyped e → summed b (entry_block b e) ≡ Ok tt
entry_summed b e h t = sealed_summed b _ refl (twelve_bytes 2 b e.price (flag e.taken) e.vector e.wrong (lit< tt) h t.price (flag_small e.taken))

-- one check after another
nest : (p q : Result (Unit {0}) Refusal) (e : Entry) (es : List Entry) → then (then p (λ _. Ok e)) (λ y. then (then q (λ _. Ok es)) (λ ys. Ok (y ∷ ys))) ≡ then (then p (λ _. q)) (λ _. Ok (e ∷ es))
nest (Ok u) (Ok v) e es = refl
nest (Ok u) (Err x) e es = refl
nest (Err x) q e es = refl

module _ (inputs : ℕ) (file : List ℕ) where
  -- where the rest of a file is the blocks of some outputs, its next block is the first one's
  next_is : (b : ℕ) (e : Entry) (rest : List ℕ) → drop (b * 512) file ≡ entry_block b e ++ rest → (block file b ≡ entry_block b e) × (drop ((b + 1) * 512) file ≡ rest)
  next_is b e rest d =
      let l : length (entry_block b e) ≡ 512 = length_sealed _ refl in
      let s : b * 512 + 512 ≡ (b + 1) * 512 = omega arith in
      (ap (take 512) d ∙ take_at (entry_block b e) rest 512 l, ap (λ k. drop k file) (sym s) ∙ (sym (drop-drop 512 (b * 512) file) ∙ (ap (drop 512) d ∙ drop_at (entry_block b e) rest 512 l)))

  -- so all its sums are right
  pub sums_back : (b : ℕ) (es : List Entry) → b + length es ≤ 256 → ((k : ℕ) → EntryTyped (get_or es k no_entry)) → drop (b * 512) file ≡ entry_blocks b es → sums file b (length es) ≡ Ok tt
  unfolding sums entry_blocks
  sums_back b [] h t d = refl
  sums_back b (e ∷ es) h t d =
      let n = next_is b e (entry_blocks (b + 1) es) d in
      ap (λ x. then (summed b x) (λ _. sums file (b + 1) (length es))) n.0
      ∙ (ap (λ x. then x (λ _. sums file (b + 1) (length es))) (entry_summed b e (omega arith) (t 0)) ∙ sums_back (b + 1) es (omega arith) (λ k. t (suc k)) n.1)

  -- and they are read as the values' own check answers
  pub entries_back : (b : ℕ) (es : List Entry) → ((k : ℕ) → EntryTyped (get_or es k no_entry)) → drop (b * 512) file ≡ entry_blocks b es → entries_read inputs file b (length es) ≡ then (entries_checked inputs b es) (λ _. Ok es)
  unfolding entries_read entries_checked entry_blocks
  entries_back b [] t d = refl
  entries_back b (e ∷ es) t d =
      let n = next_is b e (entry_blocks (b + 1) es) d in
      ap (λ x. then (entry_read inputs b x) (λ y. then (entries_read inputs file (b + 1) (length es)) (λ ys. Ok (y ∷ ys)))) n.0
      ∙ (ap (λ x. then x (λ y. then (entries_read inputs file (b + 1) (length es)) (λ ys. Ok (y ∷ ys)))) (entry_back inputs b e (t 0))
      ∙ (ap (λ x. then (then (entry_checked inputs b e) (λ _. Ok e)) (λ y. then x (λ ys. Ok (y ∷ ys)))) (entries_back (b + 1) es (λ k. t (suc k)) n.1)
      ∙ nest (entry_checked inputs b e) (entries_checked inputs (b + 1) es) e es))

-- block 0, by what stands in it
unfoldable head_body : ℕ → ℕ → ℕ → ℕ → ℕ → ℕ → Result (Unit {0}) Refusal → Result Head Refusal
head_body k0 k1 n m l s z = field 0 0 (eqb k0 1) (field 0 1 (eqb k1 0) (field 0 2 (within 1 16 n) (field 0 3 (within 1 8 m) (then z (λ _. Ok (record { inputs = n; outputs = m; limit = l; spent = s }))))))

same_head : {k0 j0 k1 j1 n p m q l x s y : ℕ} {z u : Result (Unit {0}) Refusal} → k0 ≡ j0 → k1 ≡ j1 → n ≡ p → m ≡ q → l ≡ x → s ≡ y → z ≡ u → head_body k0 k1 n m l s z ≡ head_body j0 j1 p q x y u
same_head e0 e1 en em el es ez = cc

-- the head of some values
abbrev head_of : Contents → Head
head_of c = record { inputs = c.inputs; outputs = length c.entries; limit = c.limit; spent = c.spent }

head_back : (c : Contents) → Typed c → head_read (head_block c) ≡ field 0 2 (within 1 16 c.inputs) (field 0 3 (within 1 8 (length c.entries)) (Ok (head_of c)))
unfolding head_body
head_back c t =
    let m = length c.entries in
    let first = twelve 1 0 c.inputs m c.limit c.spent in
    let g = λ (k : ℕ) (l : k < 12). sealed_low first k refl l in
    same_head (g 0 (lit< tt)) (g 1 (lit< tt)) (g 2 (lit< tt)) (g 3 (lit< tt)) (low_is 1 0 c.inputs m c.limit c.spent t.limit) (high_is 1 0 c.inputs m c.limit c.spent t.spent) (sealed_zeros 0 first refl)

pub length_blocks : (b : ℕ) (es : List Entry) → length (entry_blocks b es) ≡ length es * 512
unfolding entry_blocks
length_blocks b [] = refl
length_blocks b (e ∷ es) = let i = length_blocks (b + 1) es in let l : length (entry_block b e) ≡ 512 = length_sealed _ refl in length-append (entry_block b e) (entry_blocks (b + 1) es) ∙ omega arith

-- the file of some values: how long it is, and how many blocks that makes
pub length_written : (c : Contents) → length (written c) ≡ (length c.entries + 1) * 512
length_written c = let i = length_blocks 1 c.entries in let l : length (head_block c) ≡ 512 = length_sealed _ refl in length-append (head_block c) (entry_blocks 1 c.entries) ∙ omega arith

counted_back : (c : Contents) → 1 ≤ length c.entries → length c.entries ≤ 8 → counted (written c) ≡ Ok (length c.entries + 1)
counted_back c low high = counted_by (written c) (length c.entries + 1) (length_written c) (omega arith) (omega arith)

-- the blocks behind block 0
rest_back : (c : Contents) → drop (1 * 512) (written c) ≡ entry_blocks 1 c.entries
rest_back c = drop_at (head_block c) (entry_blocks 1 c.entries) 512 (length_sealed _ refl)

first_back : (c : Contents) → block (written c) 0 ≡ head_block c
first_back c = take_at (head_block c) (entry_blocks 1 c.entries) 512 (length_sealed _ refl)

entries_typed : (c : Contents) → Typed c → (k : ℕ) → EntryTyped (get_or c.entries k no_entry)
entries_typed c t k = record { price = t.price k; vector = t.vector k; wrong = t.wrong k }

blocks_back : (c : Contents) → Typed c → 1 ≤ length c.entries → length c.entries ≤ 8 → blocks_read (written c) ≡ Ok (length c.entries + 1)
unfolding sums
blocks_back c t low high =
    let n = length c.entries in
    let file = written c in
    let head-right : summed 0 (block file 0) ≡ Ok tt = ap (summed 0) (first_back c) ∙ sealed_summed 0 _ refl (twelve_bytes 1 0 c.inputs n c.limit c.spent (lit< tt) (lit< tt) t.inputs (omega arith)) in
    let all_right : sums file 0 (n + 1) ≡ Ok tt = ap (sums file 0) (add-one n) ∙ (ap (λ x. then x (λ _. sums file (0 + 1) n)) head-right ∙ sums_back c.inputs file 1 c.entries (omega arith) (entries_typed c t) (rest_back c)) in
    ap (λ r. then r (λ k. then (sums file 0 k) (λ _. Ok k))) (counted_back c low high) ∙ ap (λ r. then r (λ _. Ok (n + 1))) all_right

-- the last two layers
abbrev with_head : Head → List Entry → Result (Head × List Entry) Refusal
with_head h es = Ok (h, es)

abbrev sheet_of : Head × List Entry → Result Contents Refusal
sheet_of p = joined p.0 p.1

-- the three layers, where the first field tests answer x and y
layers : (x y : Bool) (c : Contents) (q : Result (Unit {0}) Refusal) (rest : Head → Result (List Entry) Refusal) → rest (head_of c) ≡ then q (λ _. Ok c.entries) → then (then (field 0 2 x (field 0 3 y (Ok (head_of c)))) (λ h. then (rest h) (with_head h))) sheet_of ≡ field 0 2 x (field 0 3 y (then q (λ _. then (agreed (length c.entries) (length c.entries) c.limit c.spent c.entries) (λ _. Ok c))))
layers true true c (Ok u) rest e = ap (λ (r : Result (List Entry) Refusal). then (then r (with_head (head_of c))) sheet_of) e
layers true true c (Err z) rest e = ap (λ (r : Result (List Entry) Refusal). then (then r (with_head (head_of c))) sheet_of) e
layers true false c q rest e = refl
layers false y c q rest e = refl

-- values of which no sheet can be made are refused as their file would be, and the others load as they are
pub refused_alike : (c : Contents) → Typed c → 1 ≤ length c.entries → length c.entries ≤ 8 → loaded (written c) ≡ checked c
refused_alike c t low high =
    let n = length c.entries in
    let file = written c in
    let e : n + 1 - 1 ≡ n = omega arith in
    let rest = λ (h : Head). entries_read h.inputs file 1 (n + 1 - 1) in
    let back : rest (head_of c) ≡ then (entries_checked c.inputs 1 c.entries) (λ _. Ok c.entries) = ap (entries_read c.inputs file 1) e ∙ entries_back c.inputs file 1 c.entries (entries_typed c t) (rest_back c) in
    ap (λ (r : Result ℕ Refusal). then (then r (λ k. then (head_read (block file 0)) (λ h. then (entries_read h.inputs file 1 (k - 1)) (with_head h)))) sheet_of) (blocks_back c t low high)
    ∙ (ap (λ (r : Result Head Refusal). then (then r (λ h. then (rest h) (with_head h))) sheet_of) (ap head_read (first_back c) ∙ head_back c t)
    ∙ layers (within 1 16 c.inputs) (within 1 8 (length c.entries)) c (entries_checked c.inputs 1 c.entries) rest back)

-- values that keep the rules pass their own check
entry_passes : (inputs b : ℕ) (e : Entry) → entry_keeps inputs e ≡ true → entry_checked inputs b e ≡ Ok tt
entry_passes inputs b e k =
    let p = and_parts (leb 1 e.price) (vector_fits inputs e.vector && wrong_fits inputs e.wrong) k in
    let q = and_parts (vector_fits inputs e.vector) (wrong_fits inputs e.wrong) p.1 in
    cond-true (leb 1 e.price) _ _ p.0 ∙ (cond-true (vector_fits inputs e.vector) _ _ q.0 ∙ cond-true (wrong_fits inputs e.wrong) _ _ q.1)

entries_pass : (inputs b : ℕ) (es : List Entry) → entries_keep inputs es ≡ true → entries_checked inputs b es ≡ Ok tt
unfolding entries_keep entries_checked
entries_pass inputs b [] k = refl
entries_pass inputs b (e ∷ es) k =
    let p = and_parts (entry_keeps inputs e) (entries_keep inputs es) k in
    ap (λ r. then r (λ _. entries_checked inputs (b + 1) es)) (entry_passes inputs b e p.0) ∙ entries_pass inputs (b + 1) es p.1

agreed_by : (n limit spent : ℕ) (es : List Entry) → eqb spent (costs es) ≡ true → leb spent limit ≡ true → agreed n n limit spent es ≡ Ok tt
agreed_by n limit spent es e l = cond-true (eqb n n) _ _ (eq-eqb n n refl) ∙ (cond-true (eqb spent (costs es)) _ _ e ∙ cond-true (leb spent limit) _ _ l)

pub checked_kept : (c : Contents) → keeps c.inputs c.limit c.spent c.entries ≡ true → checked c ≡ Ok c
checked_kept c k =
    let n = length c.entries in
    let p = and_parts (within 1 16 c.inputs) _ k in
    let q = and_parts (within 1 8 n) _ p.1 in
    let r = and_parts (entries_keep c.inputs c.entries) _ q.1 in
    let s = and_parts (eqb c.spent (costs c.entries)) _ r.1 in
    cond-true (within 1 16 c.inputs) _ _ p.0 ∙ (cond-true (within 1 8 n) _ _ q.0
    ∙ (ap (λ x. then x (λ _. then (agreed n n c.limit c.spent c.entries) (λ _. Ok c))) (entries_pass c.inputs 1 c.entries r.0)
    ∙ ap (λ x. then x (λ _. Ok c)) (agreed_by n c.limit c.spent c.entries s.0 s.1)))

-- a written sheet loads as the sheet that was written
pub written_loads : (c : Contents) → Typed c → keeps c.inputs c.limit c.spent c.entries ≡ true → loaded (written c) ≡ Ok c
written_loads c t k = let f = few_entries c.inputs c.limit c.spent c.entries k in refused_alike c t f.0 f.1 ∙ checked_kept c k
