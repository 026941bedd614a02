-- Sums and fields tried in their order: a value where all are kept, else the lowest that is not.
use Rattle.std.proofs.Common.{◌≡◌, ℕ, zero, suc, ◌+◌, ◌-◌, ◌<◌, ◌≤◌, Bool, true, false, cond, eqb, List, get_or, Ok, Err, Result, sym, refl, ap, ◌∙◌, subst, ⊎_elim, arith, lit<}
use Rattle.std.proofs.Math.Nat.{eq-or-lt_of_le}
use Rattle.std.proofs.lemmas.Bool.{cases_lt, ne_eqb}
use Rattle.std.proofs.lemmas.Bool.Decides.{nat_tests}
use Rattle.refusal.specs.declared.table.Refusal.{Refusal}
use Rattle.refusal.specs.declared.table.Refusal.TheVariants.{BlockSum, BadField}
use Rattle.burn.specs.Blocks.{block, then, sums, zeros}
use Rattle.burn.specs.Faults.{sum_told, sum_due, head_field, entry_field, field_kept}
use Rattle.burn.specs.Files.{head_read, entry_read, entries_read}
use Rattle.burn.specs.declared.entry.Entry.{Entry}
use Rattle.burn.specs.declared.entry.Head.{Head}
use Rattle.burn.proofs.Loads.{head_read_ok}

-- the lowest place from one on that is not kept, and its name
pub record Lowest (kept : ℕ → Bool) (name : ℕ → Refusal) (from end : ℕ) (e : Refusal) : Type 0 where
  pub place : ℕ
  pub past : from ≤ place
  pub inside : place < end
  pub named : e ≡ name place
  pub wrong : kept place ≡ false
  pub before : (k : ℕ) → from ≤ k → k < place → kept k ≡ true

-- all places from one up to another, tried
abbrev pub Tried : {X : Type 0} → (ℕ → Bool) → (ℕ → Refusal) → ℕ → ℕ → Result X Refusal → Type 0
Tried kept name from end (Ok x) = (k : ℕ) → from ≤ k → k < end → kept k ≡ true
Tried kept name from end (Err e) = Lowest kept name from end e

-- places where nothing can break
pub tried_past : {X : Type 0} (kept : ℕ → Bool) (name : ℕ → Refusal) (from next end : ℕ) (r : Result X Refusal) → from < next → ((k : ℕ) → from ≤ k → k < next → kept k ≡ true) → Tried kept name next end r → Tried kept name from end r
tried_past kept name from next end (Ok x) i q d = λ k l h. ⊎_elim (λ m. q k l m) (λ m. d k m h) (cases_lt k next)
tried_past kept name from next end (Err e) i q d =
    record {
      place = d.place;
      past = let p = d.past in omega arith;
      inside = d.inside;
      named = d.named;
      wrong = d.wrong;
      before = λ k l h. ⊎_elim (λ m. q k l m) (λ m. d.before k m h) (cases_lt k next);
    }

-- one place more
pub tried_more : {X : Type 0} (kept : ℕ → Bool) (name : ℕ → Refusal) (from end : ℕ) (t : Bool) (rest : Result X Refusal) → kept from ≡ t → from < end → Tried kept name (from + 1) end rest → Tried kept name from end (cond t rest (Err (name from)))
tried_more kept name from end true rest q i d = tried_past kept name from (from + 1) end rest (omega arith) (λ k l h. let e : k ≡ from = omega arith in ap kept e ∙ q) d
tried_more kept name from end false rest q i d = record { place = from; past = omega arith; inside = i; named = refl; wrong = q; before = λ k l h. absurd (omega arith) }

-- what is made of the value does not count
pub tried_then : {X Y : Type 0} (kept : ℕ → Bool) (name : ℕ → Refusal) (from end : ℕ) (r : Result X Refusal) (f : X → Y) → Tried kept name from end r → Tried kept name from end (then r (λ x. Ok (f x)))
tried_then kept name from end (Ok x) f d = d
tried_then kept name from end (Err e) f d = d

-- the sums of all blocks
abbrev pub sum_kept : List ℕ → ℕ → Bool
sum_kept file b = eqb (sum_told file b) (sum_due file b)

goes_on : {X : Type 0} (t : Bool) (e : Refusal) (rest : Result X Refusal) → cond t rest (Err e) ≡ then (cond t (Ok (tt {0})) (Err e)) (λ _. rest)
goes_on true e rest = refl
goes_on false e rest = refl

pub tried_sums : (file : List ℕ) (b n end : ℕ) → b + n ≡ end → Tried (sum_kept file) BlockSum b end (sums file b n)
unfolding sums
tried_sums file b zero end q = λ k l h. absurd (omega arith)
tried_sums file b (suc n) end q =
    subst (λ r. Tried (sum_kept file) BlockSum b end r) (goes_on (sum_kept file b) (BlockSum b) (sums file (b + 1) n))
    (tried_more (sum_kept file) BlockSum b end (sum_kept file b) (sums file (b + 1) n) refl (omega arith) (tried_sums file (b + 1) n end (omega arith)))

-- the padding of a block
pub tried_zeros : (kept : ℕ → Bool) (b : ℕ) (xs : List ℕ) (place n end : ℕ) → place + n ≡ end → ((k : ℕ) → place ≤ k → k < end → kept k ≡ eqb (get_or xs k 0) 0) → Tried kept (BadField b) place end (zeros b xs place n)
unfolding zeros
tried_zeros kept b xs place zero end q z = λ k l h. absurd (omega arith)
tried_zeros kept b xs place (suc n) end q z =
    tried_more kept (BadField b) place end (eqb (get_or xs place 0) 0) (zeros b xs (place + 1) n) (z place (omega arith) (omega arith)) (omega arith)
    (tried_zeros kept b xs (place + 1) n end (omega arith) (λ k l h. z k (omega arith) h))

-- the fields of block 0
head_padding : (xs : List ℕ) (k : ℕ) → 12 ≤ k → k < 508 → head_field xs k ≡ eqb (get_or xs k 0) 0
unfolding head_field
head_padding xs k l h = grind (arith, nat_tests)

head_gap : (xs : List ℕ) (k : ℕ) → 4 ≤ k → k < 12 → head_field xs k ≡ true
unfolding head_field
head_gap xs k l h = grind (arith, nat_tests)

head_end : (xs : List ℕ) (k : ℕ) → 508 ≤ k → head_field xs k ≡ true
unfolding head_field
head_end xs k h = grind (arith, nat_tests)

tried_head : (xs : List ℕ) → Tried (head_field xs) (BadField 0) 0 508 (head_read xs)
unfolding head_field
tried_head xs =
    let kept = head_field xs in
    let more = tried_more kept (BadField 0) in
    let low = tried_past kept (BadField 0) 4 12 508 _ (lit< tt) (head_gap xs) (tried_then kept (BadField 0) 12 508 (zeros 0 xs 12 496) _ (tried_zeros kept 0 xs 12 496 508 refl (head_padding xs))) in
    more 0 508 _ _ refl (lit< tt) (more 1 508 _ _ refl (lit< tt) (more 2 508 _ _ refl (lit< tt) (more 3 508 _ _ refl (lit< tt) low)))

-- the fields of an output's block
entry_padding : (inputs b : ℕ) (xs : List ℕ) (k : ℕ) → 12 ≤ k → k < 508 → entry_field inputs b xs k ≡ eqb (get_or xs k 0) 0
unfolding entry_field
entry_padding inputs b xs k l h = grind (arith, nat_tests)

vector_gap : (inputs b : ℕ) (xs : List ℕ) (k : ℕ) → 5 ≤ k → k < 8 → entry_field inputs b xs k ≡ true
unfolding entry_field
vector_gap inputs b xs k l h = grind (arith, nat_tests)

wrong_gap : (inputs b : ℕ) (xs : List ℕ) (k : ℕ) → 9 ≤ k → k < 12 → entry_field inputs b xs k ≡ true
unfolding entry_field
wrong_gap inputs b xs k l h = grind (arith, nat_tests)

entry_end : (inputs b : ℕ) (xs : List ℕ) (k : ℕ) → 508 ≤ k → entry_field inputs b xs k ≡ true
unfolding entry_field
entry_end inputs b xs k h = grind (arith, nat_tests)

tried_entry : (inputs b : ℕ) (xs : List ℕ) → Tried (entry_field inputs b xs) (BadField b) 0 508 (entry_read inputs b xs)
unfolding entry_field
tried_entry inputs b xs =
    let kept = entry_field inputs b xs in
    let more = tried_more kept (BadField b) in
    let past = tried_past kept (BadField b) in
    let low = past 9 12 508 _ (lit< tt) (wrong_gap inputs b xs) (tried_then kept (BadField b) 12 508 (zeros b xs 12 496) _ (tried_zeros kept b xs 12 496 508 refl (entry_padding inputs b xs))) in
    let mid = past 5 8 508 _ (lit< tt) (vector_gap inputs b xs) (more 8 508 _ _ refl (lit< tt) low) in
    more 0 508 _ _ refl (lit< tt) (more 1 508 _ _ refl (lit< tt) (more 2 508 _ _ refl (lit< tt) (more 3 508 _ _ refl (lit< tt) (more 4 508 _ _ refl (lit< tt) mid))))

-- the lowest field from a block on that is not kept
pub record Broken (kept : ℕ → ℕ → Bool) (from end : ℕ) (e : Refusal) : Type 0 where
  pub place : ℕ
  pub byte : ℕ
  pub past : from ≤ place
  pub inside : place < end
  pub named : e ≡ BadField place byte
  pub wrong : kept place byte ≡ false
  pub before_it : (k : ℕ) → k < byte → kept place k ≡ true
  pub blocks_before : (c k : ℕ) → from ≤ c → c < place → kept c k ≡ true

-- all fields of the blocks from one up to another, tried
abbrev pub Passed : {X : Type 0} → (ℕ → ℕ → Bool) → ℕ → ℕ → Result X Refusal → Type 0
Passed kept from end (Ok x) = (c k : ℕ) → from ≤ c → c < end → kept c k ≡ true
Passed kept from end (Err e) = Broken kept from end e

-- one block more
passed_on : {Y : Type 0} (kept : ℕ → ℕ → Bool) (from end : ℕ) (r : Result Y Refusal) → ((k : ℕ) → kept from k ≡ true) → Passed kept (from + 1) end r → Passed kept from end r
passed_on kept from end (Ok y) q d = λ c k l h. ⊎_elim (λ e. ap (λ b. kept b k) (sym e) ∙ q k) (λ m. d c k (omega arith) h) (eq-or-lt_of_le l)
passed_on kept from end (Err e) q d =
    record {
      place = d.place;
      byte = d.byte;
      past = let p = d.past in omega arith;
      inside = d.inside;
      named = d.named;
      wrong = d.wrong;
      before_it = d.before_it;
      blocks_before = λ c k l h. ⊎_elim (λ e. ap (λ b. kept b k) (sym e) ∙ q k) (λ m. d.blocks_before c k (omega arith) h) (eq-or-lt_of_le l);
    }

passed_more : {X Y : Type 0} (kept : ℕ → ℕ → Bool) (from end : ℕ) (r : Result X Refusal) (next : X → Result Y Refusal) → from < end → ((k : ℕ) → 508 ≤ k → kept from k ≡ true) → Tried (kept from) (BadField from) 0 508 r → ((x : X) → r ≡ Ok x → Passed kept (from + 1) end (next x)) → Passed kept from end (then r next)
passed_more kept from end (Ok x) next i z d n = passed_on kept from end (next x) (λ k. ⊎_elim (λ m. d k (omega arith) m) (z k) (cases_lt k 508)) (n x refl)
passed_more kept from end (Err e) next i z d n =
    record {
      place = from;
      byte = d.place;
      past = omega arith;
      inside = i;
      named = d.named;
      wrong = d.wrong;
      before_it = λ k h. d.before k (omega arith) h;
      blocks_before = λ c k l h. absurd (omega arith);
    }

passed_then : {X Y : Type 0} (kept : ℕ → ℕ → Bool) (from end : ℕ) (r : Result X Refusal) (f : X → Y) → Passed kept from end r → Passed kept from end (then r (λ x. Ok (f x)))
passed_then kept from end (Ok x) f d = d
passed_then kept from end (Err e) f d = d

-- the fields of all outputs
entry_kept_is : (file : List ℕ) (b : ℕ) → 1 ≤ b → entry_field (get_or (block file 0) 2 0) b (block file b) ≡ field_kept file b
entry_kept_is file b h =
    let by : Bool → ℕ → Bool = λ t k. cond t (head_field (block file 0) k) (entry_field (get_or (block file 0) 2 0) b (block file b) k) in
    sym (ap by (ne_eqb b 0 (λ e. omega arith)))

pub passed_entries : (file : List ℕ) (b n end : ℕ) → 1 ≤ b → b + n ≡ end → Passed (field_kept file) b end (entries_read (get_or (block file 0) 2 0) file b n)
unfolding entries_read
passed_entries file b zero end l q = λ c k m h. absurd (omega arith)
passed_entries file b (suc n) end l q =
    let inputs = get_or (block file 0) 2 0 in
    let e = entry_kept_is file b l in
    passed_more (field_kept file) b end (entry_read inputs b (block file b)) _ (omega arith) (λ k h. ap (λ (f : ℕ → Bool). f k) (sym e) ∙ entry_end inputs b (block file b) k h)
    (subst (λ (f : ℕ → Bool). Tried f (BadField b) 0 508 (entry_read inputs b (block file b))) e (tried_entry inputs b (block file b)))
    (λ x _. passed_then (field_kept file) (b + 1) end (entries_read inputs file (b + 1) n) _ (passed_entries file (b + 1) n end (omega arith) (omega arith)))

-- the fields of a whole file
abbrev pub fields_of : List ℕ → ℕ → Result (Head × List Entry) Refusal
fields_of file n = then (head_read (block file 0)) (λ h. then (entries_read h.inputs file 1 (n - 1)) (λ es. Ok (h, es)))

pub passed_fields : (file : List ℕ) (n : ℕ) → 1 ≤ n → Passed (field_kept file) 0 n (fields_of file n)
passed_fields file n l =
    passed_more (field_kept file) 0 n (head_read (block file 0)) _ (omega arith) (head_end (block file 0)) (tried_head (block file 0))
    (λ h q. let i : get_or (block file 0) 2 0 ≡ h.inputs = sym (ap (λ (x : Head). x.inputs) (head_read_ok (block file 0) h q).is) in
    passed_then (field_kept file) 1 n (entries_read h.inputs file 1 (n - 1)) _ (subst (λ (x : ℕ). Passed (field_kept file) 1 n (entries_read x file 1 (n - 1))) i (passed_entries file 1 (n - 1) n (omega arith) (omega arith))))
