-- Which way a file goes: refused for its length, a sum or a field, or sound in all three.
use Rattle.std.proofs.Common.{◌≡◌, ℕ, ◌/◌, ◌%◌, ◌<◌, Bool, true, false, cond, ◌&&◌, eqb, leb, ◌≢◌, ◌⊎◌, ◌↔◌, List, length, Ok, Err, Result, sym, refl, ap, ◌∙◌, subst, inl, inr, ⊎_elim, arith}
use Rattle.std.proofs.lemmas.Bool.{true≢false, cases_order, eqb-true, eqb-false}
use Rattle.refusal.specs.declared.table.Refusal.{Refusal}
use Rattle.refusal.specs.declared.table.Cause.{Cause}
use Rattle.refusal.specs.declared.table.Cause.TheVariants.{Blocks, Spent, Limit}
use Rattle.refusal.specs.declared.table.Refusal.TheVariants.{FileLength, BlockSum, BadField, BadCause}
use Rattle.refusal.specs.Table.{cause_number}
use Rattle.burn.specs.Blocks.{then, sums}
use Rattle.burn.specs.Rules.{within, costs}
use Rattle.burn.specs.Faults.{Whole, sum_told, sum_due, LowestSum, field_kept, LowestField, FaultLaws}
use Rattle.burn.specs.Files.{Contents, counted, joined, loaded}
use Rattle.burn.specs.declared.entry.Entry.{Entry}
use Rattle.burn.specs.declared.entry.Head.{Head}
use Rattle.burn.proofs.Loads.{same_value, counted_ok, counted_by}
use Rattle.burn.proofs.Scans.{Tried, Passed, sum_kept, tried_sums, fields_of, passed_fields}

-- a file of n whole blocks is counted as n
counted_whole : (file : List ℕ) (n : ℕ) → Whole file n → counted file ≡ Ok n
counted_whole file n w = counted_by file n w.long w.at_least w.at_most

whole_counted : (file : List ℕ) (n : ℕ) → counted file ≡ Ok n → Whole file n
whole_counted file n q = let c = counted_ok file n q in record { long = c.0; at_least = c.1; at_most = c.2 }

one_count : (file : List ℕ) (m n : ℕ) → Whole file m → Whole file n → m ≡ n
one_count file m n v w = same_value (sym (counted_whole file m v) ∙ counted_whole file n w)

-- a length that was refused
counted_stops : (file : List ℕ) (e : Refusal) → counted file ≡ Err e → e ≡ FileLength
counted_stops file e q = go (eqb (length file % 512) 0 && within 2 9 (length file / 512)) q
  where
    go : (t : Bool) → cond t (Ok (length file / 512)) (Err FileLength) ≡ Err e → e ≡ FileLength
    go true p = cc
    go false p = cc

-- causes give a sheet or are named by a cause
abbrev Caused : Result Contents Refusal → Type 0
Caused r = ((c : Contents) × (r ≡ Ok c)) ⊎ ((m : Cause) × (r ≡ Err (BadCause (cause_number m))))

caused : (h : Head) (es : List Entry) → Caused (joined h es)
caused h es = go (eqb h.outputs (length es)) (eqb h.spent (costs es)) (leb h.spent h.limit)
  where
    c : Contents
    c = record { inputs = h.inputs; limit = h.limit; spent = h.spent; entries = es }

    go : (x y z : Bool) → Caused (then (cond x (cond y (cond z (Ok (tt {0})) (Err (BadCause (cause_number Limit)))) (Err (BadCause (cause_number Spent)))) (Err (BadCause (cause_number Blocks)))) (λ _. Ok c))
    go true true true = inl (c, refl)
    go true true false = inr (Limit, refl)
    go true false z = inr (Spent, refl)
    go false y z = inr (Blocks, refl)

-- every file goes one of four ways
data Way (file : List ℕ) : Type 0 where
  by_length : loaded file ≡ Err FileLength → ((n : ℕ) → ¬ Whole file n) → Way file
  by_sum : (b : ℕ) → loaded file ≡ Err (BlockSum b) → LowestSum file b → Way file
  by_field : (b byte : ℕ) → loaded file ≡ Err (BadField b byte) → LowestField file b byte → Way file
  sound : (n : ℕ) → Whole file n → ((c : ℕ) → c < n → sum_told file c ≡ sum_due file c) → ((c k : ℕ) → c < n → field_kept file c k ≡ true) → Caused (loaded file) → Way file

way_fields : (file : List ℕ) (n : ℕ) → Whole file n → ((c : ℕ) → c < n → sum_told file c ≡ sum_due file c) → (r : Result (Head × List Entry) Refusal) → loaded file ≡ then r (λ p. joined p.0 p.1) → Passed (field_kept file) 0 n r → Way file
way_fields file n w s (Ok p) q d = sound n w s (λ c k h. d c k (omega arith) h) (subst Caused (sym q) (caused p.0 p.1))
way_fields file n w s (Err e) q d =
    by_field d.place d.byte (q ∙ ap Err d.named)
    (record { blocks = n; whole = w; sums_right = s; inside = d.inside; wrong = d.wrong; before_it = d.before_it; blocks_before = λ c k h. d.blocks_before c k (omega arith) h })

way_sums : (file : List ℕ) (n : ℕ) → Whole file n → (r : Result (Unit {0}) Refusal) → loaded file ≡ then (then (then r (λ _. Ok n)) (fields_of file)) (λ p. joined p.0 p.1) → Tried (sum_kept file) BlockSum 0 n r → Way file
way_sums file n w (Ok u) q d = let l = w.at_least in way_fields file n w (λ c h. eqb-true _ _ (d c (omega arith) h)) (fields_of file n) q (passed_fields file n (omega arith))
way_sums file n w (Err e) q d =
    by_sum d.place (q ∙ ap Err d.named)
    (record { blocks = n; whole = w; inside = d.inside; wrong = eqb-false _ _ d.wrong; before = λ c h. eqb-true _ _ (d.before c (omega arith) h) })

way_counted : (file : List ℕ) (r : Result ℕ Refusal) → counted file ≡ r → Way file
way_counted file (Ok n) q =
    way_sums file n (whole_counted file n q) (sums file 0 n) (ap (λ (r : Result ℕ Refusal). then (then (then r (λ m. then (sums file 0 m) (λ _. Ok m))) (fields_of file)) (λ p. joined p.0 p.1)) q)
    (tried_sums file 0 n n (omega arith))
way_counted file (Err e) q =
    by_length (ap (λ (r : Result ℕ Refusal). then (then (then r (λ m. then (sums file 0 m) (λ _. Ok m))) (fields_of file)) (λ p. joined p.0 p.1)) q ∙ ap Err (counted_stops file e q))
    (λ n w. let e = counted_whole file n w in cc)

way : (file : List ℕ) → Way file
way file = way_counted file (counted file) refl

-- an answer that names no cause is not one of these
no_cause : {r : Result Contents Refusal} {x : Refusal} → Caused r → r ≡ Err x → ((m : Cause) → x ≢ BadCause (cause_number m)) → ⊥
no_cause (inl (c, q)) p d = cc
no_cause (inr (m, q)) p d = d m (cc)

-- the length
length_told : (file : List ℕ) → Way file → loaded file ≡ Err FileLength → (n : ℕ) → ¬ Whole file n
length_told file (by_length q f) p = f
length_told file (by_sum b q l) p = absurd (cc)
length_told file (by_field b byte q l) p = absurd (cc)
length_told file (sound n w s f c) p = absurd (no_cause c p (λ m e. cc))

length_named : (file : List ℕ) → Way file → ((n : ℕ) → ¬ Whole file n) → loaded file ≡ Err FileLength
length_named file (by_length q f) g = q
length_named file (by_sum b q l) g = absurd (g l.blocks l.whole)
length_named file (by_field b byte q l) g = absurd (g l.blocks l.whole)
length_named file (sound n w s f c) g = absurd (g n w)

-- the lowest wrong sum
sum_said : (file : List ℕ) (b : ℕ) → Way file → loaded file ≡ Err (BlockSum b) → LowestSum file b
sum_said file b (by_length q f) p = absurd (cc)
sum_said file b (by_sum c q l) p = let e : c ≡ b = cc in subst (LowestSum file) e l
sum_said file b (by_field c byte q l) p = absurd (cc)
sum_said file b (sound n w s f c) p = absurd (no_cause c p (λ m e. cc))

-- two places of which neither is below the other
same_place : {b c : ℕ} → (c < b → ⊥) → (b < c → ⊥) → c ≡ b
same_place {b} {c} f g = ⊎_elim (λ e. e) (⊎_elim (λ h. absurd (f h)) (λ h. absurd (g h))) (cases_order c b)

one_sum : (file : List ℕ) (b c : ℕ) → LowestSum file b → LowestSum file c → c ≡ b
one_sum file b c l m = same_place (λ h. m.wrong (l.before c h)) (λ h. l.wrong (m.before b h))

sum_inside : (file : List ℕ) (b n : ℕ) → LowestSum file b → Whole file n → b < n
sum_inside file b n l w = subst (λ (k : ℕ). b < k) (one_count file l.blocks n l.whole w) l.inside

sum_named : (file : List ℕ) (b : ℕ) → Way file → LowestSum file b → loaded file ≡ Err (BlockSum b)
sum_named file b (by_length q f) l = absurd (f l.blocks l.whole)
sum_named file b (by_sum c q m) l = q ∙ ap (λ k. Err (BlockSum k)) (one_sum file b c l m)
sum_named file b (by_field c byte q m) l = absurd (l.wrong (m.sums_right b (sum_inside file b m.blocks l m.whole)))
sum_named file b (sound n w s f c) l = absurd (l.wrong (s b (sum_inside file b n l w)))

-- the lowest wrong field
field_said : (file : List ℕ) (b byte : ℕ) → Way file → loaded file ≡ Err (BadField b byte) → LowestField file b byte
field_said file b byte (by_length q f) p = absurd (cc)
field_said file b byte (by_sum c q l) p = absurd (cc)
field_said file b byte (by_field c k q l) p =
    let d : c ≡ b = cc in
    let e : k ≡ byte = cc in subst (λ (x : ℕ). LowestField file b x) e (subst (λ (x : ℕ). LowestField file x k) d l)
field_said file b byte (sound n w s f c) p = absurd (no_cause c p (λ m e. cc))

kept_or_not : {t : Bool} → t ≡ true → t ≡ false → ⊥
kept_or_not p q = true≢false (sym p ∙ q)

one_block : (file : List ℕ) (b byte c k : ℕ) → LowestField file b byte → LowestField file c k → c ≡ b
one_block file b byte c k l m = same_place (λ h. kept_or_not (l.blocks_before c k h) m.wrong) (λ h. kept_or_not (m.blocks_before b byte h) l.wrong)

one_byte : (file : List ℕ) (b byte k : ℕ) → LowestField file b byte → LowestField file b k → k ≡ byte
one_byte file b byte k l m = same_place (λ h. kept_or_not (l.before_it k h) m.wrong) (λ h. kept_or_not (m.before_it byte h) l.wrong)

field_named : (file : List ℕ) (b byte : ℕ) → Way file → LowestField file b byte → loaded file ≡ Err (BadField b byte)
field_named file b byte (by_length q f) l = absurd (f l.blocks l.whole)
field_named file b byte (by_sum c q m) l = absurd (m.wrong (l.sums_right c (sum_inside file c l.blocks m l.whole)))
field_named file b byte (by_field c k q m) l =
    let d = one_block file b byte c k l m in
    q ∙ (ap (λ x. Err (BadField x k)) d ∙ ap (λ x. Err (BadField b x)) (one_byte file b byte k l (subst (λ (x : ℕ). LowestField file x k) d m)))
field_named file b byte (sound n w s f c) l = absurd (kept_or_not (f b byte (subst (λ (x : ℕ). b < x) (one_count file l.blocks n l.whole w) l.inside)) l.wrong)

pub lengths : (file : List ℕ) → (loaded file ≡ Err FileLength) ↔ ((n : ℕ) → ¬ Whole file n)
lengths file = (length_told file (way file), length_named file (way file))

pub lowest_sum : (file : List ℕ) (b : ℕ) → (loaded file ≡ Err (BlockSum b)) ↔ LowestSum file b
lowest_sum file b = (sum_said file b (way file), sum_named file b (way file))

pub lowest_field : (file : List ℕ) (b byte : ℕ) → (loaded file ≡ Err (BadField b byte)) ↔ LowestField file b byte
lowest_field file b byte = (field_said file b byte (way file), field_named file b byte (way file))

pub fault_laws : FaultLaws
fault_laws = record { lengths = lengths; lowest_sum = lowest_sum; lowest_field = lowest_field }
