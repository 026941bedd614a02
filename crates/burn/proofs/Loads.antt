-- What an accepted block, field or file tells.
use Rattle.std.proofs.Common.{◌≡◌, ℕ, zero, suc, ◌+◌, ◌-◌, ◌*◌, ◌/◌, ◌%◌, ◌<◌, ◌≤◌, Bool, true, false, cond, ◌&&◌, eqb, leb, List, length, get_or, Ok, Err, Result, sym, refl, ap, ◌∙◌, subst, ⊎_elim, arith}
use Rattle.std.proofs.Math.Nat.{eq-or-lt_of_le}
use Rattle.std.proofs.lemmas.Bool.{eqb-true, leb-true, eq-eqb, le-leb, cond-true, and_parts, and_from}
use Rattle.std.proofs.lemmas.Bool.Decides.{nat_tests}
use Rattle.refusal.specs.declared.table.Refusal.{Refusal}
use Rattle.refusal.specs.declared.table.Refusal.TheVariants.{FileLength, BadCause}
use Rattle.burn.specs.Blocks.{little, block, then, sums, field, zeros}
use Rattle.burn.specs.Rules.{within, vector_fits, wrong_fits, entry_keeps, entries_keep, costs, keeps, agreed}
use Rattle.burn.specs.Files.{Contents, counted, blocks_read, head_read, entry_read, entries_read, fields_read, joined, loaded}
use Rattle.burn.specs.declared.entry.Entry.{Entry}
use Rattle.burn.specs.declared.entry.Head.{Head}

-- a refusal is no value
pub no_value : {X : Type 0} {e : Refusal} {x : X} → ◌≡◌ {A = Result X Refusal} (Err e) (Ok x) → ⊥
no_value q = cc

pub same_value : {X : Type 0} {x y : X} → ◌≡◌ {A = Result X Refusal} (Ok x) (Ok y) → x ≡ y
same_value q = cc

-- two steps that give a value
pub then_ok : {X Y : Type 0} (r : Result X Refusal) (next : X → Result Y Refusal) (y : Y) → then r next ≡ Ok y → (x : X) × (r ≡ Ok x) × (next x ≡ Ok y)
then_ok (Ok x) next y q = (x, refl, q)
then_ok (Err e) next y q = cc

-- a field that was passed
pub field_ok : {X : Type 0} (b byte : ℕ) (kept : Bool) (rest : Result X Refusal) (y : X) → field b byte kept rest ≡ Ok y → (kept ≡ true) × (rest ≡ Ok y)
field_ok b byte true rest y q = (refl, q)
field_ok b byte false rest y q = cc

-- zeros that were passed
pub zeros_ok : (b : ℕ) (xs : List ℕ) (place n : ℕ) → zeros b xs place n ≡ Ok tt → (k : ℕ) → place ≤ k → k < place + n → get_or xs k 0 ≡ 0
unfolding zeros
zeros_ok b xs place zero q k l h = absurd (omega arith)
zeros_ok b xs place (suc n) q k l h =
    let f = field_ok b place (eqb (get_or xs place 0) 0) (zeros b xs (place + 1) n) tt q in
    let here : get_or xs place 0 ≡ 0 = eqb-true (get_or xs place 0) 0 f.0 in
    ⊎_elim (λ e. ap (λ j. get_or xs j 0) (sym e) ∙ here) (λ m. zeros_ok b xs (place + 1) n f.1 k (omega arith) (omega arith)) (eq-or-lt_of_le l)

-- what the block of an output keeps where it was read as e
pub record EntryRead (inputs b : ℕ) (xs : List ℕ) (e : Entry) : Type 0 where
  pub kind : get_or xs 0 0 ≡ 2
  pub number : get_or xs 1 0 ≡ b
  pub priced : leb 1 (get_or xs 2 0) ≡ true
  pub flagged : get_or xs 3 0 ≤ 1
  pub vectored : vector_fits inputs (little xs 4) ≡ true
  pub counted_wrong : wrong_fits inputs (little xs 8) ≡ true
  pub padded : (k : ℕ) → 12 ≤ k → k < 508 → get_or xs k 0 ≡ 0
  pub is : e ≡ record { price = get_or xs 2 0; taken = eqb (get_or xs 3 0) 1; vector = little xs 4; wrong = little xs 8 }

pub entry_read_ok : (inputs b : ℕ) (xs : List ℕ) (e : Entry) → entry_read inputs b xs ≡ Ok e → EntryRead inputs b xs e
entry_read_ok inputs b xs e q =
    let f0 = field_ok b 0 _ _ e q in
    let f1 = field_ok b 1 _ _ e f0.1 in
    let f2 = field_ok b 2 _ _ e f1.1 in
    let f3 = field_ok b 3 _ _ e f2.1 in
    let f4 = field_ok b 4 _ _ e f3.1 in
    let f8 = field_ok b 8 _ _ e f4.1 in
    let z = then_ok (zeros b xs 12 496) _ e f8.1 in
    record {
      kind = eqb-true _ _ f0.0;
      number = eqb-true _ _ f1.0;
      priced = f2.0;
      flagged = leb-true _ _ f3.0;
      vectored = f4.0;
      counted_wrong = f8.0;
      padded = zeros_ok b xs 12 496 z.1;
      is = sym (same_value z.2);
    }

-- what block 0 keeps where it was read as h
pub record HeadRead (xs : List ℕ) (h : Head) : Type 0 where
  pub kind : get_or xs 0 0 ≡ 1
  pub number : get_or xs 1 0 ≡ 0
  pub some_inputs : within 1 16 (get_or xs 2 0) ≡ true
  pub some_outputs : within 1 8 (get_or xs 3 0) ≡ true
  pub padded : (k : ℕ) → 12 ≤ k → k < 508 → get_or xs k 0 ≡ 0
  pub is : h ≡ record { inputs = get_or xs 2 0; outputs = get_or xs 3 0; limit = little xs 4; spent = little xs 8 }

pub head_read_ok : (xs : List ℕ) (h : Head) → head_read xs ≡ Ok h → HeadRead xs h
head_read_ok xs h q =
    let f0 = field_ok 0 0 _ _ h q in
    let f1 = field_ok 0 1 _ _ h f0.1 in
    let f2 = field_ok 0 2 _ _ h f1.1 in
    let f3 = field_ok 0 3 _ _ h f2.1 in
    let z = then_ok (zeros 0 xs 12 496) _ h f3.1 in
    record {
      kind = eqb-true _ _ f0.0;
      number = eqb-true _ _ f1.0;
      some_inputs = f2.0;
      some_outputs = f3.0;
      padded = zeros_ok 0 xs 12 496 z.1;
      is = sym (same_value z.2);
    }

-- an output that was read keeps its rules
pub entry_kept : (inputs b : ℕ) (xs : List ℕ) (e : Entry) → EntryRead inputs b xs e → entry_keeps inputs e ≡ true
entry_kept inputs b xs e r = ap (entry_keeps inputs) r.is ∙ and_from _ _ r.priced (and_from _ _ r.vectored r.counted_wrong)

-- so do all of them, and there are as many as blocks
pub entries_kept : (inputs : ℕ) (file : List ℕ) (b n : ℕ) (es : List Entry) → entries_read inputs file b n ≡ Ok es → (entries_keep inputs es ≡ true) × (length es ≡ n)
unfolding entries_read entries_keep
entries_kept inputs file b zero es q = let e = same_value q in (ap (entries_keep inputs) (sym e), ap length (sym e))
entries_kept inputs file b (suc n) es q =
    let p = then_ok (entry_read inputs b (block file b)) _ es q in
    let r = then_ok (entries_read inputs file (b + 1) n) _ es p.2 in
    let i = entries_kept inputs file (b + 1) n r.0 r.1 in
    let e = same_value r.2 in (
      ap (entries_keep inputs) (sym e) ∙ and_from _ _ (entry_kept inputs b (block file b) p.0 (entry_read_ok inputs b (block file b) p.0 p.1)) i.0,
      ap length (sym e) ∙ ap suc i.1,
    )

-- a file of n blocks
pub counted_ok : (file : List ℕ) (n : ℕ) → counted file ≡ Ok n → (length file ≡ n * 512) × (2 ≤ n) × (n ≤ 9)
counted_ok file n q = go (eqb (length file % 512) 0 && within 2 9 (length file / 512)) refl q
  where
    go : (t : Bool) → eqb (length file % 512) 0 && within 2 9 (length file / 512) ≡ t → cond t (Ok (length file / 512)) (Err FileLength) ≡ Ok n → (length file ≡ n * 512) × (2 ≤ n) × (n ≤ 9)
    go true e p =
        let v : length file / 512 ≡ n = same_value p in
        let a = and_parts _ _ e in
        let w = and_parts _ _ a.1 in
        let whole : length file % 512 ≡ 0 = eqb-true _ _ a.0 in
        let low : 2 ≤ length file / 512 = leb-true _ _ w.0 in
        let high : length file / 512 ≤ 9 = leb-true _ _ w.1 in
        (omega arith, omega arith, omega arith)
    go false e p = cc

pub counted_by : (file : List ℕ) (n : ℕ) → length file ≡ n * 512 → 2 ≤ n → n ≤ 9 → counted file ≡ Ok n
counted_by file n l low high =
    let m : length file / 512 ≡ n = omega arith in
    let whole = eq-eqb (length file % 512) 0 (omega arith) in
    let few = and_from _ _ (le-leb 2 (length file / 512) (omega arith)) (le-leb (length file / 512) 9 (omega arith)) in
    cond-true (eqb (length file % 512) 0 && within 2 9 (length file / 512)) (Ok (length file / 512)) (Err FileLength) (and_from _ _ whole few) ∙ ap Ok m

pub blocks_ok : (file : List ℕ) (n : ℕ) → blocks_read file ≡ Ok n → (counted file ≡ Ok n) × (sums file 0 n ≡ Ok tt)
blocks_ok file n q =
    let p = then_ok (counted file) _ n q in
    let s = then_ok (sums file 0 p.0) _ n p.2 in
    let e = same_value s.2 in (p.1 ∙ ap Ok e, ap (sums file 0) (sym e) ∙ s.1)

-- fields that agree
pub agreed_ok : (m n limit spent : ℕ) (es : List Entry) → agreed m n limit spent es ≡ Ok tt → (m ≡ n) × (eqb spent (costs es) ≡ true) × (leb spent limit ≡ true)
agreed_ok m n limit spent es q = go (eqb m n) (eqb spent (costs es)) (leb spent limit) refl refl refl q
  where
    go : (x y z : Bool) → eqb m n ≡ x → eqb spent (costs es) ≡ y → leb spent limit ≡ z → cond x (cond y (cond z (Ok (tt {0})) (Err (BadCause 3))) (Err (BadCause 2))) (Err (BadCause 1)) ≡ Ok tt → (m ≡ n) × (eqb spent (costs es) ≡ true) × (leb spent limit ≡ true)
    go true true true a b c p = (eqb-true _ _ a, b, c)
    go true true false a b c p = cc
    go true false z a b c p = cc
    go false y z a b c p = cc

-- the fields of a file, read
pub record FieldsRead (file : List ℕ) (h : Head) (es : List Entry) : Type 0 where
  pub counted_is : counted file ≡ Ok (length es + 1)
  pub summed_all : sums file 0 (length es + 1) ≡ Ok tt
  pub head_is : head_read (block file 0) ≡ Ok h
  pub entries_are : entries_read h.inputs file 1 (length es) ≡ Ok es

pub fields_ok : (file : List ℕ) (h : Head) (es : List Entry) → fields_read file ≡ Ok (h, es) → FieldsRead file h es
fields_ok file h es q =
    let p = then_ok (blocks_read file) _ (h, es) q in
    let n = p.0 in
    let b = blocks_ok file n p.1 in
    let r = then_ok (head_read (block file 0)) _ (h, es) p.2 in
    let t = then_ok (entries_read r.0.inputs file 1 (n - 1)) _ (h, es) r.2 in
    let e = same_value t.2 in
    let k = entries_kept r.0.inputs file 1 (n - 1) t.0 t.1 in
    let eh : r.0 ≡ h = ap (λ x. x.0) e in
    let es-is : t.0 ≡ es = ap (λ x. x.1) e in
    let l : length es ≡ n - 1 = ap length (sym es-is) ∙ k.1 in
    let c = counted_ok file n b.0 in
    let m : n ≡ length es + 1 = omega arith in
    record { counted_is = cc; summed_all = cc; head_is = cc; entries_are = cc }

-- what a file keeps where it was accepted as c
pub record FileRead (file : List ℕ) (c : Contents) : Type 0 where
  pub head : Head
  pub fields : FieldsRead file head c.entries
  pub as_many : head.outputs ≡ length c.entries
  pub true_spent : eqb c.spent (costs c.entries) ≡ true
  pub within_limit : leb c.spent c.limit ≡ true
  pub inputs_is : head.inputs ≡ c.inputs
  pub limit_is : head.limit ≡ c.limit
  pub spent_is : head.spent ≡ c.spent

pub joined_ok : (file : List ℕ) (h : Head) (es : List Entry) (c : Contents) → FieldsRead file h es → joined h es ≡ Ok c → FileRead file c
joined_ok file h es c f q =
    let p = then_ok (agreed h.outputs (length es) h.limit h.spent es) _ c q in
    let e = same_value p.2 in
    let a = agreed_ok h.outputs (length es) h.limit h.spent es p.1 in
    let i : es ≡ c.entries = cc in
    record {
      head = h;
      fields = subst (λ (x : List Entry). FieldsRead file h x) i f;
      as_many = cc;
      true_spent = cc;
      within_limit = cc;
      inputs_is = cc;
      limit_is = cc;
      spent_is = cc;
    }

pub loaded_ok : (file : List ℕ) (c : Contents) → loaded file ≡ Ok c → FileRead file c
loaded_ok file c q =
    let p = then_ok (fields_read file) _ c q in
    joined_ok file p.0.0 p.0.1 c (fields_ok file p.0.0 p.0.1 p.1) p.2

-- the fields of a file keep their rules, and so does its sheet
pub inputs_kept : (file : List ℕ) (h : Head) (es : List Entry) → FieldsRead file h es → within 1 16 h.inputs ≡ true
inputs_kept file h es f = let r = head_read_ok (block file 0) h f.head_is in ap (λ (x : Head). within 1 16 x.inputs) r.is ∙ r.some_inputs

pub outputs_kept : (file : List ℕ) (h : Head) (es : List Entry) → FieldsRead file h es → within 1 8 (length es) ≡ true
outputs_kept file h es f = let c = counted_ok file (length es + 1) f.counted_is in grind (arith, nat_tests)

pub file_kept : (file : List ℕ) (c : Contents) → FileRead file c → keeps c.inputs c.limit c.spent c.entries ≡ true
file_kept file c r =
    let i : within 1 16 c.inputs ≡ true = ap (within 1 16) (sym r.inputs_is) ∙ inputs_kept file r.head c.entries r.fields in
    let k = entries_kept r.head.inputs file 1 (length c.entries) c.entries r.fields.entries_are in
    and_from _ _ i (and_from _ _ (outputs_kept file r.head c.entries r.fields) (and_from _ _ (ap (λ n. entries_keep n c.entries) (sym r.inputs_is) ∙ k.0) (and_from _ _ r.true_spent r.within_limit)))

-- so the rules hold of what becomes a sheet
pub table_kept : (file : List ℕ) (h : Head) (es xs ys : List Entry) (u : Unit {0}) → Ok (h, es) ≡ fields_read file → xs ≡ es → Ok u ≡ agreed h.outputs (length xs) h.limit h.spent xs → ys ≡ xs → keeps h.inputs h.limit h.spent ys ≡ true
table_kept file h es xs ys u v e a q =
    let c : Contents = record { inputs = h.inputs; limit = h.limit; spent = h.spent; entries = es } in
    let g = a ∙ ap (λ zs. agreed h.outputs (length zs) h.limit h.spent zs) e in
    let l : loaded file ≡ Ok c = ap (λ (x : Result (Head × List Entry) Refusal). then x (λ p. joined p.0 p.1)) (sym v) ∙ ap (λ x. then x (λ _. Ok c)) (sym g) in
    ap (keeps h.inputs h.limit h.spent) (q ∙ e) ∙ file_kept file c (loaded_ok file c l)
