-- The outputs of a file, read block by block.
use Rattle.std.proofs.Common.{◌≡◌, ℕ, suc, ◌+◌, ◌-◌, ◌<◌, List, [], ◌∷◌, ◌++◌, length, get_or, drop, Ok, Err, Result, sym, refl, ap, ◌∙◌, append_assoc, add-zero, arith}
use Rattle.std.specs.List.{concat}
use Rattle.std.specs.Simd.{first_chunks}
use Rattle.std.proofs.lemmas.List.{append-nil, get_or-drop, length-drop, drop-drop}
use Rattle.refusal.specs.declared.table.Refusal.{Refusal}
use Rattle.burn.specs.Blocks.{block, then}
use Rattle.burn.specs.Files.{entry_read, entries_read}
use Rattle.burn.specs.declared.entry.Entry.{Entry}
use Rattle.burn.proofs.Sums.{block_of}

-- outputs read before others
abbrev pub ahead : List Entry → Result (List Entry) Refusal → Result (List Entry) Refusal
ahead xs (Ok es) = Ok (xs ++ es)
ahead xs (Err e) = Err e

pub ahead_push : (xs : List Entry) (e : Entry) (r : Result (List Entry) Refusal) → ahead xs (then r (λ es. Ok (e ∷ es))) ≡ ahead (xs ++ e ∷ []) r
ahead_push xs e (Ok es) = ap Ok (sym (append_assoc xs (e ∷ []) es))
ahead_push xs e (Err x) = refl

-- outputs from block b on
abbrev pub outputs_from : ℕ → List (List ℕ) → ℕ → Result (List Entry) Refusal
outputs_from inputs bs b = entries_read inputs (concat bs) b (length bs - b)

module _ (bs rest : List (List ℕ)) (x : List ℕ) (b number next : ℕ) where
  -- the block that comes first of those from block b on, and those behind it
  pub next_block : number ≡ b → next ≡ number + 1 → x ∷ rest ≡ drop b bs → (b < length bs) × (x ≡ get_or bs b []) × (rest ≡ drop next bs)
  next_block f n q =
      let l = ap length q ∙ length-drop b bs in
      let v : b + 1 ≡ next = omega arith in
      (omega (arith, l), ap (λ ys. get_or ys 0 []) q ∙ (get_or-drop b bs 0 [] ∙ ap (λ k. get_or bs k []) (add-zero b)), ap (drop 1) q ∙ (drop-drop 1 b bs ∙ ap (λ k. drop k bs) v))

  -- what is left, by what that block was read as
  left_by : (inputs : ℕ) (r : Result Entry Refusal) → bs ≡ first_chunks 512 (length bs) (concat bs) → number ≡ b → next ≡ number + 1 → x ∷ rest ≡ drop b bs → r ≡ entry_read inputs number x → outputs_from inputs bs b ≡ then r (λ e. then (outputs_from inputs bs next) (λ es. Ok (e ∷ es)))
  unfolding entries_read
  left_by inputs r w f n q e =
      let t = next_block f n q in
      let m : length bs - b ≡ suc (length bs - next) = omega (arith, t.0) in
      let v : b + 1 ≡ next = omega arith in
      let g : r ≡ entry_read inputs b (block (concat bs) b) = e ∙ (ap (λ k. entry_read inputs k x) f ∙ ap (entry_read inputs b) (t.1 ∙ block_of bs b [] t.0 w)) in
      let after : ℕ → Entry → Result (List Entry) Refusal = λ k a. then (entries_read inputs (concat bs) k (length bs - next)) (λ es. Ok (a ∷ es)) in
      ap (entries_read inputs (concat bs) b) m ∙ (ap (λ y. then y (after (b + 1))) (sym g) ∙ ap (λ k. then r (after k)) v)

  pub entries_goes : (all : Result (List Entry) Refusal) (inputs : ℕ) (xs : List Entry) (e : Entry) → bs ≡ first_chunks 512 (length bs) (concat bs) → number ≡ b → next ≡ number + 1 → x ∷ rest ≡ drop b bs → Ok e ≡ entry_read inputs number x → all ≡ ahead xs (outputs_from inputs bs b) → all ≡ ahead (xs ++ e ∷ []) (outputs_from inputs bs next)
  entries_goes all inputs xs e w f n q r a = a ∙ (ap (ahead xs) (left_by inputs (Ok e) w f n q r) ∙ ahead_push xs e (outputs_from inputs bs next))

  pub entries_stop : (all : Result (List Entry) Refusal) (inputs : ℕ) (xs : List Entry) (e : Refusal) → bs ≡ first_chunks 512 (length bs) (concat bs) → number ≡ b → next ≡ number + 1 → x ∷ rest ≡ drop b bs → Err e ≡ entry_read inputs number x → all ≡ ahead xs (outputs_from inputs bs b) → all ≡ Err e
  entries_stop all inputs xs e w f n q r a = a ∙ ap (ahead xs) (left_by inputs (Err e) w f n q r)

-- no block left
pub entries_end : (all : Result (List Entry) Refusal) (inputs : ℕ) (bs rest : List (List ℕ)) (b : ℕ) (xs : List Entry) → rest ≡ drop b bs → length rest ≡ 0 → all ≡ ahead xs (outputs_from inputs bs b) → all ≡ Ok xs
unfolding entries_read
entries_end all inputs bs rest b xs q h a =
    let e : length bs - b ≡ 0 = sym (length-drop b bs) ∙ (sym (ap length q) ∙ h) in
    a ∙ (ap (λ k. ahead xs (entries_read inputs (concat bs) b k)) e ∙ ap Ok (append-nil xs))
