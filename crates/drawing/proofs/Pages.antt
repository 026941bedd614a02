-- What a write to a page does to the drawing on it.
use Rattle.std.proofs.Common.{rules, ◌≡◌, ℕ, zero, suc, subst, ◌+◌, ◌/◌, ◌%◌, ◌^◌, ◌<◌, ◌≤◌, List, [], length, get_or, set, sym, ap, ◌∙◌, ⊎_elim, arith}
use denote.Param.Members.{Mut, Called}
use mathlib.Core.Path.{fun_ext}
use Rattle.std.proofs.lemmas.Nat.Bits.{bit_at_above}
use Rattle.std.proofs.lemmas.List.{get_or_past}
use Rattle.std.proofs.lemmas.Bool.{cases_eq, cases_lt}
use Rattle.std.specs.Array.{IsFromFnResultFrom, IsFromFnResult}
use Rattle.drawing.specs.declared.page.Page.{Page}
use Rattle.drawing.specs.Pieces.{blank, referred}
use Rattle.drawing.specs.Page.{draft}

-- another reference, at k
pub draft_referred : (page : Page) (k r : ℕ) → k < length page.refers → draft (record { nodes = page.nodes; refers = set page.refers k r }) ≡ referred k r (draft page)
draft_referred page k r fits = search rules

-- an array made by a closure that answers h at each index, and keeps its state
module _ {F B : Type 0} {g : Mut F (ℕ × Unit {0}) B} {f : F} (h : ℕ → B) (says : (i : ℕ) (y : B) (q : F) → Called g f (i, tt) y q → (y ≡ h i) × (q ≡ f)) where
  made_from : (ys : List B) (n i : ℕ) → IsFromFnResultFrom g f ys i n → (k : ℕ) → i ≤ k → k < i + n → (e : B) → get_or ys k e ≡ h k
  made_from ys zero i each k from below e = absurd (omega arith)
  made_from ys (suc n) i (q, y, at, call, rest) k from below e =
      let told = says i y q call in
      ⊎_elim
      (λ (same : k ≡ i). ap (λ j. get_or ys j e) same ∙ at.1 e ∙ told.0 ∙ ap h (sym same))
      (λ other. made_from ys n (i + 1) (subst (λ q. IsFromFnResultFrom g q ys (i + 1) n) told.1 rest) k (omega arith) (omega arith) e)
      (cases_eq k i)

  pub made : {ys : List B} (n : ℕ) → IsFromFnResult g f ys n → (k : ℕ) → k < n → (e : B) → get_or ys k e ≡ h k
  made {ys} n result k below e = made_from ys n 0 result.each k (omega arith) (omega arith) e

-- a page on which no level is drawn
pub blank_page : (page : Page) (bits : ℕ) → bits < 2 ^ 17 → page.nodes.items ≡ [] → length page.refers ≡ 17 → ((k : ℕ) → k < 17 → (e : ℕ) → get_or page.refers k e ≡ bits / 2 ^ k % 2) → draft page ≡ blank bits
blank_page page bits small none len each =
    ap (λ xs. record { nodes = xs; refers = λ k. get_or page.refers k 0 }) none
    ∙ ap (λ (f : ℕ → ℕ). record { nodes = []; refers = f })
    (fun_ext (λ k. ⊎_elim
    (λ h. each k h 0)
    (λ h. get_or_past page.refers k 0 (omega arith) ∙ sym (bit_at_above bits 17 k small h))
    (cases_lt k 17)))
