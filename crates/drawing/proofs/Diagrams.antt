-- Every drawing is the reduced ordered diagram of its function.
use Rattle.std.proofs.Common.{◌≡◌, ℕ, zero, suc, ◌+◌, ◌-◌, ◌/◌, ◌%◌, ◌^◌, ◌<◌, ◌≤◌, [], sym, ap, ◌∙◌, subst, add-zero, zero-add, div-one, arith}
use native.Mathlib.Nat.{div-eq_of_lt}
use lib.Count.{ones}
use Rattle.std.specs.Int.{bit_at}
use Rattle.std.proofs.lemmas.Bool.Decides.{nat_tests}
use Rattle.diagram.specs.Walk.{mark_of}
use Rattle.diagram.proofs.Reading.{read_mark, level_mark}
use Rattle.symmetric.specs.Vectors.{value}
use Rattle.drawing.specs.Pieces.{Draft, blank, with_pieces, with_levels, drawn}
use Rattle.drawing.specs.Reduced.{marked, Leads, Reduced}
use Rattle.drawing.proofs.Levels.{Whole, Midway}
use Rattle.drawing.proofs.Steps.{step}
use Rattle.drawing.proofs.Ends.{begun, ended}

none_left : (inputs row : ℕ) → row < 2 ^ inputs → ones (row / 2 ^ inputs) ≡ 0
unfolding ones
none_left inputs row h = ap ones (div-eq_of_lt h)

-- before any level is drawn, each value is its own mark
blank_whole : (inputs bits : ℕ) → Whole inputs bits inputs (blank bits)
blank_whole inputs bits =
    record {
      table = record { fit = λ place h. absurd (omega arith); decides = λ place h. absurd (omega arith); once = λ place other h. absurd (omega arith) };
      own = λ i h.
          let small : bit_at bits i < 3 = omega arith in
          let deep = level_mark inputs [] (bit_at bits i) small in
          record {
            valid = omega arith;
            deep = omega arith;
            reads = λ row fits. read_mark [] row inputs (bit_at bits i) small ∙ sym (ap (λ n. mark_of (bit_at bits (i + n))) (none_left inputs row fits) ∙ ap (λ n. mark_of (bit_at bits n)) (add-zero i));
            flat = λ alike. small;
          };
      led = λ place h. absurd (omega arith);
    }

pieces_midway : (inputs bits level : ℕ) (d : Draft) → level < inputs → Whole inputs bits (level + 1) d → (k : ℕ) → k ≤ level + 1 → Midway inputs bits level d.refers k (with_pieces inputs bits level k d)
unfolding with_pieces
pieces_midway inputs bits level d less whole zero h = begun inputs bits level d whole
pieces_midway inputs bits level d less whole (suc k) h =
    step inputs bits level d.refers k less (omega arith) (with_pieces inputs bits level k d) (pieces_midway inputs bits level d less whole k (omega arith))

levels_whole : (inputs bits done : ℕ) → done ≤ inputs → Whole inputs bits (inputs - done) (with_levels inputs bits done)
unfolding with_levels
levels_whole inputs bits zero h = let e : inputs ≡ inputs - zero = omega arith in subst (λ l. Whole inputs bits l (blank bits)) e (blank_whole inputs bits)
levels_whole inputs bits (suc done) h =
    let level : ℕ = inputs - suc done in
    let e : inputs - done ≡ level + 1 = omega arith in
    let d : Draft = with_levels inputs bits done in
    let before : Whole inputs bits (level + 1) d = subst (λ l. Whole inputs bits l d) e (levels_whole inputs bits done (omega arith)) in
    ended inputs bits level d.refers (with_pieces inputs bits level (level + 1) d) (omega arith)
    (pieces_midway inputs bits level d (omega arith) before (level + 1) (omega arith))

value_marked : (bits w : ℕ) → mark_of (bit_at bits w) ≡ marked (value bits w)
value_marked bits w = let two : bits / 2 ^ w % 2 < 2 = omega arith in grind (arith, nat_tests)

pub reduced : (inputs bits : ℕ) → Reduced inputs bits (drawn inputs bits)
reduced inputs bits =
    let all : inputs - inputs ≡ 0 = omega arith in
    let d : Draft = with_levels inputs bits inputs in
    let whole : Whole inputs bits 0 d = subst (λ l. Whole inputs bits l d) all (levels_whole inputs bits inputs (omega arith)) in
    record {
      computes = λ row h. (whole.own 0 (omega arith)).reads row h ∙ ap (λ w. mark_of (bit_at bits w)) (zero-add (ones (row / 1)) ∙ ap ones (div-one row)) ∙ value_marked bits (ones row);
      rooted = (whole.own 0 (omega arith)).valid;
      ordered = whole.table.fit;
      decides = whole.table.decides;
      once = whole.table.once;
      reached = λ place h.
          let way = whole.led place h in
          let e : way.0 ≡ 0 = let le = way.1 in omega arith in
          subst (λ i. Leads d.nodes (d.refers i) (3 + place)) e way.2;
    }
