-- A level begun from the one after it, and what holds once all its pieces are drawn.
use Rattle.std.proofs.Common.{◌≡◌, ℕ, ◌+◌, ◌-◌, ◌/◌, ◌^◌, ◌<◌, ◌≤◌, ◌⊎◌, eqb, List, get_or, sym, refl, ap, ◌∙◌, subst, inl, inr, ⊎_elim, arith, shr_lt}
use lib.Count.{ones, ones_step}
use Rattle.std.specs.Int.{bit_at}
use Rattle.std.proofs.lemmas.Nat.Bits.{bit_at-lt}
use Rattle.std.proofs.lemmas.Nat.{shr-shr, ones-le}
use Rattle.std.proofs.lemmas.Bool.{cases_lt, eqb-true, eqb-false, cond_both}
use Rattle.diagram.specs.declared.node.Node.{Node}
use Rattle.diagram.specs.Walk.{mark_of, no_node, node_at, branch, read}
use Rattle.diagram.proofs.Reading.{read_mark, read_step, level_mark, level_node}
use Rattle.drawing.specs.Pieces.{Draft}
use Rattle.drawing.specs.Reduced.{Leads, here, by_low, by_high}
use Rattle.drawing.proofs.Levels.{Holds, Table, Refers, Whole, over, Own, as_mark, as_node, Midway}
use Rattle.drawing.proofs.Constant.{below_alike}

-- no piece is drawn yet
pub begun : (inputs bits level : ℕ) (d : Draft) → Whole inputs bits (level + 1) d → Midway inputs bits level d.refers 0 d
begun inputs bits level d whole =
    record {
      table = whole.table;
      after = whole.own;
      own = λ i h. absurd (omega arith);
      kept = λ i h. refl;
      led = λ place h. inl (whole.led place h);
    }

-- a mark leads only to itself
leads_mark : (nodes : List Node) (reference target : ℕ) → reference < 3 → Leads nodes reference target → reference ≡ target
leads_mark nodes reference target mark here = refl
leads_mark nodes reference target mark (by_low node way) = absurd (omega arith)
leads_mark nodes reference target mark (by_high node way) = absurd (omega arith)

-- the weight of what is left of a row is at most the inputs left
weight_left : (inputs level row : ℕ) → level < inputs → row < 2 ^ inputs → ones (row / 2 ^ level) ≤ inputs - level
weight_left inputs level row less h =
    let e : inputs ≡ inputs - level + level = omega arith in
    ones-le (inputs - level) (row / 2 ^ level) (shr_lt (inputs - level) level (subst (λ n. row < 2 ^ n) e h))

weight_step : (level row : ℕ) → ones (row / 2 ^ level) ≡ bit_at row level + ones (row / 2 ^ (level + 1))
weight_step level row = ones_step (row / 2 ^ level) ∙ ap (λ q. bit_at row level + ones q) (shr-shr row level 1)

-- the bit of a row chooses among the references of the level after
branch_is : (level : ℕ) (old : ℕ → ℕ) (i row : ℕ) → branch (over level old i) row ≡ old (i + bit_at row level)
branch_is level old i row =
    let b = bit_at-lt row level in
    cond_both (eqb (bit_at row level) 1) _ _ (λ r. r ≡ old (i + bit_at row level))
    (λ one. ap (λ n. old (i + n)) (sym (eqb-true _ _ one)))
    (λ zero. let n = eqb-false _ _ zero in let e : i ≡ i + bit_at row level = omega arith in ap old e)

module _ (inputs bits level : ℕ) (less : level < inputs) (nodes : List Node) (table : Table inputs nodes) where
  -- a constant piece refers to its mark
  mark_refers : (i c : ℕ) → c < 2 → Holds inputs bits level i c → Refers inputs bits level nodes i c
  mark_refers i c mark each =
      let deep = level_mark inputs nodes c (omega arith) in
      record {
        valid = omega arith;
        deep = omega arith;
        reads = λ row h. read_mark nodes row inputs c (omega arith) ∙ ap mark_of (sym (each (ones (row / 2 ^ level)) (weight_left inputs level row less h)));
        flat = λ alike. omega arith;
      }

  module _ (old : ℕ → ℕ) (after : (i : ℕ) → i ≤ level + 1 → Refers inputs bits (level + 1) nodes i (old i)) where
    -- a row goes on from the node of a piece to the piece that its bit chooses
    branch_reads : (i : ℕ) → i ≤ level → (row : ℕ) → row < 2 ^ inputs → read nodes row inputs (branch (over level old i) row) ≡ mark_of (bit_at bits (i + ones (row / 2 ^ level)))
    branch_reads i h row fits =
        let b = bit_at-lt row level in
        let w : i + bit_at row level + ones (row / 2 ^ (level + 1)) ≡ i + ones (row / 2 ^ level) = let s = weight_step level row in omega arith in
        ap (λ r. read nodes row inputs r) (branch_is level old i row) ∙ (after (i + bit_at row level) (omega arith)).reads row fits ∙ ap (λ n. mark_of (bit_at bits n)) w

    behind : (i place : ℕ) → get_or nodes place no_node ≡ over level old i → node_at nodes (3 + place) ≡ over level old i
    behind i place node = let e : 3 + place - 3 ≡ place = omega arith in ap (λ p. get_or nodes p no_node) e ∙ node

    own_refers : (i r : ℕ) → i ≤ level → Own inputs bits level old nodes i r → Refers inputs bits level nodes i r
    own_refers i r h (as_mark c small each is) = subst (λ t. Refers inputs bits level nodes i t) (sym is) (mark_refers i c small each)
    own_refers i r h (as_node place there is node mixed) =
        let at = behind i place node in
        let deep = level_node inputs nodes (3 + place) (omega arith) ∙ ap (λ (x : Node). x.level) at in
        subst (λ t. Refers inputs bits level nodes i t) (sym is)
        (record {
          valid = omega arith;
          deep = omega arith;
          reads = λ row fits.
              read_step inputs nodes table.fit row (3 + place) (omega arith) (omega arith)
              ∙ ap (λ x. read nodes row inputs (branch x row)) at ∙ branch_reads i h row fits;
          flat = λ alike. absurd (mixed alike);
        })

    -- what a branch of a piece leads to, the piece leads to; under a constant piece no node is led to
    branch_leads : (i j r place : ℕ) → i ≤ level → (j ≡ i) ⊎ (j ≡ i + 1) → Own inputs bits level old nodes i r → Leads nodes (old j) (3 + place) → Leads nodes r (3 + place)
    branch_leads i j r place h near (as_mark c small each is) way =
        let next : j ≤ i + 1 = ⊎_elim (λ e. omega arith) (λ e. omega arith) near in
        let from : i ≤ j = ⊎_elim (λ e. omega arith) (λ e. omega arith) near in
        let mark = (after j (omega arith)).flat (below_alike inputs bits level i less c j each from next) in
        let e = leads_mark nodes (old j) (3 + place) mark way in
        absurd (omega arith)
    branch_leads i j r place h near (as_node at there is node mixed) way =
        let to : (n : ℕ) → old j ≡ n → Leads nodes n (3 + place) = λ n e. subst (λ t. Leads nodes t (3 + place)) e way in
        subst (λ t. Leads nodes t (3 + place)) (sym is)
        (⊎_elim
        (λ e. by_low (omega arith) (to _ (ap old e ∙ sym (ap (λ (x : Node). x.low) (behind i at node)))))
        (λ e. by_high (omega arith) (to _ (ap old e ∙ sym (ap (λ (x : Node). x.high) (behind i at node)))))
        near)

-- all pieces are drawn
pub ended : (inputs bits level : ℕ) (old : ℕ → ℕ) (d : Draft) → level < inputs → Midway inputs bits level old (level + 1) d → Whole inputs bits level d
ended inputs bits level old d less mid =
    record {
      table = mid.table;
      own = λ i h. own_refers inputs bits level less d.nodes mid.table old mid.after i (d.refers i) h (mid.own i (omega arith));
      led = λ place h. ⊎_elim (far place) (near place) (mid.led place h);
    }
  where
    near : (place : ℕ) → ((i : ℕ) × (i < level + 1) × (d.refers i ≡ 3 + place)) → (i : ℕ) × (i ≤ level) × Leads d.nodes (d.refers i) (3 + place)
    near place (i, lt, e) = (i, omega arith, subst (λ r. Leads d.nodes r (3 + place)) (sym e) here)

    far : (place : ℕ) → ((i : ℕ) × (i ≤ level + 1) × Leads d.nodes (old i) (3 + place)) → (i : ℕ) × (i ≤ level) × Leads d.nodes (d.refers i) (3 + place)
    far place (j, le, way) =
        let leads = λ (i : ℕ) (h : i ≤ level) (beside : (j ≡ i) ⊎ (j ≡ i + 1)). branch_leads inputs bits level less d.nodes mid.table old mid.after i j (d.refers i) place h beside (mid.own i (omega arith)) way in
        ⊎_elim (λ h. (j, omega arith, leads j (omega arith) (inl refl))) (λ h. (level, omega arith, leads level (omega arith) (inr (omega arith)))) (cases_lt j (level + 1))
