-- What the rules of a table tell: its sizes, and of a reference where its branches lead.
use Rattle.std.proofs.Common.{◌≡◌, ℕ, ◌+◌, ◌-◌, ◌/◌, ◌%◌, ◌^◌, ◌<◌, ◌≤◌, true, eqb, List, length, get_or, is_ok, Ok, Err, Result, refl, arith}
use Rattle.std.proofs.lemmas.Bool.{false≢true, and_parts, ltb-true, cond_both}
use Rattle.std.proofs.lemmas.Bool.Decides.{nat_tests}
use Rattle.refusal.specs.declared.table.Refusal.{Refusal}
use Rattle.design.specs.Checks.{Every, Sizes}
use Rattle.diagram.specs.declared.node.Node.{Node}
use Rattle.diagram.specs.Walk.{no_node, node_at, branch}
use Rattle.diagram.specs.Rules.{fit_branch, fit_node, fit_root, then, checked, kept}
use Rattle.diagram.specs.Meaning.{Table}
use Rattle.diagram.specs.Reasons.{NodesFit, Reason, bad_size, bad_node, other_count, bad_root, no_refusal}
use Rattle.diagram.specs.Counting.{level_of}
use Rattle.diagram.proofs.Reasons.{built_reason}

-- every node keeps the rules
abbrev pub Fit : ℕ → List Node → Type 0
Fit inputs nodes = (place : ℕ) → place < length nodes → fit_node inputs nodes place (get_or nodes place no_node) ≡ true

-- a check that passes leads to the answer that it stands before
passed : {X : Type 0} (check : Result (Unit {0}) Refusal) (answer : X) → is_ok check ≡ true → is_ok (then check (Ok answer)) ≡ true
passed (Ok _) answer ok = refl
passed (Err why) answer ok = absurd (false≢true ok)

module _ (inputs outputs : ℕ) (nodes : List Node) (roots : List ℕ) where
  -- a table that is not refused keeps the rules of nodes, and each root its rule
  not_refused : {r : Result Table Refusal} → Reason inputs outputs nodes roots r → is_ok r ≡ true → NodesFit inputs outputs nodes × Every (fit_root (length nodes)) roots
  not_refused (bad_size why bad) ok = absurd (false≢true ok)
  not_refused (bad_node p sizes lowest) ok = absurd (false≢true ok)
  not_refused (other_count fit other) ok = absurd (false≢true ok)
  not_refused (bad_root o fit same lowest) ok = absurd (false≢true ok)
  not_refused (no_refusal fit same rooted) ok = (fit, rooted)

module _ (inputs : ℕ) (nodes : List Node) (roots : List ℕ) (k : kept inputs nodes roots ≡ true) where
  rules : NodesFit inputs (length roots) nodes × Every (fit_root (length nodes)) roots
  rules = not_refused inputs (length roots) nodes roots (built_reason inputs (length roots) nodes roots) (passed (checked inputs (length roots) nodes roots) _ k)

  pub kept_sized : Sizes inputs (length roots) (length nodes)
  kept_sized = rules.0.sizes

  pub kept_fit : Fit inputs nodes
  kept_fit = rules.0.fit no_node

  pub kept_root : (o : ℕ) → o < length roots → get_or roots o 0 < 3 + length nodes
  kept_root o h = let e = rules.1 0 o h in grind (arith, nat_tests)

-- where a branch leads from a node of this level behind a reference: to an earlier reference with a greater level
pub record Down (inputs : ℕ) (nodes : List Node) (level reference target : ℕ) : Type 0 where
  pub earlier : target < reference
  pub deeper : level < level_of inputs nodes target

branch_down : (inputs : ℕ) (nodes : List Node) (level reference target : ℕ) → 3 ≤ reference → level < inputs → fit_branch nodes (reference - 3) level target ≡ true → Down inputs nodes level reference target
branch_down inputs nodes level reference target node below e = record { earlier = grind (arith, nat_tests); deeper = grind (arith, nat_tests) }

module _ (inputs : ℕ) (nodes : List Node) (fit : Fit inputs nodes) (reference : ℕ) (node : 3 ≤ reference) (valid : reference < 3 + length nodes) where
  pub level_below : (node_at nodes reference).level < inputs
  level_below = ltb-true _ _ (and_parts _ _ (fit (reference - 3) (omega arith))).0

  fits : (fit_branch nodes (reference - 3) (node_at nodes reference).level (node_at nodes reference).low ≡ true) × (fit_branch nodes (reference - 3) (node_at nodes reference).level (node_at nodes reference).high ≡ true)
  fits = and_parts _ _ (and_parts _ _ (fit (reference - 3) (omega arith))).1

  pub low_down : Down inputs nodes (node_at nodes reference).level reference (node_at nodes reference).low
  low_down = branch_down inputs nodes (node_at nodes reference).level reference (node_at nodes reference).low node level_below fits.0

  pub high_down : Down inputs nodes (node_at nodes reference).level reference (node_at nodes reference).high
  high_down = branch_down inputs nodes (node_at nodes reference).level reference (node_at nodes reference).high node level_below fits.1

  pub row_down : (row : ℕ) → Down inputs nodes (node_at nodes reference).level reference (branch (node_at nodes reference) row)
  row_down row = cond_both (eqb (row / 2 ^ (node_at nodes reference).level % 2) 1) _ _ (Down inputs nodes (node_at nodes reference).level reference) (λ _. high_down) (λ _. low_down)
