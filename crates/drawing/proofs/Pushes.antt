-- A node placed after the last changes nothing for the references that stood before.
use Rattle.std.proofs.Common.{◌≡◌, ℕ, zero, suc, ◌+◌, ◌-◌, ◌<◌, ◌≤◌, true, ◌&&◌, ◌||◌, ltb, List, [], ◌∷◌, ◌++◌, length, get_or, sym, refl, ap, ◌∙◌, subst, ⊎_elim, arith}
use Rattle.std.proofs.lemmas.List.{length_push, get_or_push, get_or_append_left}
use Rattle.std.proofs.lemmas.Bool.{cases_lt, le-ltb}
use Rattle.diagram.specs.declared.node.Node.{Node}
use Rattle.diagram.specs.Walk.{is_mark, no_node, node_at, branch, read}
use Rattle.diagram.specs.Rules.{fit_branch, fit_node}
use Rattle.diagram.specs.Counting.{level_of}
use Rattle.diagram.proofs.Kept.{Fit, low_down, high_down, row_down}
use Rattle.diagram.proofs.Reading.{read_mark, read_node, level_mark, level_node}
use Rattle.drawing.specs.Reduced.{Leads, here, by_low, by_high}

-- a place in the longer list is one of the shorter, or its last
pub place_cases : (P : ℕ → Type 0) (nodes : List Node) (x : Node) → ((place : ℕ) → place < length nodes → P place) → P (length nodes) → (place : ℕ) → place < length (nodes ++ x ∷ []) → P place
place_cases P nodes x before last place h =
    let n = length_push nodes x in
    ⊎_elim (λ less. before place less) (λ more. let e : length nodes ≡ place = omega arith in subst P e last) (cases_lt place (length nodes))

module _ (nodes : List Node) (x : Node) where
  pub at_old : (place : ℕ) → place < length nodes → get_or (nodes ++ x ∷ []) place no_node ≡ get_or nodes place no_node
  at_old place h = get_or_append_left nodes (x ∷ []) no_node place h

  pub at_last : (place : ℕ) → length nodes ≡ place → get_or (nodes ++ x ∷ []) place no_node ≡ x
  at_last place e = get_or_push nodes x no_node place e

  pub node_same : (reference : ℕ) → 3 ≤ reference → reference < 3 + length nodes → node_at (nodes ++ x ∷ []) reference ≡ node_at nodes reference
  node_same reference node valid = at_old (reference - 3) (omega arith)

  branch_same : (place level reference : ℕ) → place ≤ length nodes → fit_branch (nodes ++ x ∷ []) place level reference ≡ fit_branch nodes place level reference
  branch_same place level reference h =
      ⊎_elim
      (λ less. ap (λ (y : Node). is_mark reference || (ltb (reference - 3) place && ltb level y.level)) (at_old (reference - 3) (omega arith)))
      (λ more. rw (le-ltb (reference - 3) place more))
      (cases_lt (reference - 3) place)

  pub node_fits_same : (inputs place : ℕ) (y : Node) → place ≤ length nodes → fit_node inputs (nodes ++ x ∷ []) place y ≡ fit_node inputs nodes place y
  node_fits_same inputs place y h = let l = branch_same place y.level y.low h in let r = branch_same place y.level y.high h in cc

  pub fit_push : (inputs : ℕ) → Fit inputs nodes → fit_node inputs nodes (length nodes) x ≡ true → Fit inputs (nodes ++ x ∷ [])
  fit_push inputs fit new =
      place_cases (λ place. fit_node inputs (nodes ++ x ∷ []) place (get_or (nodes ++ x ∷ []) place no_node) ≡ true) nodes x
      (λ place h. node_fits_same inputs place (get_or (nodes ++ x ∷ []) place no_node) (omega arith) ∙ ap (λ y. fit_node inputs nodes place y) (at_old place h) ∙ fit place h)
      (node_fits_same inputs (length nodes) (get_or (nodes ++ x ∷ []) (length nodes) no_node) (omega arith) ∙ ap (λ y. fit_node inputs nodes (length nodes) y) (at_last (length nodes) refl) ∙ new)

  pub level_push : (inputs reference : ℕ) → reference < 3 + length nodes → level_of inputs (nodes ++ x ∷ []) reference ≡ level_of inputs nodes reference
  level_push inputs reference valid =
      ⊎_elim
      (λ mark. level_mark inputs (nodes ++ x ∷ []) reference mark ∙ sym (level_mark inputs nodes reference mark))
      (λ node. level_node inputs (nodes ++ x ∷ []) reference node ∙ ap (λ (y : Node). y.level) (node_same reference node valid) ∙ sym (level_node inputs nodes reference node))
      (cases_lt reference 3)

  module _ (inputs : ℕ) (fit : Fit inputs nodes) where
    pub read_push : (row steps reference : ℕ) → reference < 3 + length nodes → read (nodes ++ x ∷ []) row steps reference ≡ read nodes row steps reference
    unfolding read
    read_push row zero reference valid = refl
    read_push row (suc steps) reference valid =
        ⊎_elim
        (λ mark. read_mark (nodes ++ x ∷ []) row (suc steps) reference mark ∙ sym (read_mark nodes row (suc steps) reference mark))
        (λ node.
        let down = row_down inputs nodes fit reference node valid row in
        read_node (nodes ++ x ∷ []) row steps reference node
        ∙ ap (λ y. read (nodes ++ x ∷ []) row steps (branch y row)) (node_same reference node valid)
        ∙ read_push row steps (branch (node_at nodes reference) row) (omega arith)
        ∙ sym (read_node nodes row steps reference node))
        (cases_lt reference 3)

    pub leads_push : (reference target : ℕ) → reference < 3 + length nodes → Leads nodes reference target → Leads (nodes ++ x ∷ []) reference target
    leads_push reference target valid here = here
    leads_push reference target valid (by_low node way) =
        let down = low_down inputs nodes fit reference node valid in
        by_low node (subst (λ (y : Node). Leads (nodes ++ x ∷ []) y.low target) (sym (node_same reference node valid)) (leads_push _ target (omega arith) way))
    leads_push reference target valid (by_high node way) =
        let down = high_down inputs nodes fit reference node valid in
        by_high node (subst (λ (y : Node). Leads (nodes ++ x ∷ []) y.high target) (sym (node_same reference node valid)) (leads_push _ target (omega arith) way))
