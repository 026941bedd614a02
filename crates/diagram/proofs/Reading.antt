-- Reading a row: steps enough are as good as more, a node's reading is its branch's, and inputs above a reference do not matter.
use Rattle.std.proofs.Common.{◌≡◌, ℕ, zero, suc, ◌+◌, ◌-◌, ◌/◌, ◌%◌, ◌^◌, ◌<◌, ◌≤◌, cond, eqb, List, length, sym, refl, ap, ◌∙◌, ⊎_elim, arith}
use Rattle.std.proofs.lemmas.Nat.{shr-shr}
use Rattle.std.proofs.lemmas.Bool.{cases_lt, lt-ltb, le-ltb, cond-true, cond-false}
use Rattle.diagram.specs.declared.node.Node.{Node}
use Rattle.diagram.specs.Walk.{is_mark, mark_of, node_at, branch, read}
use Rattle.diagram.specs.Counting.{level_of}
use Rattle.diagram.proofs.Kept.{Fit, level_below, row_down}

-- a mark is read as itself
pub read_mark : (nodes : List Node) (row steps reference : ℕ) → reference < 3 → read nodes row steps reference ≡ mark_of reference
unfolding read
read_mark nodes row zero reference h = refl
read_mark nodes row (suc steps) reference h = cond-true (is_mark reference) _ _ (lt-ltb reference 3 h)

-- a node is read as its branch, in one step less
pub read_node : (nodes : List Node) (row steps reference : ℕ) → 3 ≤ reference → read nodes row (suc steps) reference ≡ read nodes row steps (branch (node_at nodes reference) row)
unfolding read
read_node nodes row steps reference h = cond-false (is_mark reference) _ _ (le-ltb reference 3 h)

pub level_mark : (inputs : ℕ) (nodes : List Node) (reference : ℕ) → reference < 3 → level_of inputs nodes reference ≡ inputs
level_mark inputs nodes reference h = cond-true (is_mark reference) _ _ (lt-ltb reference 3 h)

pub level_node : (inputs : ℕ) (nodes : List Node) (reference : ℕ) → 3 ≤ reference → level_of inputs nodes reference ≡ (node_at nodes reference).level
level_node inputs nodes reference h = cond-false (is_mark reference) _ _ (le-ltb reference 3 h)

-- rows that agree from an input on agree from a later one on
upper_alike : (a b from level : ℕ) → from ≤ level → a / 2 ^ from ≡ b / 2 ^ from → a / 2 ^ level ≡ b / 2 ^ level
upper_alike a b from level h same =
    let e : from + (level - from) ≡ level = omega arith in
    rw (← e) (sym (shr-shr a from (level - from)) ∙ ap (λ q. q / 2 ^ (level - from)) same ∙ shr-shr b from (level - from))

branch_alike : (node : Node) (a b : ℕ) → a / 2 ^ node.level ≡ b / 2 ^ node.level → branch node a ≡ branch node b
branch_alike node a b same = ap (λ q. cond (eqb (q % 2) 1) node.high node.low) same

module _ (inputs : ℕ) (nodes : List Node) (fit : Fit inputs nodes) where
  -- a level is below the inputs at a node, and the inputs at a mark
  pub level_within : (reference : ℕ) → reference < 3 + length nodes → level_of inputs nodes reference ≤ inputs
  level_within reference valid =
      ⊎_elim
      (λ mark. let here = level_mark inputs nodes reference mark in omega arith)
      (λ node. let here = level_node inputs nodes reference node in let below = level_below inputs nodes fit reference node valid in omega arith)
      (cases_lt reference 3)

  end_marked : (reference : ℕ) → reference < 3 + length nodes → inputs ≤ level_of inputs nodes reference → reference < 3
  end_marked reference valid enough =
      ⊎_elim
      (λ mark. mark)
      (λ node. let here = level_node inputs nodes reference node in let below = level_below inputs nodes fit reference node valid in omega arith)
      (cases_lt reference 3)

  -- the levels rise, so steps down to the last input are enough
  pub read_enough : (row s t reference : ℕ) → reference < 3 + length nodes → inputs ≤ s + level_of inputs nodes reference → inputs ≤ t + level_of inputs nodes reference → read nodes row s reference ≡ read nodes row t reference
  read_enough row zero t reference valid enough enough' =
      let mark = end_marked reference valid (omega arith) in
      read_mark nodes row zero reference mark ∙ sym (read_mark nodes row t reference mark)
  read_enough row (suc s) zero reference valid enough enough' =
      let mark = end_marked reference valid (omega arith) in
      read_mark nodes row (suc s) reference mark ∙ sym (read_mark nodes row zero reference mark)
  read_enough row (suc s) (suc t) reference valid enough enough' =
      ⊎_elim
      (λ mark. read_mark nodes row (suc s) reference mark ∙ sym (read_mark nodes row (suc t) reference mark))
      (λ node.
      let down = row_down inputs nodes fit reference node valid row in
      let here = level_node inputs nodes reference node in
      read_node nodes row s reference node
      ∙ read_enough row s t (branch (node_at nodes reference) row) (omega arith) (omega arith) (omega arith)
      ∙ sym (read_node nodes row t reference node))
      (cases_lt reference 3)

  -- a node is read as its branch
  pub read_step : (row reference : ℕ) → 3 ≤ reference → reference < 3 + length nodes → read nodes row inputs reference ≡ read nodes row inputs (branch (node_at nodes reference) row)
  read_step row reference node valid =
      read_enough row inputs (suc inputs) reference valid (omega arith) (omega arith) ∙ read_node nodes row inputs reference node

  -- rows that agree from an input on are read alike from a reference at its level or deeper
  pub read_upper : (a b from steps reference : ℕ) → a / 2 ^ from ≡ b / 2 ^ from → reference < 3 + length nodes → from ≤ level_of inputs nodes reference → read nodes a steps reference ≡ read nodes b steps reference
  unfolding read
  read_upper a b from zero reference same valid deep = refl
  read_upper a b from (suc steps) reference same valid deep =
      ⊎_elim
      (λ mark. read_mark nodes a (suc steps) reference mark ∙ sym (read_mark nodes b (suc steps) reference mark))
      (λ node.
      let down = row_down inputs nodes fit reference node valid a in
      let here = level_node inputs nodes reference node in
      let alike = branch_alike (node_at nodes reference) a b (upper_alike a b from (node_at nodes reference).level (omega arith) same) in
      read_node nodes a steps reference node
      ∙ read_upper a b from steps (branch (node_at nodes reference) a) same (omega arith) (omega arith)
      ∙ ap (λ t. read nodes b steps t) alike
      ∙ sym (read_node nodes b steps reference node))
      (cases_lt reference 3)
