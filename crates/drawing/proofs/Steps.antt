-- One piece more keeps what holds midway through a level.
use Rattle.std.proofs.Common.{◌≡◌, ℕ, suc, ◌+◌, ◌<◌, ◌≤◌, true, eqb, ◌≢◌, List, [], ◌∷◌, ◌++◌, length, get_or, Some, None, Option, sym, refl, ◌∙◌, subst, inl, inr, ⊎_elim, arith}
use Rattle.std.proofs.lemmas.List.{length_push}
use Rattle.std.proofs.lemmas.Bool.{cases_lt, cases_eq, lt-ltb, eqb-true, eqb-false, cond_both, and_from}
use Rattle.std.proofs.lemmas.Bool.Decides.{nat_tests}
use Rattle.diagram.specs.declared.node.Node.{Node}
use Rattle.diagram.specs.Walk.{no_node}
use Rattle.diagram.specs.Rules.{fit_branch, fit_node}
use Rattle.diagram.specs.Counting.{level_of}
use Rattle.drawing.specs.Pieces.{piece, all_ones, Draft, put, referred, settled, place_of, node_of, with_piece}
use Rattle.drawing.proofs.Levels.{Alike, Table, Refers, Own, as_mark, as_node, over, Led, Midway}
use Rattle.drawing.proofs.Searches.{Stands, stands}
use Rattle.drawing.proofs.Pushes.{place_cases, at_old, at_last, fit_push, level_push, read_push, leads_push}
use Rattle.drawing.proofs.Constant.{piece_zeros, piece_ones, piece_alike, neighbours_alike}

put_same : (f : ℕ → ℕ) (k r : ℕ) → put f k r k ≡ r
put_same f k r = grind (arith, nat_tests)

put_other : (f : ℕ → ℕ) (k r i : ℕ) → i ≢ k → put f k r i ≡ f i
put_other f k r i ne = grind (arith, nat_tests)

-- a node that stands nowhere yet, decides something and fits
module _ (inputs : ℕ) (nodes : List Node) (x : Node) where
  once_push : ((place other : ℕ) → place < length nodes → other < length nodes → get_or nodes place no_node ≡ get_or nodes other no_node → place ≡ other) → Stands x nodes None → (place other : ℕ) → place < length (nodes ++ x ∷ []) → other < length (nodes ++ x ∷ []) → get_or (nodes ++ x ∷ []) place no_node ≡ get_or (nodes ++ x ∷ []) other no_node → place ≡ other
  once_push once nowhere place other h g e =
      let n = length_push nodes x in
      let last : (p : ℕ) → length nodes ≤ p → p < length (nodes ++ x ∷ []) → get_or (nodes ++ x ∷ []) p no_node ≡ x = λ p more less. at_last nodes x p (omega arith) in
      ⊎_elim
      (λ a. ⊎_elim (λ b. once place other a b (sym (at_old nodes x place a) ∙ e ∙ at_old nodes x other b)) (λ b. absurd (nowhere place a (sym (at_old nodes x place a) ∙ e ∙ last other b g))) (cases_lt other (length nodes)))
      (λ a. ⊎_elim (λ b. absurd (nowhere other b (sym (at_old nodes x other b) ∙ sym e ∙ last place a h))) (λ b. omega arith) (cases_lt other (length nodes)))
      (cases_lt place (length nodes))

  pub table_push : Table inputs nodes → fit_node inputs nodes (length nodes) x ≡ true → x.low ≢ x.high → Stands x nodes None → Table inputs (nodes ++ x ∷ [])
  table_push t fits unlike nowhere =
      let n = length_push nodes x in
      record {
        fit = fit_push nodes x inputs t.fit fits;
        decides =
            place_cases (λ place. (get_or (nodes ++ x ∷ []) place no_node).low ≢ (get_or (nodes ++ x ∷ []) place no_node).high) nodes x
            (λ place h. subst (λ (y : Node). y.low ≢ y.high) (sym (at_old nodes x place h)) (t.decides place h))
            (subst (λ (y : Node). y.low ≢ y.high) (sym (at_last nodes x (length nodes) refl)) unlike);
        once = once_push t.once nowhere;
      }

  pub refers_push : (bits level i r : ℕ) → Table inputs nodes → Refers inputs bits level nodes i r → Refers inputs bits level (nodes ++ x ∷ []) i r
  refers_push bits level i r t ref =
      let n = length_push nodes x in
      let valid = ref.valid in
      let level-same = level_push nodes x inputs r valid in
      let deep = ref.deep in
      record {
        valid = omega arith;
        deep = omega arith;
        reads = λ row h. read_push nodes x inputs t.fit row inputs r valid ∙ ref.reads row h;
        flat = ref.flat;
      }

  pub own_push : (bits level : ℕ) (old : ℕ → ℕ) (i r : ℕ) → Own inputs bits level old nodes i r → Own inputs bits level old (nodes ++ x ∷ []) i r
  own_push bits level old i r (as_mark c small each is) = as_mark c small each is
  own_push bits level old i r (as_node place h is node mixed) = let n = length_push nodes x in as_node place (omega arith) is (at_old nodes x place h ∙ node) mixed

-- a branch to a reference of a later level fits
branch_fits : (inputs : ℕ) (nodes : List Node) (level r : ℕ) → r < 3 + length nodes → level + 1 ≤ level_of inputs nodes r → fit_branch nodes (length nodes) level r ≡ true
branch_fits inputs nodes level r valid deep = grind (arith, nat_tests)

-- the piece k, of a level below the inputs
module _ (inputs bits level : ℕ) (old : ℕ → ℕ) (k : ℕ) (less : level < inputs) (here : k ≤ level) where
  -- a reference for it is put in its place
  own_put : (nodes : List Node) (f : ℕ → ℕ) (r : ℕ) → ((i : ℕ) → i < k → Own inputs bits level old nodes i (f i)) → Own inputs bits level old nodes k r → (i : ℕ) → i < suc k → Own inputs bits level old nodes i (put f k r i)
  own_put nodes f r before own i h =
      ⊎_elim
      (λ (e : i ≡ k). subst (λ j. Own inputs bits level old nodes j (put f k r j)) (sym e) (subst (λ t. Own inputs bits level old nodes k t) (sym (put_same f k r)) own))
      (λ ne. subst (λ t. Own inputs bits level old nodes i t) (sym (put_other f k r i ne)) (before i (omega arith)))
      (cases_eq i k)

  kept_put : (f : ℕ → ℕ) (r : ℕ) → ((i : ℕ) → k ≤ i → f i ≡ old i) → (i : ℕ) → suc k ≤ i → put f k r i ≡ old i
  kept_put f r kept i h = let ne : i ≢ k = omega arith in put_other f k r i ne ∙ kept i (omega arith)

  near_put : (f : ℕ → ℕ) (r target : ℕ) → ((i : ℕ) × (i < k) × (f i ≡ target)) → (i : ℕ) × (i < suc k) × (put f k r i ≡ target)
  near_put f r target (i, lt, e) = let ne : i ≢ k = omega arith in (i, omega arith, put_other f k r i ne ∙ e)

  module _ (d : Draft) (mid : Midway inputs bits level old k d) where
    put_midway : (r : ℕ) → Own inputs bits level old d.nodes k r → Midway inputs bits level old (suc k) (referred k r d)
    put_midway r own =
        record {
          table = mid.table;
          after = mid.after;
          own = own_put d.nodes d.refers r mid.own own;
          kept = kept_put d.refers r mid.kept;
          led = λ place h. ⊎_elim (λ far. inl far) (λ near. inr (near_put d.refers r (3 + place) near)) (mid.led place h);
        }

    -- its node, if it is not constant
    module _ (mixed : Alike inputs bits level k → ⊥) where
      low : Refers inputs bits (level + 1) d.nodes k (old k)
      low = mid.after k (omega arith)

      high : Refers inputs bits (level + 1) d.nodes (k + 1) (old (k + 1))
      high = mid.after (k + 1) (omega arith)

      fits : fit_node inputs d.nodes (length d.nodes) (over level old k) ≡ true
      fits =
          and_from _ _ (lt-ltb level inputs less) (and_from _ _
          (branch_fits inputs d.nodes level (old k) low.valid low.deep)
          (branch_fits inputs d.nodes level (old (k + 1)) high.valid high.deep))

      unlike : old k ≢ old (k + 1)
      unlike same = mixed (neighbours_alike inputs bits level k d.nodes (old k) (old (k + 1)) less low high same)

      placed_midway : Stands (over level old k) d.nodes None → Midway inputs bits level old (suc k) (settled k (over level old k) None d)
      placed_midway nowhere =
          let x : Node = over level old k in
          let n = length_push d.nodes x in
          record {
            table = table_push inputs d.nodes x mid.table fits unlike nowhere;
            after = λ i h. refers_push inputs d.nodes x bits (level + 1) i (old i) mid.table (mid.after i h);
            own =
                own_put (d.nodes ++ x ∷ []) d.refers (3 + length d.nodes)
                (λ i h. own_push inputs d.nodes x bits level old i (d.refers i) (mid.own i h))
                (as_node (length d.nodes) (omega arith) refl (at_last d.nodes x (length d.nodes) refl) mixed);
            kept = kept_put d.refers (3 + length d.nodes) mid.kept;
            led =
                place_cases (λ place. Led level (suc k) old (settled k x None d) place) d.nodes x
                (λ place h.
                ⊎_elim
                (λ far. inl (far.0, far.1, leads_push d.nodes x inputs mid.table.fit (old far.0) (3 + place) (mid.after far.0 far.1).valid far.2))
                (λ near. inr (near_put d.refers (3 + length d.nodes) (3 + place) near))
                (mid.led place h))
                (inr (k, omega arith, put_same d.refers k (3 + length d.nodes)));
          }

      settled_midway : (o : Option ℕ) → Stands (over level old k) d.nodes o → Midway inputs bits level old (suc k) (settled k (over level old k) o d)
      settled_midway (Some place) stood = put_midway (3 + place) (as_node place stood.0 refl stood.1 mixed)
      settled_midway None nowhere = placed_midway nowhere

    node_is : node_of level k d ≡ over level old k
    node_is = let l = mid.kept k (omega arith) in let h = mid.kept (k + 1) (omega arith) in cc

    -- the piece is drawn
    pub step : Midway inputs bits level old (suc k) (with_piece inputs bits level k d)
    step =
        cond_both (eqb (piece inputs bits level k) 0) _ _ (Midway inputs bits level old (suc k))
        (λ zeros. put_midway 0 (as_mark 0 (omega arith) (piece_zeros inputs bits level k (eqb-true _ _ zeros)) refl))
        (λ some.
        cond_both (eqb (piece inputs bits level k) (all_ones inputs level)) _ _ (Midway inputs bits level old (suc k))
        (λ ones. put_midway 1 (as_mark 1 (omega arith) (piece_ones inputs bits level k (eqb-true _ _ ones)) refl))
        (λ other.
        let mixed : Alike inputs bits level k → ⊥ = λ alike. ⊎_elim (eqb-false _ _ some) (eqb-false _ _ other) (piece_alike inputs bits level k alike) in
        subst (λ x. Midway inputs bits level old (suc k) (settled k x (place_of x d.nodes) d)) (sym node_is)
        (settled_midway mixed (place_of (over level old k) d.nodes) (stands (over level old k) d.nodes))))
