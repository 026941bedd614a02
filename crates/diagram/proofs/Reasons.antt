-- The answer to a building has its reason.
use Rattle.std.proofs.Common.{◌≡◌, ℕ, Bool, true, false, cond, eqb, List, length, Ok, Err, Result, sym, refl, subst}
use Rattle.std.proofs.lemmas.Bool.{eqb-true, eqb-false}
use Rattle.refusal.specs.declared.table.Refusal.{Refusal}
use Rattle.refusal.specs.declared.table.Refusal.TheVariants.{BadNode, RootCount, BadRoot}
use Rattle.design.specs.Checks.{CheckedSays, Sizes}
use Rattle.design.proofs.Reasons.{by_sizes}
use Rattle.diagram.specs.declared.node.Node.{Node}
use Rattle.diagram.specs.Rules.{fit_node, fit_root, each, root_count, then}
use Rattle.diagram.proofs.Each.{each_tells}
use Rattle.diagram.specs.Reasons.{NodesFit, Reason, BuildingsHaveReasons, bad_size, bad_node, other_count, bad_root, no_refusal}

module _ (inputs outputs : ℕ) (nodes : List Node) (roots : List ℕ) where
  -- the answer that a check of the table leads to has its reason
  abbrev Reasoned : Result (Unit {0}) Refusal → Type 0
  Reasoned r = Reason inputs outputs nodes roots (then r (Ok (record { inputs = inputs; nodes = nodes; roots = roots })))

  rooted : NodesFit inputs outputs nodes → length roots ≡ outputs → (r : Result (Unit {0}) Refusal) → CheckedSays (fit_root (length nodes)) BadRoot roots r → Reasoned r
  rooted fit same (Ok _) said = no_refusal fit same said
  rooted fit same (Err why) said = subst (λ w. Reasoned (Err w)) (sym said.1) (bad_root said.0 fit same said.2)

  counted : NodesFit inputs outputs nodes → Reasoned (then (root_count outputs (length roots)) (each (fit_root (length nodes)) BadRoot 0 roots))
  counted fit = by (eqb (length roots) outputs) refl
    where
      by : (b : Bool) → eqb (length roots) outputs ≡ b → Reasoned (then (cond b (Ok (tt {0})) (Err (RootCount (length roots)))) (each (fit_root (length nodes)) BadRoot 0 roots))
      by true e = rooted fit (eqb-true _ _ e) (each (fit_root (length nodes)) BadRoot 0 roots) (each_tells (fit_root (length nodes)) BadRoot roots)
      by false e = other_count fit (eqb-false _ _ e)

  noded : Sizes inputs outputs (length nodes) → (r : Result (Unit {0}) Refusal) → CheckedSays (fit_node inputs nodes) BadNode nodes r
      → Reasoned (then r (then (root_count outputs (length roots)) (each (fit_root (length nodes)) BadRoot 0 roots)))
  noded sizes (Ok _) said = counted (record { sizes = sizes; fit = said })
  noded sizes (Err why) said = subst (λ w. Reasoned (Err w)) (sym said.1) (bad_node said.0 sizes said.2)

pub built_reason : BuildingsHaveReasons
built_reason inputs outputs nodes roots =
    by_sizes (λ r. Reasoned inputs outputs nodes roots (then r (then (each (fit_node inputs nodes) BadNode 0 nodes) (then (root_count outputs (length roots)) (each (fit_root (length nodes)) BadRoot 0 roots)))))
    inputs outputs (length nodes) (Ok tt)
    (λ sizes. noded inputs outputs nodes roots sizes (each (fit_node inputs nodes) BadNode 0 nodes) (each_tells (fit_node inputs nodes) BadNode nodes)) bad_size
