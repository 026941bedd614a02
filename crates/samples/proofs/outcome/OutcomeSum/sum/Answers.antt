-- A run of the closure at each item is the fold of `both`.
use Rattle.std.proofs.Common.{rules, ◌≡◌, ap, ◌∙◌}
use Rattle.std.specs.List.{fold}
use Rattle.samples.specs.Outcomes.{nothing, both}
use Rattle.samples.proofs.Folds.{fold_run}
use Rattle.samples.proofs.outcome.OutcomeSum.sum.Goals as goal

pub returns : goal.returns
returns g c =
    let run = c.fold.ensures.ran in
    let start : c.default.result ≡ nothing = search rules in
    record {
      ran = (
        run.0,
        λ _. run.2,
        fold_run _ both _ _ run.0 _ _ run.3 (λ x y r f' h. (search rules, search rules)) ∙ ap (λ a. fold both a run.0) start,
      );
    }
