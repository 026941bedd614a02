-- A fold of a closure that acts as a function.
use Rattle.std.proofs.Common.{◌≡◌, List, [], ◌∷◌, ◌++◌, refl, ap, ◌∙◌}
use denote.Param.Members.{Mut, Called}
use Rattle.std.specs.List.{fold, FoldsTo}
use Rattle.std.specs.Iterator.{ActsAsOnTwo}
use Rattle.std.proofs.lemmas.Fn.{fold_same}
use Rattle.std.proofs.lemmas.List.Sums.{fold-append}

pub fold_run : {F A B : Type 0} (g : Mut F (B × (A × Unit {0})) B) (h : B → A → B) (f f' : F) (xs : List A) (a b : B)
    → FoldsTo {P = F × B} (λ p x q. Called g p.0 (p.1, (x, tt)) q.1 q.0) (f, a) xs (f', b) → ActsAsOnTwo g f h → b ≡ fold h a xs
fold_run g h f f' xs a b ran acts = fold_same g (λ ys b. b ≡ fold h a ys) f step xs a b f' refl ran
  where
    step : (ys : List _) (c : _) (x : _) (d : _) (k : _) → c ≡ fold h a ys → Called g f (c, (x, tt)) d k → (d ≡ fold h a (ys ++ (x ∷ []))) × (k ≡ f)
    step ys c x d k e r =
        let s = acts c x d k r in
        (rw (fold-append h a ys (x ∷ [])) (s.1 ∙ ap (λ c. h c x) e), s.0)
