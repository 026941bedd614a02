-- Laws of a finite sum.
use Rattle.std.proofs.Common.{◌≡◌, ℕ, zero, suc, ◌+◌, ◌*◌, ◌<◌, ◌≤◌, Bool, true, false, eqb, ◌⊎◌, sym, refl, ap, ◌∙◌, inl, inr, add-suc, mul-zero, mul-add, arith}
use mathlib.Core.Path.{fun_ext}
use Rattle.std.proofs.lemmas.Bool.Decides.{eqb_tells}
use Rattle.std.proofs.lemmas.Bool.{ne_eqb}
use Rattle.rows.specs.Rows.{sum_below, bit}

-- sums of terms that are equal below the end are equal
pub sum_cong : (m : ℕ) (f g : ℕ → ℕ) → ((k : ℕ) → k < m → f k ≡ g k) → sum_below m f ≡ sum_below m g
unfolding sum_below
sum_cong zero f g same = refl
sum_cong (suc m) f g same =
    let ih = sum_cong m f g (λ k h. same k (omega arith)) in
    let e = same m (omega arith) in
    omega arith

-- the same, where the terms are equal everywhere
pub sum_same : (m : ℕ) {f g : ℕ → ℕ} → ((k : ℕ) → f k ≡ g k) → sum_below m f ≡ sum_below m g
sum_same m same = ap (sum_below m) (fun_ext same)

pub sum_le : (m : ℕ) (f g : ℕ → ℕ) → ((k : ℕ) → k < m → f k ≤ g k) → sum_below m f ≤ sum_below m g
unfolding sum_below
sum_le zero f g less = omega arith
sum_le (suc m) f g less =
    let ih = sum_le m f g (λ k h. less k (omega arith)) in
    let e = less m (omega arith) in
    omega arith

pub sum_zero : (m : ℕ) → sum_below m (λ _. 0) ≡ 0
unfolding sum_below
sum_zero zero = refl
sum_zero (suc m) = let ih = sum_zero m in omega arith

-- a sum whose terms are all 0
pub sum_none : (m : ℕ) (f : ℕ → ℕ) → ((k : ℕ) → k < m → f k ≡ 0) → sum_below m f ≡ 0
sum_none m f none = sum_cong m f (λ _. 0) none ∙ sum_zero m

-- as many ones as there are terms
pub sum_one : (m : ℕ) → sum_below m (λ _. 1) ≡ m
unfolding sum_below
sum_one zero = refl
sum_one (suc m) = let ih = sum_one m in omega arith

pub sum_add : (m : ℕ) (f g : ℕ → ℕ) → sum_below m (λ k. f k + g k) ≡ sum_below m f + sum_below m g
unfolding sum_below
sum_add zero f g = refl
sum_add (suc m) f g = let ih = sum_add m f g in omega arith

pub sum_mul : (m c : ℕ) (f : ℕ → ℕ) → sum_below m (λ k. c * f k) ≡ c * sum_below m f
unfolding sum_below
sum_mul zero c f = sym (mul-zero c)
sum_mul (suc m) c f =
    let ih = sum_mul m c f in
    let e = mul-add c (sum_below m f) (f m) in
    omega arith

-- two sums may be taken in either order
pub sum_swap : (m n : ℕ) (f : ℕ → ℕ → ℕ) → sum_below m (λ i. sum_below n (λ j. f i j)) ≡ sum_below n (λ j. sum_below m (λ i. f i j))
unfolding sum_below
sum_swap zero n f = sym (sum_zero n)
sum_swap (suc m) n f =
    let ih = sum_swap m n f in
    let e = sum_add n (λ j. sum_below m (λ i. f i j)) (f m) in
    omega arith

-- a sum to m + n is one to m and the n terms after it
pub sum_split : (m n : ℕ) (f : ℕ → ℕ) → sum_below (m + n) f ≡ sum_below m f + sum_below n (λ k. f (m + k))
unfolding sum_below
sum_split m zero f = simp native.Mathlib.Nat.add-zero
sum_split m (suc n) f = rw (add-suc m n) (let ih = sum_split m n f in omega arith)

-- the last term, and the sum of the others
pub sum_last : (m : ℕ) (f : ℕ → ℕ) → sum_below (suc m) f ≡ sum_below m f + f m
unfolding sum_below
sum_last m f = refl

-- the first term, and the sum of the others
pub sum_first : (m : ℕ) (f : ℕ → ℕ) → sum_below (suc m) f ≡ f 0 + sum_below m (λ k. f (suc k))
unfolding sum_below
sum_first zero f = omega arith
sum_first (suc m) f = let ih = sum_first m f in omega arith

-- the terms at even and at odd places
pub sum_pairs : (m : ℕ) (f : ℕ → ℕ) → sum_below (m * 2) f ≡ sum_below m (λ k. f (k * 2)) + sum_below m (λ k. f (k * 2 + 1))
unfolding sum_below
sum_pairs zero f = refl
sum_pairs (suc m) f =
    let twice : suc m * 2 ≡ suc (suc (m * 2)) = omega arith in
    let odd : suc (m * 2) ≡ m * 2 + 1 = omega arith in
    let ih = sum_pairs m f in
    let e = ap f odd in
    rw twice (omega arith)

-- a test that no number below m passes
pub sum_off : (m : ℕ) (p : ℕ → Bool) → ((k : ℕ) → k < m → p k ≡ false) → sum_below m (λ k. bit (p k)) ≡ 0
sum_off m p off = sum_none m (λ k. bit (p k)) (λ k h. ap bit (off k h))

-- of the numbers below m, one is k
pub sum_pick : (m k : ℕ) → k < m → sum_below m (λ w. bit (eqb k w)) ≡ 1
unfolding sum_below
sum_pick zero k h = absurd (omega arith)
sum_pick (suc m) k h = go (sum_pick m k) (eqb_tells k m)
  where
    go : (k < m → sum_below m (λ w. bit (eqb k w)) ≡ 1) → ((eqb k m ≡ true) × (k ≡ m)) ⊎ ((eqb k m ≡ false) × (k ≡ m → ⊥))
        → sum_below m (λ w. bit (eqb k w)) + bit (eqb k m) ≡ 1
    go ih (inl p) = let e = sum_off m (eqb k) (λ w b. ne_eqb k w (λ q. omega arith)) in rw p.0 (omega arith)
    go ih (inr p) = let e = ih (omega arith) in rw p.0 (omega arith)
