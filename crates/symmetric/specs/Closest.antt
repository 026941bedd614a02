-- Why it is the nearest: for whoever wants to know how wrong a symmetric function is in an output's place.
-- A symmetric function is given by its value at each weight, f : ℕ → Bool.
use Rattle.std.specs.Prelude.{◌≡◌, ℕ, ◌+◌, ◌-◌, ◌^◌, ◌<◌, ◌≤◌, Bool, false, not, ◌&&◌, ◌||◌, List, count_ones}
use Rattle.rows.specs.Rows.{count}
use Rattle.rows.specs.Products.{Product, AllFormed, Disjoint, reading}
use Rattle.rows.specs.SymmetricApproximation.{v, e}
use Rattle.design.specs.declared.mark.Mark.{Mark}
use Rattle.design.specs.declared.mark.Mark.TheVariants.{Zero, One, DontCare}
use Rattle.design.specs.Meaning.{Meaning, is_zero, is_one}
use Rattle.symmetric.specs.Vectors.{value}
use Rattle.symmetric.specs.Nearest.{chosen, bits, wrong}

-- the mark asks for one and the value is zero, or for zero and the value is one
abbrev pub differ : Mark → Bool → Bool
differ mark value = (is_one mark && not value) || (is_zero mark && value)

-- at how many rows a symmetric function is wrong in an output's place
abbrev pub wrong_rows : Meaning → ℕ → (ℕ → Bool) → ℕ
wrong_rows m o f = count m.inputs (λ r. differ (m.mark o r) (f (count_ones r)))

-- the number of a mark
abbrev pub number : Mark → ℕ
number Zero = 0
number One = 1
number DontCare = 2

-- a list of disjoint products stands for an output: at every row it reads as the mark
pub record Stands (m : Meaning) (o : ℕ) (products : List Product) : Type 0 where
  pub formed : AllFormed m.inputs products
  pub disjoint : Disjoint m.inputs products
  pub reads : (r : ℕ) → r < 2 ^ m.inputs → reading products r ≡ number (m.mark o r)

-- the values and wrong rows of an output are those of the closest symmetric approximation of such a list
pub record Approximated (m : Meaning) (o : ℕ) (products : List Product) : Type 0 where
  pub values : (w : ℕ) → v m.inputs products w ≡ chosen m o w
  pub errors : e m.inputs products ≡ wrong m o

-- what makes the vector and the wrong rows of an output those of the nearest symmetric function
pub record Closest (m : Meaning) (o : ℕ) : Type 0 where
  -- bit w of the vector is the value at weight w, and no bit is above n
  pub values : (w : ℕ) → w ≤ m.inputs → value (bits m o) w ≡ chosen m o w
  pub none_above : (w : ℕ) → m.inputs < w → value (bits m o) w ≡ false
  pub fits : bits m o < 2 ^ (m.inputs + 1)
  -- the vector is wrong at as many rows as told, and no symmetric function at fewer
  pub exact : wrong_rows m o (value (bits m o)) ≡ wrong m o
  pub least : (f : ℕ → Bool) → wrong m o ≤ wrong_rows m o f
  -- at most half of all rows are wrong
  pub half : wrong m o ≤ 2 ^ (m.inputs - 1)
  -- every list of disjoint products that stands for the output gives the same values and errors
  pub approximation : (products : List Product) → Stands m o products → Approximated m o products
