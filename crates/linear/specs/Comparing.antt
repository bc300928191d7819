-- Coefficients held against those of a row. Whether they are equal is told by the row's listed terms and by two counts.
-- Assumes nothing.
use Rattle.std.specs.Prelude.{Bool, not, cond, ◌≡◌, ℕ, zero, suc}
use Rattle.arithmetic.specs.Fraction.{exact}
use Rattle.arithmetic.specs.declared.Fraction.{Fraction}
use Rattle.rules.specs.Tests.{every_below}
use Rattle.rules.specs.Values.{is_zero, is_same}
use Rattle.linear.specs.declared.domination.Compared.{Compared}

-- how many of the numbers below n pass a test
abbrev pub count_below : ℕ → (ℕ → Bool) → ℕ
count_below zero test = 0
count_below (suc n) test = let count = count_below n test in cond (test n) (suc count) count

abbrev pub is_nonzero : Fraction → Bool
is_nonzero f = not (is_zero (exact f))

-- how many of n coefficients are not zero
abbrev pub nonzeros_below : ℕ → (ℕ → Fraction) → ℕ
nonzeros_below n coefficient = count_below n (λ v. is_nonzero (coefficient v))

-- what is told of the coefficients of n variables, held against those of a row: whether they are equal to those, and whether all
-- are zero
pub record Compares (n : ℕ) (coefficient row : ℕ → Fraction) (r : Compared) : Type 0 where
  pub same : r.same ≡ every_below n (λ v. is_same (coefficient v) (row v))
  pub zero : r.zero ≡ every_below n (λ v. is_zero (exact (coefficient v)))
