-- The coefficients of 256 variables, or a point's values, in an array. All cells are 0 at the start: a denominator 0, where nothing
-- is stored yet, stands for 1. The variables beyond the array have the coefficient 0.
-- Assumes nothing.
use Rattle.std.specs.Prelude.{Bool, false, cond, ◌&&◌, ◌≡◌, List, ℕ, ◌<◌, ltb, ℤ, pos, get_or}
use Rattle.arithmetic.specs.Fraction.{IsFraction}
use Rattle.arithmetic.specs.Laws.{zero_f}
use Rattle.arithmetic.specs.declared.Fraction.{Fraction}
use Rattle.tables.specs.Limits.{most_variables}
use Rattle.grammar.specs.Tree.{Tree}
use Rattle.rules.specs.Values.{same_z}
use Rattle.rules.specs.Rows.{variables}
use Rattle.rules.specs.Rounding.{is_integer}
use Rattle.linear.specs.declared.coefficients.Coefficients.{Coefficients}

-- a stored denominator, or 1
abbrev pub denominator_of : ℤ → ℤ
denominator_of d = cond (same_z d (pos 0)) (pos 1) d

-- what is stored, as a fraction
abbrev pub stored : Fraction → Fraction
stored f = record { num = f.num; den = denominator_of f.den }

-- what stands in each cell, 0 / 1 beyond the array
abbrev pub cells_of : Coefficients → ℕ → Fraction
cells_of c v = get_or c.of v zero_f

-- the coefficient of each variable
unfoldable pub coefficients_of : Coefficients → ℕ → Fraction
coefficients_of c v = stored (cells_of c v)

-- "fractions in lowest terms within the limit", at every variable
abbrev pub AreFractions : (ℕ → Fraction) → Type 0
AreFractions coefficient = (v : ℕ) → IsFraction (coefficient v)

-- ---- integer variables

-- which variables an array of 256 marks
unfoldable pub marked : List Bool → ℕ → Bool
marked integers v = ltb v most_variables && get_or integers v false

-- a tree has n variables, and the integer ones are those that an array marks
pub record VariablesAre (tree : Tree) (n : ℕ) (integers : List Bool) : Type 0 where
  pub number : variables tree ≡ n
  pub integer : (v : ℕ) → v < n → marked integers v ≡ is_integer tree v
