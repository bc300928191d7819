-- Running combinations: what those of the code stand for.
-- Assumes nothing.
use Rattle.std.specs.Prelude.{List, ℕ, Option, Some, None, IfSome}
use Rattle.arithmetic.specs.Fraction.{IsFraction}
use Rattle.arithmetic.specs.declared.Fraction.{Fraction}
use Rattle.tables.specs.Limits.{most_variables}
use Rattle.grammar.specs.Tree.{Term}
use Rattle.rules.specs.Result.{Result, done, refused}
use Rattle.rules.specs.Combinations as rules
use Rattle.linear.specs.Lists.{TermsBelow}
use Rattle.linear.specs.Coefficients.{coefficients_of, AreFractions}
use Rattle.linear.specs.declared.combinations.Combination.{Combination}

-- the constraint that coefficients and a right side are, where each product and sum was within the limit; else 12 at a place
abbrev pub combination_with : (ℕ → Fraction) → ℕ → Option Fraction → Result rules.Combination
combination_with coefficient place (Some right) = done (record { coefficient = coefficient; right = right })
combination_with coefficient place None = refused 12 place

-- the one that a combination stands for, or 12 at a place
abbrev pub combination_says : ℕ → Combination → Result rules.Combination
combination_says place c = combination_with (coefficients_of c.coefficients) place c.right

-- the coefficients and the right side of a combination are fractions
pub record HasFractions (c : Combination) : Type 0 where
  pub coefficients : AreFractions (coefficients_of c.coefficients)
  pub right : IfSome c.right IsFraction

-- what is asked of a row and its multiplier, which a combination takes: all values are fractions, and the variables have their
-- place in the arrays
pub record Takes (c : Combination) (terms : List Term) (right factor : Fraction) : Type 0 where
  pub so_far : HasFractions c
  pub terms-below : TermsBelow most_variables terms
  pub right_is : IsFraction right
  pub factor_is : IsFraction factor
