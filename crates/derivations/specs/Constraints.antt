-- What the code's rows and constraints stand for.
-- Assumes nothing.
use Rattle.std.specs.Prelude.{◌≡◌, ℕ, Option, Some, None, Result, Ok, Err}
use Rattle.arithmetic.specs.Fraction.{IsFraction}
use Rattle.arithmetic.specs.declared.Fraction.{Fraction}
use Rattle.grammar.specs.Tree as grammar
use Rattle.grammar.specs.Tree.{Tree}
use Rattle.grammar.specs.Refusals.{refusal_number}
use Rattle.grammar.specs.declared.Stop.{Stop}
use Rattle.rules.specs.Result as result
use Rattle.rules.specs.Rows as rows
use Rattle.rules.specs.Rows.{value_in, constraint_of}
use Rattle.rules.specs.Sentence.Formed.{Formed}
use Rattle.senses.specs.Senses.{sense_is, constraint_by}
use Rattle.senses.specs.declared.Bound.{Bound}
use Rattle.senses.specs.declared.Sense.{Sense}
use Rattle.linear.specs.Lists.{terms_of}
use Rattle.linear.specs.Coefficients.{coefficients_of, AreFractions}
use Rattle.linear.specs.declared.rows.Row.{Row}
use Rattle.encoding.specs.declared.Certificate.{Certificate}
use Rattle.derivations.specs.declared.constraints.Constraint.{Constraint}

-- listed terms with a bound are this row of a certificate
pub record Stands (tree : Tree) (c : Certificate) (r : grammar.Row) (x : Row) : Type 0 where
  pub is : constraint_by (value_in (terms_of x.terms)) x.bound ≡ constraint_of tree r
  pub terms_are : terms_of x.terms ≡ rows.terms_of tree r
  pub right_is : x.bound.right ≡ r.right
  pub formed : Formed c.header.variables (terms_of x.terms)
  pub fraction : IsFraction x.bound.right

abbrev pub constraint_is : Constraint → rows.Constraint
constraint_is c = constraint_by (coefficients_of c.coefficients.now) c.bound

-- its coefficients and its right side are fractions
pub record HaveFractions (c : Constraint) : Type 0 where
  pub coefficients : AreFractions (coefficients_of c.coefficients.now)
  pub right : IsFraction c.bound.right

-- a sense, or the reason and the place of the first refusal
abbrev pub sense_says : Result Sense Stop → result.Result grammar.Sense
sense_says (Ok s) = result.done (sense_is s)
sense_says (Err stop) = result.refused (refusal_number stop.reason) stop.place

-- the same of a bound
abbrev pub bound_says : Result Bound Stop → result.Result Bound
bound_says (Ok b) = result.done b
bound_says (Err stop) = result.refused (refusal_number stop.reason) stop.place

-- the bound of a combination with this sense, by its right side; 12 at a place where there is none
abbrev pub bound_with : ℕ → Sense → Option Fraction → result.Result Bound
bound_with place sense (Some right) = result.done (record { sense = sense; right = right })
bound_with place sense None = result.refused 12 place
