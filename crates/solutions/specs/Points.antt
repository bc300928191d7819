-- The points that solutions are, what is asked of them at an integer variable, and what an answer says of a left side.
-- Assumes nothing.
use Rattle.std.specs.Prelude.{◌≡◌, ℕ, Result, Ok, Err}
use Rattle.arithmetic.specs.declared.Fraction.{Fraction}
use Rattle.grammar.specs.Refusals.{refusal_number}
use Rattle.grammar.specs.Tree.{Solution}
use Rattle.grammar.specs.declared.Refusal.TheVariants.{ResultTooWide}
use Rattle.grammar.specs.declared.Stop.{Stop}
use Rattle.rules.specs.Result as result
use Rattle.rules.specs.Result.{Verdict, require}
use Rattle.rules.specs.Values.{is_whole}
use Rattle.rules.specs.Rows.{value_in}
use Rattle.linear.specs.Coefficients.{coefficients_of, AreFractions}
use Rattle.solutions.specs.declared.points.Point.{Point}

-- a point has the place of a solution's name and the value that it gives each variable, and each is a fraction
pub record IsPoint (p : Point) (s : Solution) : Type 0 where
  pub place_is : p.place ≡ s.name.place
  pub values_are : coefficients_of p.values ≡ value_in s.values.terms
  pub fractions : AreFractions (coefficients_of p.values)

-- "values of integer variables are whole, else 9"
abbrev pub whole_at : Solution → ℕ → Verdict
whole_at s v = require (is_whole (value_in s.values.terms v)) 9 s.name.place

-- a left side, or a refusal at a place
abbrev pub left_says : Result Fraction Stop → result.Result Fraction
left_says (Ok left) = result.done left
left_says (Err stop) = result.refused (refusal_number stop.reason) stop.place

-- "12"
abbrev pub IsTooWide : Stop → Type 0
IsTooWide stop = stop.reason ≡ ResultTooWide
