-- `linear::coefficients::Coefficients::at` meets its contract: beyond the array the coefficient is 0.
use borrow.Author.Rules.{rules}
use Rattle.linear.specs.Coefficients.{coefficients_of}
use Rattle.linear.proofs.coefficients.Coefficients.at.Goals as goal

pub returns : goal.returns
unfolding coefficients_of
returns c = search rules
