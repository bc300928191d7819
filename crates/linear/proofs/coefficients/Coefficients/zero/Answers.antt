-- `linear::coefficients::Coefficients::zero` meets its contract: nothing is stored yet.
use Rattle.linear.specs.Coefficients.{coefficients_of}
use Rattle.linear.proofs.CoefficientsLaws.{all_zero}
use Rattle.linear.proofs.coefficients.Coefficients.zero.Goals as goal

pub returns : goal.returns
unfolding coefficients_of
returns c = λ v. all_zero 256 v
