-- `linear::coefficients::Coefficients::set` meets its contract: what is stored is the coefficient of its variable.
use mathlib.Core.Path.{refl}
use native.Mathlib.Omega.{arith}
use Rattle.linear.proofs.CoefficientsLaws.{not-zero, coefficients_set}
use Rattle.linear.proofs.coefficients.Coefficients.set.Goals as goal

pub returns-then-v-lt-VARIABLES : goal.returns-then-v-lt-VARIABLES
returns-then-v-lt-VARIABLES c = λ is h. coefficients_set _ _ _ _ (omega arith) refl (not-zero _ is)
