-- `linear::coefficients::Coefficients::is_integral` meets its contract: the loop tests each coefficient in the array; those beyond it
-- are 0.
use mathlib.Core.Path.{◌≡◌}
use mathlib.Core.Bool.{true}
use Rattle.rules.specs.Tests.{every_below}
use Rattle.linear.specs.Coefficients.{coefficients_of}
use Rattle.linear.proofs.RoundingLaws.{integral_at}
use Rattle.linear.proofs.coefficients.Coefficients.is_integral.Given as goal

abbrev pub invariant-loop-v : goal.invariant-loop-v
invariant-loop-v l = every_below l.v (integral_at (coefficients_of l.self) l.integers) ≡ true
