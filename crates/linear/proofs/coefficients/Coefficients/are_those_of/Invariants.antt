-- `linear::coefficients::Coefficients::are_those_of` meets its contract: each listed term is compared, and those that are not zero
-- are counted.
use Rattle.linear.specs.Coefficients.{coefficients_of}
use Rattle.linear.proofs.ComparingLaws.{Matched}
use Rattle.linear.proofs.coefficients.Coefficients.are_those_of.Given as goal

abbrev pub invariant-loop-k : goal.invariant-loop-k
invariant-loop-k l = Matched l.terms.variables.now l.terms.parts.now (coefficients_of l.self) l.found l.k
