-- `linear::lists::Terms::coefficients` meets its contract: the coefficients are those of the terms that the loop has passed.
use Rattle.linear.proofs.CoefficientsLaws.{Spread}
use Rattle.linear.proofs.lists.Terms.coefficients.Given as goal

abbrev pub invariant-loop-k : goal.invariant-loop-k
invariant-loop-k l = Spread l.self.variables.now l.self.parts.now l.coefficients l.k
