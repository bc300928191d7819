-- `linear::lists::Terms::left_at` meets its contract: what is left to add gives the left side, from the sum so far on.
use Rattle.linear.specs.Coefficients.{coefficients_of}
use Rattle.linear.proofs.PointsLaws.{Adding}
use Rattle.linear.proofs.lists.Terms.left_at.Given as goal

abbrev pub invariant-loop-k : goal.invariant-loop-k
invariant-loop-k l = Adding l.self.variables.now l.self.parts.now (coefficients_of l.point) l.sum l.k
