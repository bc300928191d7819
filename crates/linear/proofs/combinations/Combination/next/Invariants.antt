-- `linear::combinations::Combination::next` meets its contract: what is left to add gives the same as all terms; then the right
-- side.
use Rattle.linear.proofs.CombinationsLaws.{Combining}
use Rattle.linear.proofs.combinations.Combination.next.Given as goal

abbrev pub invariant-loop-k : goal.invariant-loop-k
invariant-loop-k l = Combining l.terms.variables.now l.terms.parts.now l.right l.factor l.initial.self l.so_far l.self.coefficients l.k
