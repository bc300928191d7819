-- `claims::proving::dominates_objective` meets its contract: what the arrays and the comparison stand for.
-- Assumes nothing.
use Rattle.claims.proofs.ProvingLaws.{dominating_row}
use Rattle.claims.proofs.proving.dominates_objective.Goals as goal

pub returns : goal.returns
returns c =
    λ tree x e is formed bound.
    dominating_row tree is formed c.terms.ensures.variables c.terms.ensures.parts e c.terms-objective.ensures.variables c.terms-objective.ensures.parts
    _ c.coefficients-coefficients.ensures _ _ bound c.compare-compared.ensures c.dominates.ensures
