-- `solutions::objectives::objective_at` meets its contract: the left side of the objective at the solution.
use Rattle.rules.specs.Rows.{objective}
use Rattle.encoding.specs.Encodes.{solution_at}
use Rattle.solutions.proofs.objectives.objective_at.Goals as goal

pub returns-clause-says : goal.returns-clause-says
returns-clause-says c =
    λ tree e lt.
    let few = e.in_range.variables_most in
    c.left_at.ensures.says _ (solution_at tree c.args.j) (objective tree) few (c.of.ensures _ _ few (e.solution c.args.j lt)) e.objective_is e.formed.objective_formed
