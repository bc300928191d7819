-- Checking a certificate that was read: the first refusal 9 to 18, in document 01's order, or none.
-- Assumes nothing.
use Rattle.std.specs.Prelude.{length}
use Rattle.grammar.specs.Tree.{Tree}
use Rattle.rules.specs.Result.{Verdict, bind, ◌and_then◌, require, each, each_from}
use Rattle.rules.specs.Solutions.{check_solution, objectives_of, end_to_reach, reached}
use Rattle.rules.specs.Derivations.{check_derivation}
use Rattle.rules.specs.Claims.{last_row, is_proved, last_place}

-- "For each solution in order .. After all solutions, their objectives .. else 10 .. Each derived row .. Claim, else 17"
unfoldable pub check_of : Tree → Verdict
check_of tree =
    each (check_solution tree) tree.solutions.solutions
    and_then bind (objectives_of tree)
    (λ os. require (reached tree.objective.direction (end_to_reach tree.objective.direction tree.relation.claim) os) 10 tree.relation.place
    and_then each_from (check_derivation tree os) (length tree.constraints.rows) tree.derivations.derivations
    and_then require (is_proved tree) 17 (last_place tree.derivations.place (last_row tree)))
