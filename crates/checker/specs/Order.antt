-- The parts of checking, in document 01's order, as `check_of` of rules has them.
-- Assumes nothing.
use Rattle.std.specs.Prelude.{List, length}
use Rattle.arithmetic.specs.declared.Fraction.{Fraction}
use Rattle.grammar.specs.Tree.{Tree}
use Rattle.rules.specs.Result.{Verdict, ◌and_then◌, require, each_from}
use Rattle.rules.specs.Solutions.{end_to_reach, reached}
use Rattle.rules.specs.Derivations.{check_derivation}
use Rattle.rules.specs.Claims.{last_row, is_proved, last_place}

-- "Each derived row"
abbrev pub derivations_of : Tree → List Fraction → Verdict
derivations_of tree os = each_from (check_derivation tree os) (length tree.constraints.rows) tree.derivations.derivations

-- "Claim, else 17"
abbrev pub claim_of : Tree → Verdict
claim_of tree = require (is_proved tree) 17 (last_place tree.derivations.place (last_row tree))

-- "Each derived row .. Claim, else 17"
abbrev pub proof_of : Tree → List Fraction → Verdict
proof_of tree os = derivations_of tree os and_then claim_of tree

-- "some objective is at most ub .. some is at least lb; else 10", and then the proof
abbrev pub reaching_of : Tree → List Fraction → Verdict
reaching_of tree os =
    require (reached tree.objective.direction (end_to_reach tree.objective.direction tree.relation.claim) os) 10 tree.relation.place
    and_then proof_of tree os
