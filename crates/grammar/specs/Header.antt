-- The header of a certificate: its counts, and where its parts stand (document 01, "Tables lent by the caller").
-- Assumes nothing.
use Rattle.std.specs.Prelude.{Bool, true, false, ◌+◌}
use Rattle.tables.specs.declared.Header.{Header}
use Rattle.grammar.specs.Tree.{Direction, minimize, maximize, Tree}
use Rattle.grammar.specs.Rows.{objective_at, claim_at, claim_values_at}

abbrev pub is_maximize : Direction → Bool
is_maximize minimize = false
is_maximize maximize = true

-- the objective's terms follow its direction and their count, and have the first values
abbrev pub header_of : Tree → Header
header_of t =
    record {
      variables = t.variables.count;
      integers = t.integers.count;
      maximize = is_maximize t.objective.direction;
      objective = record { cell = objective_at t + 2; number = 0; count = t.objective.terms.count };
      given = t.constraints.count;
      rows = t.constraints.count + t.derivations.count;
      solutions = t.solutions.count;
      claim = claim_at t;
      ends = claim_values_at t;
      relation = t.relation.place;
      derivation = t.derivations.place;
    }
