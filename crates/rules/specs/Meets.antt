-- What it means that a certificate meets the rules, one condition beside the other. Agreement.antt proves that checking finds
-- nothing to refuse exactly if they are met.
-- Assumes nothing.
use Rattle.std.specs.Prelude.{List, length}
use Rattle.arithmetic.specs.declared.Fraction.{Fraction}
use Rattle.grammar.specs.Tree.{Tree}
use Rattle.rules.specs.Tests.{All}
use Rattle.rules.specs.Result.{AllFrom}
use Rattle.rules.specs.Solutions.{Feasible, Objectives, end_to_reach, Reached}
use Rattle.rules.specs.Derivations.{Derived}
use Rattle.rules.specs.Claims.{Proved}

pub record Meets (tree : Tree) : Type 0 where
  -- every solution is whole where it must be and feasible, within the limit
  pub solutions_feasible : All (Feasible tree) tree.solutions.solutions
  -- their objectives, within the limit
  pub objectives : List Fraction
  pub objectives_are : Objectives tree objectives
  -- one of them reaches the end that the claim asks solutions to reach
  pub claim-reached : Reached tree.objective.direction (end_to_reach tree.objective.direction tree.relation.claim) objectives
  -- every derived row is right by its reason, and no row that it names is spent
  pub rows_derived : AllFrom (Derived tree objectives) (length tree.constraints.rows) tree.derivations.derivations
  -- the last row proves what the claim asks, with no assumptions
  pub claim_proved : Proved tree
