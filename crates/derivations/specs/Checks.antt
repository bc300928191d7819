-- What derived rows are checked by, the row that is checked, and the rows that its reason names.
-- Assumes nothing.
use Rattle.std.specs.Prelude.{◌≡◌, Option, IfSome, List, map, ℕ, ◌≤◌, ◌<◌, get_or}
use Rattle.arithmetic.specs.Fraction.{IsFraction}
use Rattle.arithmetic.specs.declared.Fraction.{Fraction}
use Rattle.tables.specs.Limits.{most_variables}
use Rattle.grammar.specs.Tree.{Row, Multiplier, Unsplit, Tree}
use Rattle.rules.specs.Tests.{All}
use Rattle.rules.specs.Rows.{variables}
use Rattle.rules.specs.Solutions.{best_of}
use Rattle.rules.specs.Sentence.Formed.{RowFormed}
use Rattle.linear.specs.Coefficients.{VariablesAre}
use Rattle.encoding.specs.Places.{multipliers_of}
use Rattle.encoding.specs.Encodes.{EncodesMultipliers, Holds}
use Rattle.encoding.specs.Rows.{RowIs}
use Rattle.encoding.specs.declared.Certificate.{Certificate}
use Rattle.encoding.specs.declared.rows.ListedRow.{ListedRow}
use Rattle.verdicts.specs.Best.{best_says}
use Rattle.derivations.specs.declared.Checker.{Checker}

-- it is the best of these objectives, and a fraction
pub record BestIs (tree : Tree) (os : List Fraction) (best : Option Fraction) : Type 0 where
  pub is : best_says best ≡ best_of tree.objective.direction os
  pub fraction : IfSome best IsFraction

-- a certificate in tables that encode it, and an array that marks its integer variables
pub record Checks (tree : Tree) (c : Checker) : Type 0 where
  pub encodes : Holds tree c.certificate
  pub integers_are : VariablesAre tree c.certificate.header.variables c.integers

-- a row of a certificate, with its terms where they stand in the tables
pub record Lists (tree : Tree) (c : Certificate) (row : Row) (x : ListedRow) : Type 0 where
  pub is : RowIs tree c.index.now c.values.now row x
  pub formed : RowFormed tree row
  pub number : variables tree ≡ c.header.variables
  pub few : c.header.variables ≤ most_variables

-- row `own` has these multipliers, each of a row of the certificate
pub record HasMultipliers (c : Certificate) (own : ℕ) (ms : List Multiplier) : Type 0 where
  pub encodes : EncodesMultipliers c.index.now c.values.now (multipliers_of c.index.now c.rows.now own) ms
  pub below : All (λ i. i < c.header.rows) (map (λ (m : Multiplier). m.row) ms)

-- `uns` with these rows, i1 l1 i2 l2
abbrev pub unsplit_of : List ℕ → Unsplit
unsplit_of rows = record { i1 = get_or rows 0 0; l1 = get_or rows 1 0; i2 = get_or rows 2 0; l2 = get_or rows 3 0 }
