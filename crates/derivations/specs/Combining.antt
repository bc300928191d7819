-- The multipliers of a reason.
-- Assumes nothing.
use Rattle.std.specs.Prelude.{List, ℕ, ◌<◌, ℤ}
use Rattle.arithmetic.specs.Fraction.{IsFraction}
use Rattle.tables.specs.Pairs.{listed_in}
use Rattle.grammar.specs.Tree.{Multiplier}
use Rattle.rules.specs.Tests.{All}
use Rattle.encoding.specs.Places.{a_multiplier}
use Rattle.derivations.specs.declared.combining.Multipliers.{Multipliers}

-- the multipliers that two lists are
abbrev pub multipliers_in : List ℕ → List ℤ → List Multiplier
multipliers_in rows factors = listed_in a_multiplier rows factors

abbrev pub multipliers_are : Multipliers → List Multiplier
multipliers_are ms = multipliers_in ms.rows.now ms.factors.now

-- multipliers of rows below a number
abbrev pub MultipliersBelow : ℕ → List Multiplier → Type 0
MultipliersBelow n ms = All (λ (m : Multiplier). (m.row < n) × IsFraction m.factor) ms
