-- What holds of every certificate that was read, by the ranges, the distinctness and the number limits of the grammar.
-- Assumes nothing.
use Rattle.std.specs.Prelude.{◌≡◌, List, [], ◌∷◌, ℕ, ◌<◌, length}
use Rattle.arithmetic.specs.Fraction.{IsFraction}
use Rattle.grammar.specs.Tree.{Term, Row, End, infinite, finite, Claim, infeas, range, Solution, Derivation, Tree}
use Rattle.rules.specs.Tests.{All}
use Rattle.rules.specs.Result.{AllFrom}
use Rattle.rules.specs.Rows.{variables, objective, terms_of}
use Rattle.rules.specs.Derivations.{named}

-- a term list: values are fractions, variables are below n, each at most once
abbrev pub Formed : ℕ → List Term → Type 0
Formed n [] = Unit {0}
Formed n (t ∷ ts) =
    (IsFraction t.coefficient × (t.variable < n)) × (All (λ (u : Term). t.variable ≡ u.variable → ⊥) ts × Formed n ts)

pub record RowFormed (tree : Tree) (row : Row) : Type 0 where
  pub right_fraction : IsFraction row.right
  pub terms_formed : Formed (variables tree) (terms_of tree row)

-- a derived row names rows below its own index
pub record DerivationFormed (tree : Tree) (own : ℕ) (d : Derivation) : Type 0 where
  pub row_formed : RowFormed tree d.row
  pub named-below : All (λ i. i < own) (named d.reason)

abbrev pub EndFormed : End → Type 0
EndFormed infinite = Unit {0}
EndFormed (finite bound) = IsFraction bound

abbrev pub ClaimFormed : Claim → Type 0
ClaimFormed infeas = Unit {0}
ClaimFormed (range lower upper) = EndFormed lower × EndFormed upper

pub record WellFormed (tree : Tree) : Type 0 where
  pub integers-below : All (λ v. v < variables tree) tree.integers.indices
  pub objective_formed : Formed (variables tree) (objective tree)
  pub rows_formed : All (RowFormed tree) tree.constraints.rows
  pub claim_formed : ClaimFormed tree.relation.claim
  pub solutions_formed : All (λ (s : Solution). Formed (variables tree) s.values.terms) tree.solutions.solutions
  pub derivations_formed : AllFrom (DerivationFormed tree) (length tree.constraints.rows) tree.derivations.derivations
