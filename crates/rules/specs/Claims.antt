-- The claim proved (document 01, "Claim, else 17").
-- Assumes nothing.
use Rattle.std.specs.Prelude.{◌≡◌, Bool, true, false, ◌&&◌, List, [], ◌∷◌, ◌++◌, ℕ, ◌+◌, length}
use Rattle.std.proofs.Math.Option.{Option, none, some}
use Rattle.grammar.specs.Tree.{at_most, at_least, Direction, minimize, maximize, infinite, finite, Claim, infeas, range, Derivation, Tree}
use Rattle.rules.specs.Rows.{variables, Constraint, constraint_of, objective_with}
use Rattle.rules.specs.Domination.{Absurd, is_absurd, Dominates, dominates}
use Rattle.rules.specs.Assumptions.{NoAssumptions, assumptions_of, is_empty}

-- what is asked of the last derived row
pub data Asked : Type 0 where
  nothing : Asked
  absurdity : Asked
  domination : Constraint → Asked

-- "`infeas` asks a last derived row, absurd ..; `range` asks one that .. dominates OBJ ≥ lb (min, lb finite) or OBJ ≤ ub (max,
-- ub finite). With that end infinite nothing is asked"
abbrev pub asked_by : Tree → Direction → Claim → Asked
asked_by tree direction infeas = absurdity
asked_by tree minimize (range (finite lower) upper) = domination (objective_with tree at_least lower)
asked_by tree minimize (range infinite upper) = nothing
asked_by tree maximize (range lower (finite upper)) = domination (objective_with tree at_most upper)
asked_by tree maximize (range lower infinite) = nothing

abbrev pub asked : Tree → Asked
asked tree = asked_by tree tree.objective.direction tree.relation.claim

-- ---- in words

-- the last derived row meets P, "with no assumptions"
pub record LastProves (tree : Tree) (P : Constraint → Type 0) : Type 0 where
  pub before : List Derivation
  pub last : Derivation
  pub is_last : tree.derivations.derivations ≡ before ++ (last ∷ [])
  pub proves : P (constraint_of tree last.row)
  pub no_assumptions : NoAssumptions tree (length tree.constraints.rows + length before)

abbrev pub Answers : Tree → Asked → Type 0
Answers tree nothing = Unit {0}
Answers tree absurdity = LastProves tree (Absurd (variables tree))
Answers tree (domination c) = LastProves tree (λ d. Dominates (variables tree) d c)

-- the claim is proved
abbrev pub Proved : Tree → Type 0
Proved tree = Answers tree (asked tree)

-- ---- worked out

-- the last of these, if there is one, with the number of those before it, after so many
abbrev pub last_from : ℕ → List Derivation → Option (ℕ × Derivation)
last_from k [] = none
last_from k (d ∷ []) = some (k, d)
last_from k (d ∷ (e ∷ ds)) = last_from (k + 1) (e ∷ ds)

abbrev pub last_row : Tree → Option (ℕ × Derivation)
last_row tree = last_from (length tree.constraints.rows) tree.derivations.derivations

-- the last row passes the test and has no assumptions
abbrev pub last_passes : Tree → (Constraint → Bool) → Option (ℕ × Derivation) → Bool
last_passes tree test none = false
last_passes tree test (some last) = test (constraint_of tree last.1.row) && is_empty (assumptions_of tree last.0)

abbrev pub answers : Tree → Asked → Bool
answers tree nothing = true
answers tree absurdity = last_passes tree (is_absurd (variables tree)) (last_row tree)
answers tree (domination c) = last_passes tree (λ d. dominates (variables tree) d c) (last_row tree)

unfoldable pub is_proved : Tree → Bool
is_proved tree = answers tree (asked tree)

-- "last row's name, or word `DER` if there are none"
abbrev pub last_place : ℕ → Option (ℕ × Derivation) → ℕ
last_place word none = word
last_place word (some last) = last.1.row.name.place
