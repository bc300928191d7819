-- Solutions and their objectives (document 01, "Solutions, then derivations"): refusals 9, 12 and 10.
-- Assumes nothing.
use Rattle.std.specs.Prelude.{Bool, true, cond, List, [], ◌∷◌, ℕ}
use Rattle.std.proofs.Math.Option.{Option, none, some}
use Rattle.arithmetic.specs.Laws.{zero_f}
use Rattle.arithmetic.specs.declared.Fraction.{Fraction}
use Rattle.grammar.specs.Tree.{Term, Sense, equal, at_most, at_least, Row, Direction, minimize, maximize, End, infinite, finite, Claim, infeas, range, Solution, Tree}
use Rattle.rules.specs.Tests.{All, Some, In, some_of}
use Rattle.rules.specs.Result.{Result, Verdict, bind, ◌and_then◌, require, each, through, collect, Through, Each}
use Rattle.rules.specs.Values.{Whole, is_whole, AtMost, Same, is_at_most, is_same, IsProduct, IsSum, product_at, sum_at}
use Rattle.rules.specs.Rows.{value_in, objective, terms_of}

-- ---- left sides

-- a sum so far "adds coefficient times value" of one term: the product, then the sum
abbrev pub AddsTerm : List Term → Fraction → Term → Fraction → Type 0
AddsTerm values sum t next = (p : Fraction) × IsProduct t.coefficient (value_in values t.variable) p × IsSum sum p next

abbrev pub add_term : ℕ → List Term → Fraction → Term → Result Fraction
add_term place values sum t = bind (product_at place t.coefficient (value_in values t.variable)) (λ p. sum_at place sum p)

-- "Its left side starts at 0 and adds coefficient times value in listed order; 12 on the way"
abbrev pub LeftSide : List Term → List Term → Fraction → Type 0
LeftSide values terms left = Through (AddsTerm values) zero_f terms left

unfoldable pub left_side : ℕ → List Term → List Term → Result Fraction
left_side place values terms = through (add_term place values) zero_f terms

-- ---- feasible solutions

-- "the sense" holds of a left side and a right side
abbrev pub Holds : Sense → Fraction → Fraction → Type 0
Holds equal left right = Same left right
Holds at_most left right = AtMost left right
Holds at_least left right = AtMost right left

abbrev pub holds : Sense → Fraction → Fraction → Bool
holds equal left right = is_same left right
holds at_most left right = is_at_most left right
holds at_least left right = is_at_most right left

-- "12 on the way, else 9 if the sense fails"
pub record RowHolds (tree : Tree) (s : Solution) (row : Row) : Type 0 where
  pub left : Fraction
  pub left-side : LeftSide s.values.terms (terms_of tree row) left
  pub sense-holds : Holds row.sense left row.right

unfoldable pub check_row : Tree → Solution → Row → Verdict
check_row tree s row =
    bind (left_side s.name.place s.values.terms (terms_of tree row))
    (λ left. require (holds row.sense left row.right) 9 s.name.place)

-- "values of integer variables are whole, else 9; then each given row in order"
pub record Feasible (tree : Tree) (s : Solution) : Type 0 where
  pub integers-whole : All (λ v. Whole (value_in s.values.terms v)) tree.integers.indices
  pub rows_hold : All (RowHolds tree s) tree.constraints.rows

unfoldable pub check_solution : Tree → Solution → Verdict
check_solution tree s =
    each (λ v. require (is_whole (value_in s.values.terms v)) 9 s.name.place) tree.integers.indices
    and_then each (check_row tree s) tree.constraints.rows

-- ---- objectives

-- "After all solutions, their objectives, the same way and in order"
abbrev pub Objectives : Tree → List Fraction → Type 0
Objectives tree os = Each (λ s o. LeftSide s.values.terms (objective tree) o) tree.solutions.solutions os

unfoldable pub objectives_of : Tree → Result (List Fraction)
objectives_of tree =
    collect (λ (s : Solution). left_side s.name.place s.values.terms (objective tree)) tree.solutions.solutions

-- the sense of being as good: least under min, greatest under max
abbrev pub towards : Direction → Sense
towards minimize = at_most
towards maximize = at_least

-- the end that solutions are asked to reach: ub for min, lb for max. "Under `infeas` they are worked out and none is asked for"
abbrev pub end_to_reach : Direction → Claim → End
end_to_reach direction infeas = infinite
end_to_reach minimize (range lower upper) = upper
end_to_reach maximize (range lower upper) = lower

-- "If min with ub finite, some objective is at most ub; if max with lb finite, some is at least lb; else 10"
abbrev pub Reached : Direction → End → List Fraction → Type 0
Reached direction infinite os = Unit {0}
Reached direction (finite bound) os = Some (λ o. Holds (towards direction) o bound) os

abbrev pub reached : Direction → End → List Fraction → Bool
reached direction infinite os = true
reached direction (finite bound) os = some_of (λ o. holds (towards direction) o bound) os

-- ---- "best objective": one of them, as good as each

pub record Best (direction : Direction) (os : List Fraction) (best : Fraction) : Type 0 where
  pub is_one : In best os
  pub as_good : All (λ o. Holds (towards direction) best o) os

-- the best of a running best and those that follow; of a list, none of an empty one
abbrev pub best_from : Direction → Fraction → List Fraction → Fraction
best_from direction best [] = best
best_from direction best (o ∷ os) = best_from direction (cond (holds (towards direction) best o) best o) os

abbrev pub best_of : Direction → List Fraction → Option Fraction
best_of direction [] = none
best_of direction (o ∷ os) = some (best_from direction o os)
