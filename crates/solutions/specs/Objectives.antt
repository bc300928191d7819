-- What comes of the objectives of solutions, in the words of the rules.
-- Assumes nothing.
use Rattle.std.specs.Prelude.{◌≡◌, Result, Ok, Err, IfSome, List}
use Rattle.arithmetic.specs.Fraction.{IsFraction}
use Rattle.arithmetic.specs.declared.Fraction.{Fraction}
use Rattle.grammar.specs.Refusals.{refusal_number}
use Rattle.grammar.specs.Tree.{Direction, End, Tree}
use Rattle.grammar.specs.declared.Stop.{Stop}
use Rattle.rules.specs.Result as result
use Rattle.rules.specs.Solutions.{objectives_of, reached, best_of}
use Rattle.verdicts.specs.Best.{best_says}
use Rattle.solutions.specs.Points.{IsTooWide}
use Rattle.solutions.specs.declared.objectives.Best.{Best}

-- the best of these objectives, and whether they reach the end that is asked; it is a fraction
pub record BestIs (direction : Direction) (end : End) (os : List Fraction) (b : Best) : Type 0 where
  pub best_is : best_says b.value ≡ best_of direction os
  pub reached_is : b.reached ≡ reached direction end os
  pub fraction : IfSome b.value IsFraction

-- the objectives of a tree: their best, and whether they reach the end; or 12 at a place
pub record Worked (tree : Tree) (end : End) (b : Best) : Type 0 where
  pub values : List Fraction
  pub are : objectives_of tree ≡ result.done values
  pub best : BestIs tree.objective.direction end values b

abbrev pub ObjectivesSay : Tree → End → Result Best Stop → Type 0
ObjectivesSay tree end (Ok b) = Worked tree end b
ObjectivesSay tree end (Err stop) = (objectives_of tree ≡ result.refused (refusal_number stop.reason) stop.place) × IsTooWide stop
