-- `solutions::points::Point::check_rows` meets its contract: what is left to check, from row r on, gives what all given rows give.
use Rattle.grammar.specs.Tree.{Solution, Tree}
use Rattle.rules.specs.Solutions.{check_row}
use Rattle.encoding.specs.Encodes.{Holds}
use Rattle.solutions.specs.Points.{IsPoint}
use Rattle.solutions.proofs.Lists.{Checking}
use Rattle.solutions.proofs.points.Point.check_rows.Given as goal

abbrev pub invariant-loop-r : goal.invariant-loop-r
invariant-loop-r l = (tree : Tree) (s : Solution) → Holds tree l.certificate → IsPoint l.self s → Checking (check_row tree s) tree.constraints.rows l.r
