-- `solutions::feasibility::check_solutions` meets its contract: what is left to check, from solution j on, gives what all solutions give.
use Rattle.grammar.specs.Tree.{Tree}
use Rattle.rules.specs.Solutions.{check_solution}
use Rattle.encoding.specs.Encodes.{Holds}
use Rattle.solutions.proofs.Lists.{Checking}
use Rattle.solutions.proofs.feasibility.check_solutions.Given as goal

abbrev pub invariant-loop-j : goal.invariant-loop-j
invariant-loop-j l = (tree : Tree) → Holds tree l.certificate → Checking (check_solution tree) tree.solutions.solutions l.j
