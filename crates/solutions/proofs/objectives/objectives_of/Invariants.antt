-- `solutions::objectives::objectives_of` meets its contract: the objectives before solution j are worked out.
use Rattle.std.specs.Prelude.{IfSome}
use Rattle.arithmetic.specs.Fraction.{IsFraction}
use Rattle.grammar.specs.Tree.{Tree}
use Rattle.encoding.specs.Claims.{end_says}
use Rattle.encoding.specs.Encodes.{Holds}
use Rattle.solutions.proofs.ObjectivesLaws.{WorkedTo}
use Rattle.solutions.proofs.objectives.objectives_of.Given as goal

abbrev pub invariant-loop-j : goal.invariant-loop-j
invariant-loop-j l = (tree : Tree) → Holds tree l.certificate → IfSome l.to_reach IsFraction → WorkedTo tree (end_says l.to_reach) l.best l.j
