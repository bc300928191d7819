-- `derivations::check_derivations` meets its contract: the rows that are left to check give the same as all.
use Rattle.std.specs.Prelude.{◌≡◌, IfSome, List}
use Rattle.arithmetic.specs.Fraction.{IsFraction}
use Rattle.arithmetic.specs.declared.Fraction.{Fraction}
use Rattle.grammar.specs.Tree.{Tree}
use Rattle.rules.specs.Solutions.{best_of}
use Rattle.encoding.specs.Encodes.{Holds}
use Rattle.verdicts.specs.Best.{best_says}
use Rattle.derivations.proofs.ReasonsLaws.{Left}
use Rattle.derivations.proofs.check_derivations.Given as goal

abbrev pub invariant-loop-own : goal.invariant-loop-own
invariant-loop-own l =
    (tree : Tree) (os : List Fraction) → Holds tree l.checker.certificate → best_says l.checker.best ≡ best_of tree.objective.direction os → IfSome l.checker.best IsFraction
    → Left tree os l.checker.certificate.header l.own
