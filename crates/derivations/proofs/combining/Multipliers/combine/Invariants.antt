-- `derivations::combining::Multipliers::combine` meets its contract: the combination so far gives, with the rows that are left, that of all.
use Rattle.grammar.specs.Tree.{Tree}
use Rattle.linear.specs.ListsLaws.{listed_from}
use Rattle.encoding.specs.Places.{a_multiplier}
use Rattle.encoding.specs.Encodes.{Holds}
use Rattle.derivations.specs.Combining.{multipliers_are, MultipliersBelow}
use Rattle.derivations.proofs.CombiningLaws.{Combining}
use Rattle.derivations.proofs.combining.Multipliers.combine.Given as goal

abbrev pub invariant-loop-k : goal.invariant-loop-k
invariant-loop-k l =
    (tree : Tree) → Holds tree l.certificate → MultipliersBelow l.certificate.header.rows (multipliers_are l.self)
    → Combining tree (multipliers_are l.self) (listed_from a_multiplier l.self.rows.now l.self.factors.now l.k) l.made
