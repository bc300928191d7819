-- `derivations::spent::none_spent` meets its contract: testing the rows that are left gives the same as testing all.
use Rattle.std.specs.Prelude.{◌≡◌, not, ◌<◌, drop}
use Rattle.grammar.specs.Tree.{Tree}
use Rattle.rules.specs.Tests.{All, all_of}
use Rattle.rules.specs.Rows.{entry_at}
use Rattle.rules.specs.Derivations.{is_spent}
use Rattle.encoding.specs.Encodes.{Holds}
use Rattle.derivations.proofs.spent.none_spent.Given as goal

abbrev pub invariant-loop-r : goal.invariant-loop-r
invariant-loop-r l =
    (tree : Tree) → Holds tree l.certificate → All (λ i. i < l.certificate.header.rows) l.r-items
    → all_of (λ i. not (is_spent l.own (entry_at tree i))) (drop l.r-index l.r-items) ≡ all_of (λ i. not (is_spent l.own (entry_at tree i))) l.r-items
