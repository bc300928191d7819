-- `claims::assumptions::sets_of` meets its contract. Invariant: of every tree that the tables encode, the masks are those of the
-- rows so far, and so many of these are `asm` rows.
-- Assumes nothing.
use Prim.Native.Nat.{◌≤◌}
use Rattle.grammar.specs.Tree.{Tree}
use Rattle.encoding.specs.Encodes.{Holds}
use Rattle.claims.proofs.MasksLaws.{Stand}
use Rattle.claims.proofs.assumptions.sets_of.Given as goal

abbrev pub invariant-loop-r : goal.invariant-loop-r
invariant-loop-r l = record {
  few : l.assumed ≤ l.r;
  stand : (tree : Tree) → Holds tree l.certificate → Stand tree l.r l.assumed l.all;
}
