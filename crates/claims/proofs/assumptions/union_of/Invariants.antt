-- `claims::assumptions::union_of` meets its contract. Invariant: the set has the members of the sets of the rows so far.
-- Assumes nothing.
use Rattle.std.specs.Prelude.{◌≡◌, ℕ, take}
use Rattle.sets.specs.Sets.{bit}
use Rattle.claims.specs.Masks.{union_bit}
use Rattle.claims.proofs.assumptions.union_of.Given as goal

abbrev pub invariant-loop-r : goal.invariant-loop-r
invariant-loop-r l = (j : ℕ) → bit l.union j ≡ union_bit l.all (take l.r-index l.named) j
