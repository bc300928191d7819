-- `symbol_reader::numbers::numeral` meets its contract. The invariant: n is at most 65,535, and the bytes from the next on, after those that
-- spell n, spell what the token spells.
-- Assumes nothing.
use Prim.Native.Nat.{◌≤◌}
use lib.ListN.{length}
use Rattle.tables.specs.Limits.{largest}
use Rattle.symbol_reader.specs.Leaves.{numeral_of}
use Rattle.symbol_reader.proofs.Turns.{Left, numeral_after}
use Rattle.symbol_reader.proofs.numbers.numeral.Given as goal

abbrev pub invariant-loop-b : goal.invariant-loop-b
invariant-loop-b l = (l.n ≤ largest) × Left (numeral_after l.n) l.token l.b-index (length l.token) (numeral_of l.token)
