-- `divisors::gcd_odd` meets its contract. Invariant: x and y are odd, and their greatest common divisor is that of a and b;
-- x + y falls.
use Rattle.std.proofs.Common.{◌+◌, ◌^◌}
use Rattle.integers.specs.Binary.{OddPair}
use Rattle.divisors.proofs.gcd_odd.Given as goal

abbrev pub invariant-loop-x : goal.invariant-loop-x
invariant-loop-x l = OddPair (2 ^ 64) l.a l.b l.x l.y

abbrev pub decreases-loop-x : goal.decreases-loop-x
decreases-loop-x l = l.x + l.y
