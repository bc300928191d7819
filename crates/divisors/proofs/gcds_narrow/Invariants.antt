-- `divisors::gcds_narrow` meets its contract. Invariant: each pair is on its way from the numbers that it was made of; with each turn
-- the sum of x + 2 y over the pairs falls by all y.
use Rattle.std.proofs.Common.{◌+◌, ◌*◌}
use Rattle.integers.specs.Binary.{Going}
use Rattle.divisors.proofs.gcds_narrow.Given as goal

abbrev pub invariant-loop-p : goal.invariant-loop-p
invariant-loop-p l = Going l.a.x l.a.y l.p.x l.p.y × Going l.b.x l.b.y l.q.x l.q.y × Going l.c.x l.c.y l.r.x l.r.y

abbrev pub decreases-loop-p : goal.decreases-loop-p
decreases-loop-p l = (l.p.x + 2 * l.p.y) + (l.q.x + 2 * l.q.y) + (l.r.x + 2 * l.r.y)
