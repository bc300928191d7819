-- `divisors::gcds_narrow` meets its contract. Invariant: each pair is on its way from the numbers that it was made of; with each turn
-- the sum of x + 2 y over the pairs falls by all y.
use Rattle.std.proofs.Common.{arith}
use Rattle.integers.specs.Binary.{going_start, or-all}
use Rattle.divisors.proofs.gcds_narrow.Goals as goal

pub loop-p-init : goal.loop-p-init
loop-p-init c =
    let h = c.requires in (
      going_start _ _ _ _ h.0 c.odd-p.ensures.0 c.odd-p.ensures.1,
      going_start _ _ _ _ h.1 c.odd-q.ensures.0 c.odd-q.ensures.1,
      going_start _ _ _ _ h.2 c.odd-r.ensures.0 c.odd-r.ensures.1,
    )

pub reached-requires : goal.reached-requires
reached-requires c = let l = c.loop-p in (c.requires.0, l.invariant.0, (or-all l.p.y l.q.y l.r.y (omega (arith, c.loop-p-test.false))).0)

pub reached-requires-2 : goal.reached-requires-2
reached-requires-2 c = let l = c.loop-p in (c.requires.1, l.invariant.1, (or-all l.p.y l.q.y l.r.y (omega (arith, c.loop-p-test.false))).1)

pub reached-requires-3 : goal.reached-requires-3
reached-requires-3 c = let l = c.loop-p in (c.requires.2, l.invariant.2, (or-all l.p.y l.q.y l.r.y (omega (arith, c.loop-p-test.false))).2)
