-- `sets::without` meets its contract: a bit of `a & !b` is one of a that b lacks.
-- Assumes nothing.
use Rattle.sets.proofs.Bits.{bit-without}
use Rattle.sets.proofs.without.Goals as goal

pub returns : goal.returns
returns c = λ k. bit-without _ _ k c.ranges.a.fits c.ranges.b.fits
