-- `sets::single` meets its contract: `1 << k` has the bit k alone.
-- Assumes nothing.
use Rattle.sets.proofs.Bits.{bit_single}
use Rattle.sets.proofs.single.Goals as goal

pub returns-then-k-lt64 : goal.returns-then-k-lt64
returns-then-k-lt64 c = bit_single _ c.if-k-lt64.true
