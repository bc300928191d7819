-- `sets::union` meets its contract: a bit of `|` is the larger of the two.
-- Assumes nothing.
use Rattle.sets.proofs.Bits.{bit-or}
use Rattle.sets.proofs.union.Goals as goal

pub returns : goal.returns
returns c = bit-or _ _
