-- `value::read_whole` meets its contract: the digits after the leading zeros, with the zeros at their end counted.
-- Assumes nothing.
use Rattle.value.proofs.Runs.{whole-read}
use Rattle.value.proofs.read_whole.Goals as goal

pub returns : goal.returns
returns c = whole-read _ _ _ c.read_significant-run.ensures _ c.counted.ensures
