-- `claims::assumptions::is_free` meets its contract: a row has no assumptions exactly if its mask has no bits.
-- Assumes nothing.
use Rattle.claims.proofs.MasksLaws.{free_by}
use Rattle.claims.proofs.assumptions.is_free.Goals as goal

pub returns : goal.returns
returns c = λ tree e. free_by _ (c.sets_of-all.ensures tree e _) c.set_at.ensures _ c.is_empty.ensures
