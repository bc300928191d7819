-- `tables::value_from` meets its contract: a sum beyond the end is no value's number.
use Rattle.tables.proofs.CellsLaws.{value_beyond}
use native.Mathlib.Omega.{arith}
use Rattle.tables.proofs.value_from.Goals as goal

pub returns-else-offset-n : goal.returns-else-offset-n
returns-else-offset-n c = value_beyond _ _ (omega arith)
