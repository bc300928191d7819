-- `tables::values_of` meets its contract: a list that begins beyond the end, or has more values, is no part of the table.
use mathlib.Core.Path.{sym}
use Rattle.tables.proofs.CellsLaws.{part_none}
use native.Mathlib.Omega.{arith}
use Rattle.tables.proofs.values_of.Goals as goal

pub returns-else-p-n : goal.returns-else-p-n
returns-else-p-n c = sym (part_none _ _ _ (omega arith))
