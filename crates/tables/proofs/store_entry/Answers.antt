use mathlib.Core.Path.{sym}
use Rattle.tables.proofs.CellsLaws.{with_entry_beyond}
use native.Mathlib.Omega.{arith}
use Rattle.tables.proofs.store_entry.Goals as goal

pub returns-else-r-rows : goal.returns-else-r-rows
returns-else-r-rows c = sym (with_entry_beyond _ _ _ (omega arith))
