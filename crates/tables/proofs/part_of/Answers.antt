-- `tables::part_of` meets its contract: elements that the table does not have are no part of it.
use mathlib.Core.Path.{sym}
use Prim.Native.Nat.{◌+◌, ◌<◌}
use lib.ListN.{length}
use Rattle.tables.proofs.CellsLaws.{part_none, part_cut}
use native.Mathlib.Omega.{arith}
use Rattle.tables.proofs.part_of.Goals as goal
use Rattle.tables.proofs.part_of.Goals.{in_default-via-in-Some+else-end-size, in_default-via-in_default}

pub returns-in-Some : goal.returns-in-Some
returns-in-Some g c = part_cut _ _ _ _ (omega (arith, c.in-Some.ensures)) (omega arith)

pub returns-in_default : goal.returns-in_default
returns-in_default g c =
    let past : length c.args.table.now < c.args.from + c.args.count = elim c.in_default.branch [
      | in_default-via-in-Some+else-end-size w ↦ omega (arith, w.in-Some.ensures)
      | in_default-via-in_default w ↦ omega (arith, w.in_default.ensures)
    ] in
    sym (part_none _ _ _ past)
