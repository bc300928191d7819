-- `tables::store_cell` meets its contract: a number that no cell holds changes nothing.
use mathlib.Core.Path.{◌≡◌, sym, ◌∙◌, ap}
use Prim.Native.Nat.{ℕ}
use lib.ListN.{set}
use Rattle.tables.proofs.CellsLaws.{with_cell_lem, with_none}
use native.Mathlib.Omega.{arith}
use Rattle.tables.proofs.store_cell.Goals as goal

pub returns-in-Ok : goal.returns-in-Ok
returns-in-Ok c =
    let a = c.args in
    let same : c.in-Ok.x ≡ a.x = omega (arith, c.in-Ok.ensures) in
    c.store.ensures ∙ ap (λ (x : ℕ). set a.table.now a.i x) same ∙ sym (with_cell_lem a.table.now a.i a.x (omega (arith, c.in-Ok.ensures)))

pub returns-in_default : goal.returns-in_default
returns-in_default c = sym (with_none _ _ _ (omega (arith, c.in_default.ensures)))
