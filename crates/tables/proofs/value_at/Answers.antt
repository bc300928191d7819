-- `tables::value_at` meets its contract: the two numbers at twice its number.
use borrow.Author.Rules.{rules}
use Rattle.tables.proofs.CellsLaws.{value_is, value_beyond}
use Rattle.tables.proofs.value_at.Goals as goal

pub returns-then-number-values : goal.returns-then-number-values
returns-then-number-values c =
    let s = c.args in
    search (rules, value_is s.values.now s.number c.number_at.ensures c.number_at-then-number-values.ensures)

pub returns-else-number-values : goal.returns-else-number-values
returns-else-number-values c = value_beyond _ _ c.if-number-values.false
