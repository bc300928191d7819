-- `linear::lists::Terms::term` meets its contract: the numerator and the denominator are read one after the other.
use borrow.Author.Rules.{rules}
use Rattle.tables.specs.Cells.{fraction_at}
use Rattle.linear.proofs.lists.Terms.term.Goals as goal

pub returns-clause-coefficient : goal.returns-clause-coefficient
unfolding fraction_at
returns-clause-coefficient c = search rules
