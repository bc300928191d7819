-- `derivations::constraints::row_of` meets its contract: the row has the terms that stand where its own are.
use Rattle.derivations.proofs.RowsLaws.{stands}
use Rattle.derivations.proofs.constraints.row_of.Goals as goal

pub returns : goal.returns
returns c = λ tree r l. stands l c.terms.result c.terms.ensures.variables c.terms.ensures.parts
