-- `claims::proving::is_absurd` meets its contract: the listed terms are the row's.
-- Assumes nothing.
use Rattle.claims.proofs.ProvingLaws.{absurd_row}
use Rattle.claims.proofs.proving.is_absurd.Goals as goal

pub returns : goal.returns
returns c = λ tree x is formed. absurd_row tree is formed c.terms.ensures.variables c.terms.ensures.parts c.is_absurd.ensures
