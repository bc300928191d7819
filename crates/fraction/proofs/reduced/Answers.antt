-- `fraction::reduced` meets its contract.
use Rattle.arithmetic.proofs.Meaning.{reduced_means}
use Rattle.fraction.proofs.Promised.{meant}
use Rattle.fraction.proofs.reduced.Goals as goal

pub returns : goal.returns
returns c = let a = c.args in meant (reduced_means a.negative a.n a.d) c.reduced.ensures
