-- `claims::assumptions::is_assumption` meets its contract: a given row is none, a derived row by the word of its reason.
-- Assumes nothing.
use mathlib.Core.Path.{◌∙◌}
use Rattle.claims.proofs.ReasonsLaws.{given-not, word_asm}
use Rattle.claims.proofs.assumptions.is_assumption.Goals as goal

pub returns-then-certificate-r : goal.returns-then-certificate-r
returns-then-certificate-r c = λ tree e lt. c.eq.ensures ∙ word_asm e _ _ c.word.ensures.says c.if-certificate-r.true lt

pub returns-else-certificate-r : goal.returns-else-certificate-r
returns-else-certificate-r c = λ tree e lt. given-not e _ c.if-certificate-r.false
