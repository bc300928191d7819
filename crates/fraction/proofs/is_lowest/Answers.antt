-- `fraction::is_lowest` meets its contract: a denominator of 1, or the greatest common divisor.
use mathlib.Core.Path.{sym, ◌∙◌}
use borrow.Author.Tests.{eq-eqb}
use Rattle.fraction.proofs.Tested.{whole-lowest-terms}
use Rattle.fraction.proofs.is_lowest.Goals as goal

pub returns-then-p-eq1 : goal.returns-then-p-eq1
returns-then-p-eq1 c = eq-eqb _ 1 c.if-p-eq1.true ∙ sym (whole-lowest-terms _ _ (sym c.parts-p.ensures.1 ∙ c.if-p-eq1.true))
