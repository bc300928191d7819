-- `linear::combinations::Combination::empty` meets its contract: nothing is stored yet.
use mathlib.Core.Path.{sym, subst}
use Rattle.arithmetic.specs.Fraction.{IsFraction}
use Rattle.arithmetic.proofs.Laws.{zero_is}
use Rattle.linear.proofs.combinations.Combination.empty.Goals as goal

pub returns-clause-fractions : goal.returns-clause-fractions
returns-clause-fractions c = record { coefficients = λ v. subst IsFraction (sym (c.zero.ensures v)) zero_is; right = zero_is }
