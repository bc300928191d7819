-- `fraction::ceiling` meets its contract.
use mathlib.Core.Path.{sym, ◌∙◌}
use Rattle.arithmetic.proofs.Meaning.{fraction_is, ceiling_answers}
use Rattle.arithmetic.proofs.Ways.{not_fractions}
use Rattle.fraction.proofs.Promised.{meant}
use Rattle.fraction.proofs.ceiling.Goals as goal

pub returns-then-is_fraction : goal.returns-then-is_fraction
returns-then-is_fraction c =
    let a = c.args.a in
    meant (ceiling_answers a) (c.ceiling.ensures (fraction_is a (sym c.is_fraction.ensures ∙ c.if-is_fraction.true)))

pub returns-else-is_fraction : goal.returns-else-is_fraction
returns-else-is_fraction c = meant (ceiling_answers c.args.a) (sym (not_fractions _ _ (sym c.is_fraction.ensures ∙ c.if-is_fraction.false)))
