-- `fraction::compare` meets its contract.
use mathlib.Core.Path.{sym, ◌∙◌}
use Rattle.arithmetic.proofs.Meaning.{both_are, compare_answers}
use Rattle.arithmetic.proofs.Ways.{not_fractions}
use Rattle.fraction.proofs.Promised.{meant}
use Rattle.fraction.proofs.compare.Goals as goal

pub returns-then-both : goal.returns-then-both
returns-then-both c =
    let v = both_are c.args.a c.args.b (sym c.both.ensures ∙ c.if-both.true) in
    meant (compare_answers c.args.a c.args.b) (c.compare.ensures v.0 v.1)

pub returns-else-both : goal.returns-else-both
returns-else-both c = meant (compare_answers c.args.a c.args.b) (sym (not_fractions _ _ (sym c.both.ensures ∙ c.if-both.false)))
