-- `fraction::sum` meets its contract: the exact sum of shaped pairs, brought to lowest terms.
use Rattle.std.proofs.Common.{rules}
use mathlib.Core.Path.{◌∙◌, ap}
use mathlib.Core.Bool.{◌&&◌}
use Rattle.arithmetic.specs.Quotient.{Quotient, lowest}
use Rattle.arithmetic.specs.Fraction.{is_fraction, within, on_fractions}
use Rattle.arithmetic.proofs.Meaning.{sum_means}
use Rattle.arithmetic.proofs.Ways.{Told}
use Rattle.fraction.proofs.Promised.{meant}
use Rattle.fraction.proofs.Tested.{denominators_positive}
use Rattle.fraction.proofs.Divided.{sum_result}
use Rattle.fraction.proofs.sum.Goals as goal

pub of_fractions-requires : goal.of_fractions-requires
of_fractions-requires c = λ shaped.
    let told_a : Told c.args.a = search rules in
    let told_b : Told c.args.b = search rules in
    sum_result c.args.a c.args.b c.added-ratio.result (denominators_positive c.args.a c.args.b told_a told_b shaped) c.added-ratio.ensures

pub returns : goal.returns
returns c =
    meant (sum_means c.args.a c.args.b)
    (c.of_fractions.ensures ∙ ap (λ (x : Quotient). on_fractions (is_fraction c.args.a && is_fraction c.args.b) (within (lowest x))) c.added-ratio.ensures)
