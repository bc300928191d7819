-- `fraction::Operation::lowest` meets its contract: three divisors in one loop, or the one of the result first.
use mathlib.Core.Path.{sym, ◌∙◌, ap}
use Rattle.arithmetic.specs.Fraction.{within}
use Rattle.arithmetic.proofs.Ways.{on_fractions_lem}
use Rattle.fraction.specs.Results.{in_lowest_terms}
use Rattle.fraction.proofs.Tested.{true_first}
use Rattle.fraction.proofs.Divided.{first_divides, second_divides, lowest_of, already_lowest}
use Rattle.fraction.proofs.Operation.lowest.Goals as goal

pub returns-then-g-eq1 : goal.returns-then-g-eq1
returns-then-g-eq1 c =
    let one = sym c.divisor_of-g.ensures ∙ c.if-g-eq1.true in
    c.within.ensures ∙ ap within (already_lowest c.args.self.ratio one)
    ∙ sym (on_fractions_lem _ _ (true_first (in_lowest_terms c.args.self.a) (in_lowest_terms c.args.self.b) (lowest_of c.args.self.a _ (first_divides c.requires) one) ∙ lowest_of c.args.self.b _ (second_divides c.requires) one))
