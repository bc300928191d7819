-- `fraction::divisor_of` meets its contract: of 1 nothing else is a divisor, and a remainder has the same common divisors.
use mathlib.Core.Path.{sym, ◌∙◌, ap}
use Rattle.integers.specs.Gcd.{gcd}
use Rattle.integers.specs.Coprime.{coprime_one}
use Rattle.fraction.proofs.Divided.{gcd-rest}
use Rattle.fraction.proofs.divisor_of.Goals as goal

pub returns-then-d-eq1 : goal.returns-then-d-eq1
returns-then-d-eq1 c =
    let q = c.args.q in
    sym (ap (gcd q.top) c.if-d-eq1.true ∙ coprime_one q.top)

pub returns : goal.returns
returns c = c.gcd.ensures ∙ gcd-rest c.args.q.top c.args.q.bottom c.requires
