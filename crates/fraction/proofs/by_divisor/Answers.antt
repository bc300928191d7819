-- `fraction::by_divisor` meets its contract: lowest terms are both parts divided by their greatest common divisor.
use mathlib.Core.Path.{sym, ◌∙◌, ap}
use Rattle.arithmetic.specs.Fraction.{within}
use Rattle.arithmetic.proofs.Lowest.{lowest_by, divisor_positive}
use Rattle.fraction.proofs.by_divisor.Goals as goal

pub nonzero_div-q : goal.nonzero_div-q
nonzero_div-q c = divisor_positive c.args.q.top c.args.q.bottom c.args.g c.requires.0 c.requires.1

pub nonzero_div-q-2 : goal.nonzero_div-q-2
nonzero_div-q-2 c = divisor_positive c.args.q.top c.args.q.bottom c.args.g c.requires.0 c.requires.1

pub returns : goal.returns
returns c =
    let q = c.args.q in
    c.within.ensures ∙ ap within (sym (lowest_by q.negative q.top q.bottom c.args.g c.requires.1))
