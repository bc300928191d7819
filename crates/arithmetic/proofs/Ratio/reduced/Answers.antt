-- `arithmetic::Ratio::reduced` meets its contract: a denominator of 0 is refused, a whole number is in lowest terms, and any other
-- quotient is once both parts are divided by their greatest common divisor.
use mathlib.Core.Path.{refl, sym, ◌∙◌, ap}
use mathlib.Core.Bool.{not}
use native.Mathlib.Omega.{arith}
use borrow.Author.Tests.{eq-eqb, ne_eqb}
use Rattle.integers.specs.Signs.{with_sign}
use Rattle.arithmetic.specs.Fraction.{within}
use Rattle.arithmetic.specs.Parts.{over}
use Rattle.arithmetic.proofs.Ways.{on_fractions_lem, not_fractions}
use Rattle.arithmetic.proofs.Lowest.{lowest_by, divisor_positive, whole-lowest}
use Rattle.arithmetic.proofs.Ratio.reduced.Goals as goal

pub returns-then-self-eq0 : goal.returns-then-self-eq0
returns-then-self-eq0 c = sym (not_fractions _ _ (ap not (eq-eqb c.args.self.bottom 0 c.if-self-eq0.true)))

pub returns-then-self-eq1 : goal.returns-then-self-eq1
returns-then-self-eq1 c =
    let q = c.args.self in
    let z = with_sign q.negative q.top in
    c.within.ensures ∙ ap within (ap (over z) c.if-self-eq1.true ∙ whole-lowest z (over z q.bottom) refl c.if-self-eq1.true)
    ∙ sym (on_fractions_lem _ _ (ap not (ne_eqb q.bottom 0 c.if-self-eq0.false)))

pub nonzero_div-self : goal.nonzero_div-self
nonzero_div-self c = divisor_positive _ c.args.self.bottom _ (omega (arith, c.if-self-eq0.false)) c.gcd-g.ensures

pub nonzero_div-self-2 : goal.nonzero_div-self-2
nonzero_div-self-2 c = divisor_positive _ c.args.self.bottom _ (omega (arith, c.if-self-eq0.false)) c.gcd-g.ensures

pub returns : goal.returns
returns c =
    let q = c.args.self in
    c.within-2.ensures ∙ ap within (sym (lowest_by q.negative q.top q.bottom _ c.gcd-g.ensures))
    ∙ sym (on_fractions_lem _ _ (ap not (ne_eqb q.bottom 0 c.if-self-eq0.false)))
