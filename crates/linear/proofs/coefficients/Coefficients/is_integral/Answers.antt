-- `linear::coefficients::Coefficients::is_integral` meets its contract: the loop tests each coefficient in the array; those beyond it
-- are 0.
use mathlib.Core.Path.{◌≡◌, sym, ◌∙◌, ap₂}
use native.Mathlib.Omega.{arith}
use Rattle.senses.specs.Rounding.{may_stand}
use Rattle.linear.specs.Coefficients.{coefficients_of}
use Rattle.linear.proofs.TestsLaws.{every_stop, every_end}
use Rattle.linear.proofs.RoundingLaws.{integral_at, integral_beyond, integral_is}
use Rattle.linear.proofs.coefficients.Coefficients.is_integral.Goals as goal

pub returns-then-not-may_stand : goal.returns-then-not-may_stand
returns-then-not-may_stand c =
    λ tree are d e.
    let a = c.args in
    let test = integral_at (coefficients_of a.self.now) a.integers.now in
    let tested : c.may_stand.result ≡ test c.loop-v.v = c.may_stand.ensures ∙ ap₂ may_stand c.at.ensures c.is_marked.ensures in
    sym (every_stop test a.n c.loop-v.v (omega (arith, c.loop-v-test.true, c.min-v-end.ensures)) (sym tested ∙ c.if-not-may_stand.true)) ∙ integral_is tree _ _ are d _ e

pub returns : goal.returns
returns c =
    λ tree are d e.
    let a = c.args in
    let test = integral_at (coefficients_of a.self.now) a.integers.now in
    sym (every_end test a.n c.loop-v.v (omega (arith, c.loop-v-test.false, c.min-v-end.ensures)) c.loop-v.invariant (λ u h. integral_beyond a.self.now a.integers.now u (omega (arith, h))))
    ∙ integral_is tree _ _ are d _ e
