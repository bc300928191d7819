-- `derivations::check_derivations` meets its contract: the rows that are left to check give the same as all.
use Rattle.std.proofs.Common.{◌∙◌, ap, arith}
use Rattle.verdicts.specs.Verdicts.{verdict_says}
use Rattle.derivations.proofs.Refusals.{then_on, handed_up}
use Rattle.derivations.proofs.ReasonsLaws.{integers_marked, left-next}
use Rattle.derivations.proofs.check_derivations.Goals as goal

pub returns-in_err-check_derivation : goal.returns-in_err-check_derivation
returns-in_err-check_derivation c =
    λ tree os e b f.
    let n = c.args.certificate in
    ap verdict_says (handed_up c.from_residual.result c.in_err-check_derivation.field-0.0 c.from_residual.ensures.1)
    ∙ then_on _ (c.in_err-check_derivation.ensures tree os _ (record { encodes = e; integers_are = integers_marked n e c.integers.ensures c.marks_of.ensures }) (record { is = b; fraction = f }) (omega (arith, c.loop-own.auto.own)) c.loop-own-test.true)
    ∙ left-next n e os c.loop-own.auto.own (c.loop-own.invariant tree os e b f) c.loop-own-test.true

pub loop-own-preserved : goal.loop-own-preserved
loop-own-preserved c =
    λ tree os e b f.
    let n = c.args.certificate in
    then_on _ (c.in_ok-check_derivation.ensures tree os _ (record { encodes = e; integers_are = integers_marked n e c.integers.ensures c.marks_of.ensures }) (record { is = b; fraction = f }) (omega (arith, c.loop-own.auto.own)) c.loop-own-test.true)
    ∙ left-next n e os c.loop-own.auto.own (c.loop-own.invariant tree os e b f) c.loop-own-test.true
