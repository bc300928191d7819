-- `derivations::Checker::check_derivation` meets its contract: 11 over the rows that the reason names, and then the reason.
use Rattle.std.proofs.Common.{◌∙◌, ap}
use Rattle.rules.specs.Derivations.{named, check_reason, check_derivation}
use Rattle.encoding.specs.Encodes.{derivation_at}
use Rattle.verdicts.specs.Verdicts.{verdict_says}
use Rattle.derivations.proofs.Refusals.{handed_up, require_is, then_on, each-require}
use Rattle.derivations.proofs.ReasonsLaws.{lists_derived, derivation_is, none_named}
use Rattle.derivations.proofs.Checker.check_derivation.Goals as goal

pub returns-in_err-require : goal.returns-in_err-require
unfolding check_derivation
returns-in_err-require c =
    λ tree os k h b q lt.
    let n = c.args.self.now.certificate in
    let d = derivation_at tree k in
    let t = none_named (derivation_is n h.encodes k q lt) _ lt (c.none_spent-unspent.ensures tree h.encodes) in
    ap verdict_says (handed_up c.from_residual.result c.in_err-require.field-0.0 c.from_residual.ensures.1)
    ∙ then_on (check_reason tree os d.row d.reason)
    (c.in_err-require.ensures ∙ require_is 11 t (lists_derived n h.encodes k q lt (c.row-row.ensures tree _)).is.place_is ∙ each-require _ 11 d.row.name.place (named d.reason))

pub returns : goal.returns
unfolding check_derivation
returns c =
    λ tree os k h b q lt.
    let n = c.args.self.now.certificate in
    let d = derivation_at tree k in
    let l = lists_derived n h.encodes k q lt (c.row-row.ensures tree _) in
    let t = none_named (derivation_is n h.encodes k q lt) _ lt (c.none_spent-unspent.ensures tree h.encodes) in
    c.check_reason.ensures tree os d.row d h b l lt (derivation_is n h.encodes k q lt)
    ∙ then_on (check_reason tree os d.row d.reason)
    (c.in_ok-require.ensures ∙ require_is 11 t l.is.place_is ∙ each-require _ 11 d.row.name.place (named d.reason))
