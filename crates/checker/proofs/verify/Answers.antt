-- `checker::verify` meets its contract: a refusal of reading is handed on; what was read is checked, and the line of a refusal is counted.
use Rattle.checker.proofs.InOrder.{handed_on}
use Rattle.std.proofs.Common.{rules}
use Rattle.checker.proofs.Verifying.{refused_verified, checked_verified, lined}
use Rattle.checker.proofs.verify.Goals as goal

pub returns-in_err-header : goal.returns-in_err-header
returns-in_err-header c = refused_verified c.read_certificate.ensures c.in_err-header.was (handed_on _ c.from_residual.ensures.1)

pub returns : goal.returns
returns c =
    let r = c.read_certificate in
    checked_verified r.ensures r.auto.index r.auto.values r.auto.rows c.in_ok-header.was c.check.result c.check.ensures (lined _ _ _ _ c.map_err.ensures.cases (λ stop refused q. search rules))
