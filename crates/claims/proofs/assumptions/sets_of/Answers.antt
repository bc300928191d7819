-- `claims::assumptions::sets_of` meets its contract: before the first derivation, after one more, and at the end.
-- Assumes nothing.
use mathlib.Core.Path.{sym, ◌∙◌, ap}
use mathlib.Core.Bool.{Bool, cond}
use Prim.Native.Nat.{◌+◌, ◌<◌}
use native.Mathlib.Omega.{arith}
use Rattle.claims.proofs.MasksLaws.{sets_start, sets_on, sets_end}
use Rattle.claims.proofs.assumptions.sets_of.Goals.{then-is_assumption, else-is_assumption}
use Rattle.claims.proofs.assumptions.sets_of.Goals as goal

pub loop-r-init : goal.loop-r-init
loop-r-init c = record { few = omega arith; stand = λ tree e. sets_start e }

pub loop-r-preserved : goal.loop-r-preserved
loop-r-preserved c =
    let n = c.loop-r.assumed in
    record {
      few = elim c.if-is_assumption.branch [ then-is_assumption w ↦ omega (arith, c.loop-r.invariant.few, w.assumed-is) | else-is_assumption w ↦ omega (arith, c.loop-r.invariant.few, w.assumed-is) ];
      stand =
          λ tree e.
          let lt : c.loop-r.r < c.args.certificate.header.rows = omega (arith, c.loop-r-test.true, c.min-r-end.ensures) in
          let is = c.is_assumption.ensures tree e lt in
          sets_on e _ _ c.loop-r.auto.r lt (c.loop-r.invariant.stand tree e) (λ d k. c.set_of.ensures tree d e k lt)
          (elim c.if-is_assumption.branch [ then-is_assumption w ↦ w.assumed-is ∙ sym (ap (λ (b : Bool). cond b (n + 1) n) (sym is ∙ w.if-is_assumption.true)) | else-is_assumption w ↦ w.assumed-is ∙ sym (ap (λ (b : Bool). cond b (n + 1) n) (sym is ∙ w.if-is_assumption.false)) ]);
    }

pub returns : goal.returns
returns c = λ tree e r. sets_end e (c.loop-r.invariant.stand tree e) (omega (arith, c.loop-r-test.false, c.min-r-end.ensures)) r
