-- `linear::coefficients::Coefficients::are_those_of` meets its contract: each listed term is compared, and those that are not zero
-- are counted.
use mathlib.Core.Path.{sym, ◌∙◌, ap}
use mathlib.Core.Bool.{Bool, cond, not}
use Prim.Native.Nat.{◌+◌}
use native.Mathlib.Omega.{arith}
use Rattle.linear.proofs.ComparingLaws.{matched_not, matched_on, matched_end, found_same}
use Rattle.linear.proofs.coefficients.Coefficients.are_those_of.Goals as goal
use Rattle.linear.proofs.coefficients.Coefficients.are_those_of.Goals.{then-not-is_zero, else-not-is_zero}

pub returns-then-not-is_same : goal.returns-then-not-is_same
returns-then-not-is_same c =
    let t = c.term-v.ensures in
    λ n formed are many.
    found_same _ _ _ n formed are many
    (matched_not _ _ _ c.loop-k.invariant (omega arith) t.variable t.coefficient c.at.ensures c.is_same.ensures.parts c.if-not-is_same.true _)

pub loop-k-preserved : goal.loop-k-preserved
loop-k-preserved c =
    let t = c.term-v.ensures in
    let found = c.loop-k.found in
    matched_on _ _ _ c.loop-k.invariant (omega arith) t.variable t.coefficient c.at.ensures c.is_same.ensures.parts c.if-not-is_same.false c.is_zero.ensures
    (elim c.if-not-is_zero.branch [
      | then-not-is_zero v ↦ v.found-is ∙ sym (ap (λ (b : Bool). cond (not b) (found + 1) found) v.if-not-is_zero.true)
      | else-not-is_zero v ↦ v.found-is ∙ sym (ap (λ (b : Bool). cond (not b) (found + 1) found) v.if-not-is_zero.false)
    ])

pub returns : goal.returns
returns c = λ n formed are many. found_same _ _ _ n formed are many (matched_end _ _ _ c.loop-k.invariant (omega arith) _)
