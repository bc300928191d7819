-- `linear::lists::Terms::coefficients` meets its contract: the coefficients are those of the terms that the loop has passed.
use mathlib.Core.Path.{◌≡◌}
use Prim.Native.Nat.{◌+◌, ◌-◌}
use native.Mathlib.Omega.{arith}
use Rattle.linear.proofs.CoefficientsLaws.{Spread, spread_start, spread_on}
use Rattle.linear.proofs.lists.Terms.coefficients.Goals as goal

pub loop-k-init : goal.loop-k-init
loop-k-init c = spread_start _ _ _ _ c.zero-coefficients.ensures c.count-k.ensures

pub loop-k-preserved : goal.loop-k-preserved
loop-k-preserved c =
    let s = c.args.self in
    let one_more : c.loop-k.k ≡ c.loop-k.k - 1 + 1 = omega arith in
    let before : Spread s.variables.now s.parts.now c.loop-k.coefficients (c.loop-k.k - 1 + 1) = rw (← one_more) c.loop-k.invariant in
    spread_on _ _ before c.term-v.ensures.variable c.term-v.ensures.coefficient c.set.ensures
