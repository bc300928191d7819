-- `divisors::gcd_odd` meets its contract. Invariant: x and y are odd, and their greatest common divisor is that of a and b;
-- x + y falls.
use Rattle.std.proofs.Common.{◌≡◌, ◌+◌, ◌-◌, ◌^◌, ◌<◌, sym, ap, ◌∙◌, ◌%◌, arith}
use Rattle.integers.specs.Gcd.{gcd}
use Rattle.integers.specs.Binary.{turned, step, twos_less, twos_greater, gcd-same}
use Rattle.divisors.proofs.gcd_odd.Goals as goal

pub loop-x-preserved-then-x-y : goal.loop-x-preserved-then-x-y
loop-x-preserved-then-x-y c =
    let l = c.loop-x in
    let below : l.x < l.y = omega arith in
    let d = (l.x + (2 ^ 64 - l.y)) % 2 ^ 64 in
    let fits : d < 2 ^ 64 = omega arith in
    let wrapped : (d + l.y) % 2 ^ 64 ≡ l.x = omega (arith, l.invariant.below_x, l.invariant.below_y) in
    step 64 _ _ _ _ _ l.invariant below (twos_less 64 l.x l.y d l.invariant.below_x l.invariant.below_y fits wrapped below)

pub loop-x-preserved : goal.loop-x-preserved
loop-x-preserved c =
    let l = c.loop-x in
    let above : l.y < l.x = omega arith in
    let d = (l.x + (2 ^ 64 - l.y)) % 2 ^ 64 in
    let fits : d < 2 ^ 64 = omega arith in
    let wrapped : (d + l.y) % 2 ^ 64 ≡ l.x = omega (arith, l.invariant.below_x, l.invariant.below_y) in
    step 64 _ _ _ _ _ (turned _ _ _ _ _ l.invariant) above (twos_greater 64 l.x l.y d l.invariant.below_x l.invariant.below_y fits wrapped above)

pub returns : goal.returns
returns c =
    let l = c.loop-x in
    let e : l.x ≡ l.y = omega arith in
    sym (gcd-same l.x) ∙ ap (gcd l.x) e ∙ l.invariant.same
