-- `arithmetic::add_product_whole` meets its contract: the product is within the limit or not, and then the sum.
use mathlib.Core.Path.{◌≡◌, sym, ◌∙◌, ap, ap₂}
use Prim.Native.Nat.{◌≤◌, ◌<◌}
use lib.IntN.{ℤ, pos, nat_abs, ◌+ℤ◌, ◌*ℤ◌}
use lib.Signed.{lt_z}
use native.Mathlib.Omega.{arith}
use Rattle.integers.specs.Signs.{with_sign, sign_magnitude}
use mir.Syntax.{w64}
use Rattle.integers.proofs.Casts.{back, back_at, widen, below-zero}
use Rattle.arithmetic.specs.Outcome.{Outcome}
use Rattle.arithmetic.specs.Fraction.{limit, within, after}
use Rattle.arithmetic.specs.Parts.{over}
use Rattle.arithmetic.specs.declared.Fraction.{Fraction}
use Rattle.arithmetic.proofs.Ways.{read_wide}
use Rattle.arithmetic.proofs.Whole.{sum_read, whole_narrow, whole_wide}
use Rattle.arithmetic.proofs.add_product_whole.Goals as goal

pub returns-then-unsigned_abs-gt-LIMIT : goal.returns-then-unsigned_abs-gt-LIMIT
returns-then-unsigned_abs-gt-LIMIT c =
    let x = c.times-w in
    let product : read_wide x.result ≡ c.args.n *ℤ c.args.m = back_at w64 x.result x.type_inv ∙ x.ensures ∙ (rw (c.from.ensures, back c.ranges.n, back c.ranges.m, back (widen c.ranges.m))) in
    let z = c.args.n *ℤ c.args.m in
    let wide : limit < nat_abs z = omega (arith, c.unsigned_abs.ensures.value, ap nat_abs product, c.if-unsigned_abs-gt-LIMIT.true) in
    sym (ap (λ (o : Outcome Fraction). after o (λ p. within (over (c.args.s +ℤ p.num) 1))) (whole_wide z wide))

pub returns : goal.returns
returns c =
    let x = c.times-w in
    let product : read_wide x.result ≡ c.args.n *ℤ c.args.m = back_at w64 x.result x.type_inv ∙ x.ensures ∙ (rw (c.from.ensures, back c.ranges.n, back c.ranges.m, back (widen c.ranges.m))) in
    let z = c.args.n *ℤ c.args.m in
    let narrow : nat_abs z ≤ limit = omega (arith, c.unsigned_abs.ensures.value, ap nat_abs product, c.if-unsigned_abs-gt-LIMIT.false) in
    let s = c.args.s in
    let first : read_wide c.from-2.result ≡ s = ap read_wide (c.from-2.ensures ∙ back c.ranges.s) ∙ back (widen c.ranges.s) in
    let added : read_wide (read_wide c.from-2.result +ℤ read_wide x.result) ≡ s +ℤ z = rw (first, product) (sum_read s z c.ranges.s.sfits narrow) in
    c.within.ensures
    ∙ ap (λ (w : ℤ). within (over w 1))
    (ap₂ with_sign (ap (λ (w : ℤ). lt_z w (pos 0)) added ∙ below-zero (s +ℤ z)) (c.unsigned_abs-2.ensures.value ∙ ap nat_abs added) ∙ sign_magnitude (s +ℤ z))
    ∙ sym (ap (λ (o : Outcome Fraction). after o (λ p. within (over (s +ℤ p.num) 1))) (whole_narrow z narrow))
