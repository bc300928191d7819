-- `arithmetic::add_product` meets its contract: a product with 0, whole numbers, and then any.
use Rattle.std.proofs.Common.{rules}
use mathlib.Core.Path.{◌≡◌, sym, ◌∙◌, ap}
use lib.IntN.{nat_abs}
use Rattle.integers.proofs.Casts.{back_of}
use Rattle.arithmetic.specs.Fraction.{IsFraction}
use Rattle.arithmetic.specs.declared.Fraction.{Fraction}
use Rattle.arithmetic.proofs.Ways.{Told, zero-read, one-read}
use Rattle.arithmetic.proofs.Whole.{IsWhole, whole-add, zero_added}
use Rattle.arithmetic.proofs.add_product.Goals as goal

pub returns-then-b-eq0 : goal.returns-then-b-eq0
returns-then-b-eq0 c =
    let told_b : Told c.args.b = search rules in
    λ u v w.
    sym (zero_added c.args.s c.args.a c.args.b u v w (zero-read c.args.b.num told_b.0 c.if-b-eq0.true))

pub returns-then-b-eq1 : goal.returns-then-b-eq1
returns-then-b-eq1 c =
    let told_s : Told c.args.s = search rules in
    let told_a : Told c.args.a = search rules in
    let told_b : Told c.args.b = search rules in
    λ u v w.
    let whole : (f : Fraction) → IsFraction f → nat_abs f.den ≡ 1 → IsWhole f = λ f h e. record { is = h; one = e } in
    c.add_product_whole.ensures
    ∙ (rw (back_of c.args.s.num told_s.0, back_of c.args.a.num told_a.0, back_of c.args.b.num told_b.0))
    ∙ whole-add c.args.s c.args.a c.args.b
    (whole _ u (ap nat_abs (one-read c.args.s.den told_s.1 c.if-s-eq1.true)))
    (whole _ v (ap nat_abs (one-read c.args.a.den told_a.1 c.if-a-eq1.true)))
    (whole _ w (ap nat_abs (one-read c.args.b.den told_b.1 c.if-b-eq1.true)))
