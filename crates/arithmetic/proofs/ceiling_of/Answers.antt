-- `arithmetic::ceiling_of` meets its contract: by definition the ceiling is the negated floor of the negation.
use mathlib.Core.Path.{◌≡◌, ◌∙◌}
use mathlib.Core.Path.{◌≡◌, ◌∙◌, ap, sym}
use lib.IntN.{nat_abs, neg_ℤ}
use Rattle.integers.proofs.Casts.{back, zero_minus}
use Rattle.arithmetic.specs.Quotient.{floor_z}
use Rattle.arithmetic.proofs.Rounded.{neg_small}
use Rattle.integers.proofs.Casts.{back, back_of, zero_minus}
use Rattle.arithmetic.proofs.Rounded.{neg_small, neg_floor_fits, ceiling_is}
use Rattle.arithmetic.proofs.ceiling_of.Goals as goal

pub overflow_sub-result : goal.overflow_sub-result
overflow_sub-result c =
    let found : c.floor_of.result ≡ floor_z (neg_ℤ c.args.n) (nat_abs c.args.d) = let f = c.ranges in
    c.floor_of.ensures ∙ (rw (back f.n, back f.d, zero_minus, back (neg_small c.args.n c.requires.1))) in
    rw (back_of c.floor_of.result c.floor_of.type_inv, zero_minus)
    (neg_floor_fits c.floor_of.result c.args.n (nat_abs c.args.d) found c.requires.1)

pub returns : goal.returns
returns c =
    let found : c.floor_of.result ≡ floor_z (neg_ℤ c.args.n) (nat_abs c.args.d) = let f = c.ranges in
    c.floor_of.ensures ∙ (rw (back f.n, back f.d, zero_minus, back (neg_small c.args.n c.requires.1))) in
    let n = c.args.n in
    let d = nat_abs c.args.d in
    rw (back_of c.floor_of.result c.floor_of.type_inv, zero_minus, back (neg_floor_fits c.floor_of.result n d found c.requires.1))
    (ap neg_ℤ found ∙ sym (ceiling_is n d))
