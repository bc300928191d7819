-- `fraction::is_lowest_by` meets its contract: a common divisor of both parts divides g, and so what divides the numerator and g.
use mathlib.Core.Path.{sym, ◌∙◌, ap}
use Prim.Native.Nat.{ℕ}
use borrow.Author.Tests.{eq-eqb}
use lib.Dec.{eqb}
use lib.IntN.{nat_abs}
use Rattle.integers.specs.Gcd.{gcd}
use Rattle.integers.specs.Coprime.{coprime_one}
use Rattle.arithmetic.proofs.Lowest.{divisor_positive}
use Rattle.fraction.proofs.Divided.{by_rest, gcd_by}
use Rattle.fraction.proofs.is_lowest_by.Goals as goal

pub returns-then-h-eq1 : goal.returns-then-h-eq1
returns-then-h-eq1 c =
    let f = c.args.f in
    let shared = by_rest _ (nat_abs f.num) c.args.g _ c.requires.0 c.parts-p.ensures.0 c.gcd-h.ensures in
    let both_parts = gcd_by (nat_abs f.num) (nat_abs f.den) c.args.g _ c.requires.1 shared in
    eq-eqb _ 1 c.if-h-eq1.true
    ∙ sym (eq-eqb _ 1 (sym both_parts ∙ ap (gcd (nat_abs f.den)) c.if-h-eq1.true ∙ coprime_one (nat_abs f.den)))

pub nonzero_rem-p-else-h-eq1 : goal.nonzero_rem-p-else-h-eq1
nonzero_rem-p-else-h-eq1 c =
    let p = nat_abs c.args.f.num in
    divisor_positive p c.args.g _ c.requires.0 (by_rest _ p c.args.g _ c.requires.0 c.parts-p.ensures.0 c.gcd-h.ensures)

pub returns-else-h-eq1 : goal.returns-else-h-eq1
returns-else-h-eq1 c =
    let f = c.args.f in
    let shared = by_rest _ (nat_abs f.num) c.args.g _ c.requires.0 c.parts-p.ensures.0 c.gcd-h.ensures in
    let positive = divisor_positive (nat_abs f.num) c.args.g _ c.requires.0 shared in
    ap (λ (n : ℕ). eqb n 1)
    (by_rest _ (nat_abs f.den) c.gcd-h.result _ positive c.parts-p.ensures.1 c.gcd.ensures
    ∙ gcd_by (nat_abs f.num) (nat_abs f.den) c.args.g _ c.requires.1 shared)
